-- What a simulation prints, with its end.
use Rattle.std.proofs.Common.{◌∙◌, ◌++◌, ◌∷◌, [], ◌≡◌, ⊎_elim, subst, ℕ, Bool, true, false, List, ap, inl, inr, refl, sym, append-nil, append_assoc}
use Rattle.std.specs.Prelude.{Option, Result, Ok, Err, MatchResult}
use Rattle.std.specs.Io.KnownBytes.{Appends, append_known}
use Rattle.a429_slots.specs.Proposed.{Proposed}
use Rattle.a429_console.specs.Outputs.{OrNoMemory, ending, memory_refused, status_of}
use Rattle.a429_console.specs.RefusalText.{refusal_line}
use Rattle.a429_console.specs.WholeReplies.{IsReplyPut}
use Rattle.a429_console.specs.declared.refusals.CommandRefusal.{CommandRefusal}
use Rattle.a429_console.specs.declared.refusals.CommandRefusal.TheVariants as refused
use Rattle.a429_console.specs.declared.reply.Reply.{Reply}
use Rattle.a429_given.specs.GivenTables.{TableTexts}
use Rattle.a429_recordings.specs.LogViews.{View}
use Rattle.a429_recordings.specs.SimulationReplies.{ArePrinted, AreSimulationFiles, IsPrinting, IsSimulated, IsSimulation, IsWritten, SimulationFiles, heading}
use Rattle.a429_recordings.specs.Simulating.{text_of}
use Rattle.a429_recordings.specs.Timeline.{end_of}
use Rattle.a429_recordings.specs.declared.simulate.SimulationForm.{SimulationForm}
use Rattle.a429_recordings.specs.declared.simulate.lines.LineStyle.{LineStyle}
use Rattle.a429_recordings.specs.declared.simulate.log.LogWord.{LogWord}
use Rattle.a429_replay.proofs.PutLines.{Appends-ended, Appends-text, Appends-then}

-- all lines, or the first ones, with their end
pub printed_ended : (q : Proposed) (words : List LogWord) (last : ℕ) (style : LineStyle) (all : Bool) (bytes : List ℕ) → ArePrinted q words last style all bytes
    → IsPrinting q words last style (status_of all) ((heading style ++ bytes) ++ ending all)
printed_ended q words last style true bytes (told, (moments, timeline, all), text) =
    inl ((moments, timeline, append-nil (heading style ++ bytes) ∙ ap (λ (bs : List ℕ). heading style ++ bs) (text ∙ ap (text_of q style) all)), refl)
printed_ended q words last style false bytes (moments, n, begun, text) =
    inr (heading style ++ bytes, (moments, n, begun, ap (λ (bs : List ℕ). heading style ++ bs) text), refl, sym (append_assoc (heading style ++ bytes) memory_refused (10 ∷ [])))

-- what is put of a reply that is no refusal but `refused memory`
pub reply_or_memory : (Says : ℕ → List ℕ → Type 0) (result : Result Reply CommandRefusal) (status : ℕ) (bytes : List ℕ)
    → MatchResult result (λ reply. Says reply.status reply.bytes.items) (λ refusal. refusal ≡ refused.Memory)
    → IsReplyPut 1 result status bytes → OrNoMemory Says status bytes
reply_or_memory Says (Ok reply) status bytes says (is, same) =
    inl (subst (λ (n : ℕ). Says n bytes) (sym is) (subst (λ (t : List ℕ). Says reply.status t) (sym same) says))
reply_or_memory Says (Err refusal) status bytes why (told, is, one, line) =
    let memory : told ≡ refused.Memory = ⊎_elim (λ same. same ∙ why) (λ none. none) is in
    inr (one, line ∙ ap (λ (e : CommandRefusal). refusal_line e ++ 10 ∷ []) memory)

-- they were put out
pub heading_first : (old mid new : Option (List ℕ)) (head text bytes end : List ℕ) → Appends (append_known old head) (append_known mid text) bytes → Appends mid new (text ++ end)
    → Appends old new ((head ++ bytes) ++ end)
heading_first old mid new head text bytes end lines last =
    Appends-ended old mid new text (head ++ bytes) end (Appends-then (append_known old []) (append_known old head) (append_known mid text) head bytes (Appends-text old [] head) lines) last

-- what a simulation that begins so prints, as the reply to these files
pub simulated_reply : (file : List ℕ → Option (List ℕ)) (table : TableTexts) (log : List (List ℕ)) (view : View) (form : SimulationForm) (i : SimulationFiles) (q : Proposed) (words : List LogWord)
    → AreSimulationFiles file table log view i → IsSimulated i form.reading q words → (status : ℕ) (bytes : List ℕ)
    → OrNoMemory (IsWritten q words (end_of q words form.until) form.summary form.style form.form) status bytes → IsSimulation file table log view form status bytes
simulated_reply file table log view form i q words read simulated status bytes (inl printing) = inr (i, q, words, read, simulated, printing)
simulated_reply file table log view form i q words read simulated status bytes (inr memory) = inl (refused.Memory, tt, memory.0, memory.1)
