-- The event of a text's first line, by its verb and the name after it.
use Rattle.std.proofs.Common.{◌≡◌, ◌∙◌, ℕ, List, ◌∷◌, ◌++◌, ◌<◌, length, length-append, arith, refl, sym, ap, append_assoc}
use Rattle.std.specs.Prelude.{None, option_map, codes}
use Rattle.a429_text.specs.CutText.{cut}
use Rattle.a429_console.specs.Lines.{first_entry}
use Rattle.a429_console.specs.Names.{Naming}
use Rattle.a429_replay.specs.Kept.{IsWordLine, StartsWithEvent}
use Rattle.a429_replay.specs.NameLists.{BeginsWithName}
use Rattle.a429_replay.specs.Script.{event_by, line_event}
use Rattle.a429_replay.specs.declared.script.ScriptEvent.TheVariants.{Arrive, Cell, Frame}
use Rattle.a429_replay.proofs.PlainTexts.{cut-after, cut_none-append, cut_none-cons, raw_word_plain}

-- the first line of a text, by its verb and the words after it
first_entry-verb : (names : Naming) (further : ℕ) (verb words rest : List ℕ) → cut 10 verb ≡ None → cut 32 verb ≡ None → cut 10 words ≡ None
    → first_entry (line_event names further) (verb ++ 32 ∷ (words ++ 10 ∷ rest)) ≡ option_map (λ e. (e, rest)) (event_by names further verb words)
unfolding line_event
first_entry-verb names further verb words rest unbroken whole plain =
    let line : verb ++ 32 ∷ (words ++ 10 ∷ rest) ≡ (verb ++ 32 ∷ words) ++ 10 ∷ rest = sym (append_assoc verb (32 ∷ words) (10 ∷ rest)) in
    let none : cut 10 (verb ++ 32 ∷ words) ≡ None = cut_none-append 10 verb (32 ∷ words) unbroken (cut_none-cons 10 32 words refl plain) in
    rw (line, cut-after 10 (verb ++ 32 ∷ words) rest none, cut-after 32 verb words whole) refl

shorter_by : (verb words rest text : List ℕ) → text ≡ verb ++ 32 ∷ (words ++ 10 ∷ rest) → length rest < length text
shorter_by verb words rest text is =
    let long : length text ≡ length (verb ++ 32 ∷ (words ++ 10 ∷ rest)) = ap length is in
    omega (arith, long, length-append verb (32 ∷ (words ++ 10 ∷ rest)), length-append words (10 ∷ rest))

pub cell_line : (names : Naming) (text words rest : List ℕ) (group : ℕ) → text ≡ codes "cell " ++ words → BeginsWithName names.groups 10 words group rest → StartsWithEvent names text (Cell group) rest
unfolding cut
cell_line names text words rest group is named =
    let read : text ≡ codes "cell" ++ 32 ∷ (named.name ++ 10 ∷ rest) = is ∙ ap (λ (w : List ℕ). codes "cell " ++ w) named.reads in
    record {
      states = λ further. rw (read, first_entry-verb names further (codes "cell") named.name rest refl refl named.plain.0, named.numbered) refl;
      kept = λ further. (tt, tt);
      shorter = shorter_by (codes "cell") named.name rest text read;
    }

pub frame_line : (names : Naming) (text words rest : List ℕ) (group : ℕ) → text ≡ codes "frame " ++ words → BeginsWithName names.groups 10 words group rest → StartsWithEvent names text (Frame group) rest
unfolding cut
frame_line names text words rest group is named =
    let read : text ≡ codes "frame" ++ 32 ∷ (named.name ++ 10 ∷ rest) = is ∙ ap (λ (w : List ℕ). codes "frame " ++ w) named.reads in
    record {
      states = λ further. rw (read, first_entry-verb names further (codes "frame") named.name rest refl refl named.plain.0, named.numbered) refl;
      kept = λ further. (tt, tt);
      shorter = shorter_by (codes "frame") named.name rest text read;
    }

pub arrive_line : (names : Naming) (text words word rest : List ℕ) (receiver raw : ℕ) → text ≡ codes "arrive " ++ words → BeginsWithName names.receivers 32 words receiver word → IsWordLine word raw rest
    → StartsWithEvent names text (Arrive receiver raw) rest
unfolding cut
arrive_line names text words word rest receiver raw is named (digits, after, value) =
    let line : words ≡ (named.name ++ 32 ∷ digits) ++ 10 ∷ rest =
    named.reads ∙ (ap (λ (w : List ℕ). named.name ++ 32 ∷ w) after ∙ sym (append_assoc named.name (32 ∷ digits) (10 ∷ rest))) in
    let read : text ≡ codes "arrive" ++ 32 ∷ ((named.name ++ 32 ∷ digits) ++ 10 ∷ rest) = is ∙ ap (λ (w : List ℕ). codes "arrive " ++ w) line in
    let plain : cut 10 (named.name ++ 32 ∷ digits) ≡ None =
    cut_none-append 10 named.name (32 ∷ digits) named.plain.0 (cut_none-cons 10 32 digits refl (raw_word_plain digits raw value)) in
    record {
      states = λ further. rw (read, first_entry-verb names further (codes "arrive") (named.name ++ 32 ∷ digits) rest refl refl plain, cut-after 32 named.name digits named.plain.1, named.numbered, value) refl;
      kept = λ further. (tt, tt);
      shorter = shorter_by (codes "arrive") (named.name ++ 32 ∷ digits) rest text read;
    }
