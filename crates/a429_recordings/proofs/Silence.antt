-- Steps of a machine that has accepted no word: no word is sent, and only the places of the groups change.
use Rattle.std.proofs.Common.{◌≡◌, ◌∙◌, ◌-◌, ◌^◌, ℕ, List, [], ◌∷◌, ◌++◌, inl, inr, length, refl, sym, ap, ap₂, subst, append-nil, append_assoc}
use Rattle.std.specs.Prelude.{⊤, Option, Some, None, nat_lt, option_map, slice_get}
use Rattle.std.specs.List.{AllByRecursion}
use Rattle.std.proofs.lemmas.Bool.{cases_Bool}
use Rattle.std.proofs.lemmas.Option.{none-some, same_Some}
use Rattle.a429_word.proofs.Lists.{none_cut}
use Rattle.a429_equipment.specs.Limits.{count_bits}
use Rattle.a429_equipment.specs.declared.rows.SourceRow.{SourceRow}
use Rattle.a429_slots.specs.Events.{Event}
use Rattle.a429_slots.specs.FrameStates.{FrameState}
use Rattle.a429_slots.specs.History.{accepted_in as accepted_words}
use Rattle.a429_slots.specs.Proposed.{Proposed}
use Rattle.a429_slots.specs.declared.senders.Due.{Due}
use Rattle.a429_core.specs.MachineStates.{GoesOnByEvents, IsWholeEvent, MachineState, kept_of}
use Rattle.a429_core.specs.MachineSteps.{CallsAreAnswered, OtherCellsHaveNoWord, after_asked, asked_cell, cell_asked, cell_sent, frame_asked, frame_at, send_kept, send_last, sent_in, sent_of, stepped, word_at}
use Rattle.a429_core.specs.declared.sends.SentCell.{SentCell}
use Rattle.a429_core.specs.declared.sources.Kept.{Kept}
use Rattle.a429_recordings.specs.Simulating.{Step, Asks, Comes, Turns, answer_after, happenings_after, happening_after, history_of, listed, opening_of, times_of}
use Rattle.a429_recordings.specs.SimulationRuns.{StandsAfter}
use Rattle.a429_recordings.specs.declared.simulate.machine.Happening.{Happening}
use Rattle.a429_recordings.specs.declared.simulate.machine.Run.{Run}
use Rattle.a429_recordings.proofs.SimulatedSteps.{goes_on, quiet_cell, stands_on}

-- no word is kept of any source
abbrev pub IsIdle : MachineState → Type 0
IsIdle v = (i : ℕ) (k : Kept) → slice_get v.sources i ≡ Some k → k.last ≡ None

abbrev pub with_groups : Run → List FrameState → Run
with_groups r G = record r { state = record r.state { groups = G } }

-- ---- one step

-- a cell of an idle station has no word, and changes the places of groups alone
record IsQuietCell (v : MachineState) (g : ℕ) (asked : Option (ℕ × ℕ × Option Due)) : Type 0 where
  pub after : (sent_in v g asked).1 ≡ v
  pub sent : sent_of v g asked ≡ None

no_word : (v : MachineState) (g slot : ℕ) (due : Due) → IsIdle v → word_at v g slot due ≡ (None, v)
no_word v g slot due idle = by (slice_get v.sources due.source) refl
  where
    by : (x : Option Kept) → slice_get v.sources due.source ≡ x → send_kept v g slot due x ≡ (None, v)
    by None is = refl
    by (Some k) is = ap (send_last v g slot due k.count) (idle due.source k is)

quiet_by : (v : MachineState) (g : ℕ) (asked : Option (ℕ × ℕ × Option Due)) → IsIdle v → IsQuietCell v g asked
quiet_by v g None idle = record { after = refl; sent = refl }
quiet_by v g (Some (bus, slot, None)) idle = record { after = refl; sent = refl }
quiet_by v g (Some (bus, slot, Some due)) idle = let none = no_word v g slot due idle in record {
  after = ap (λ (x : Option ℕ × MachineState). x.1) none;
  sent = ap (λ (x : Option ℕ × MachineState). option_map {U = SentCell} (λ word. record { bus = bus; slot = slot; source = due.source; word = word }) x.0) none;
}

idle_cell : (v : MachineState) (g : ℕ) → IsIdle v → (G : List FrameState) × ((cell_asked v g).1 ≡ record v { groups = G }) × (cell_sent v g ≡ None)
idle_cell v g idle = elim (cases_Bool (nat_lt g (length v.groups))) [
  | inl there ↦
      let w : MachineState = record v { groups = after_asked v.groups g } in
      let Q = quiet_by w g (asked_cell v.groups g) idle in
      (after_asked v.groups g, rw there Q.after, rw there Q.sent)
  | inr none ↦ (v.groups, rw none refl, rw none refl)
]

idle_frame : (v : MachineState) (g : ℕ) → (G : List FrameState) × ((frame_asked v g).1 ≡ record v { groups = G })
idle_frame v g = elim (cases_Bool (nat_lt g (length v.groups))) [
  | inl there ↦ ((frame_at v.groups v.newest g).1, rw there refl)
  | inr none ↦ (v.groups, rw none refl)
]

-- ---- all steps

-- no word comes in
abbrev pub IsQuiet : Step → Type 0
IsQuiet (Comes w) = ⊥
IsQuiet (Asks g t) = ⊤
IsQuiet (Turns g) = ⊤

-- the machine has taken these steps too, in which nothing happened
pub record Passes (q : Proposed) (past steps : List Step) (r : Run) : Type 0 where
  pub groups : List FrameState
  pub stands : StandsAfter q (past ++ steps) (with_groups r groups)
  pub quiet : happenings_after q past steps ≡ []

-- a step, and those after it
passes_then : (q : Proposed) (past steps : List Step) (s : Step) (r : Run) (G : List FrameState) → None ≡ happening_after q past s → Passes q (past ++ s ∷ []) steps (with_groups r G)
    → Passes q past (s ∷ steps) r
passes_then q past steps s r G none P = record {
  groups = P.groups;
  stands = subst (λ (p : List Step). StandsAfter q p (with_groups r P.groups)) (append_assoc past (s ∷ []) steps) P.stands;
  quiet = ap₂ (λ (x : Option Happening) (y : List Happening). listed x ++ y) (sym none) P.quiet;
}

module _ (calls : CallsAreAnswered) (goes : (C : ℕ) (e : Event) (v : MachineState) → IsWholeEvent e → GoesOnByEvents C v (e ∷ []) (stepped C v e).1) (unsent : OtherCellsHaveNoWord) (q : Proposed) where
  pub all_pass : (steps past : List Step) (r : Run) → AllByRecursion IsQuiet steps → StandsAfter q past r → IsIdle r.state → Passes q past steps r
  all_pass [] past r quiet S idle = record { groups = r.state.groups; stands = subst (λ (p : List Step). StandsAfter q p r) (sym (append-nil past)) S; quiet = refl }
  all_pass (Comes w ∷ steps) past r quiet S idle = absurd quiet.0
  all_pass (Asks g t ∷ steps) past r quiet S idle =
      let s = Asks g t in
      let (G, after, none) = idle_cell r.state g idle in
      let (given, state) = goes_on calls goes q past s r S (record r.state { groups = G }) (sym after) in
      let next : StandsAfter q (past ++ s ∷ []) (with_groups r G) = stands_on q past s r (with_groups r G) S refl state refl in
      passes_then q past steps s r G
      (quiet_cell q (times_of q past) g t (answer_after q past s) (λ bus slot raw e. unsent count_bits (opening_of q) (history_of past) r.state g bus slot raw S.state none e))
      (all_pass steps (past ++ s ∷ []) (with_groups r G) quiet.1 next idle)
  all_pass (Turns g ∷ steps) past r quiet S idle =
      let s = Turns g in
      let (G, after) = idle_frame r.state g in
      let (given, state) = goes_on calls goes q past s r S (record r.state { groups = G }) (sym after) in
      let next : StandsAfter q (past ++ s ∷ []) (with_groups r G) = stands_on q past s r (with_groups r G) S refl state refl in
      passes_then q past steps s r G refl (all_pass steps (past ++ s ∷ []) (with_groups r G) quiet.1 next idle)

-- ---- at the begin

pub idle_at_first : (q : Proposed) (r : Run) → StandsAfter q [] r → IsIdle r.state
idle_at_first q r S i k there = by (slice_get q.station.sources i) (sym there ∙ S.state.sources i)
  where
    by : (x : Option SourceRow) → Some k ≡ option_map (λ s. kept_of (accepted_words count_bits (opening_of q) s [])) x → k.last ≡ None
    by None is = absurd (none-some k (sym is))
    by (Some s) is =
        ap (λ (y : Kept). y.last) (same_Some k (kept_of (accepted_words count_bits (opening_of q) s [])) is)
        ∙ ap (λ (ws : List ℕ). (kept_of ws).last) (none_cut (2 ^ count_bits - 1))
