-- The source of a word that a group sends, by one plan from slot 0.
use Rattle.std.proofs.Common.{◌≡◌, ◌∙◌, ◌+◌, ◌*◌, ℕ, inl, inr, List, [], ◌∷◌, ◌++◌, length, refl, sym, ap, subst, arith}
use Rattle.std.specs.Prelude.{Option, Some, None, filter_map, nat_lt, option_and_then, option_map, slice_get, take, unwrap_or}
use Rattle.std.specs.Option.{option_map_or}
use Rattle.std.proofs.lemmas.Bool.{cases_Bool}
use Rattle.std.proofs.lemmas.List.Elements.{filter_map-append}
use Rattle.std.proofs.lemmas.Option.{none-some, same_Some}
use Rattle.a429_word.proofs.Lists.{get_within, none_cut}
use Rattle.a429_slots.specs.Events.{Event}
use Rattle.a429_slots.specs.FrameStates.{FrameState, due_of, frame_state_of, next_cell}
use Rattle.a429_slots.specs.History.{Current, Opening, OpensWith, current, last_of, newest_table, numbers_left, proposal_for, published}
use Rattle.a429_slots.specs.Planned.{IsPlannedAt, rated_outputs}
use Rattle.a429_slots.specs.Proposed.{Proposed}
use Rattle.a429_slots.specs.Tables.{Placed, SlotTable, frame_of, groups_of, output_in, source_at}
use Rattle.a429_slots.specs.TakenFrames.{is_taken_after}
use Rattle.a429_slots.specs.declared.senders.Due.{Due}
use Rattle.a429_slots.proofs.Histories.{by_ends, new_frame, same_frame}
use Rattle.a429_slots.proofs.SpacedTables.{row_of}
use Rattle.a429_core.specs.MachineStates.{MachineState}
use Rattle.a429_core.specs.MachineSteps.{after_asked, asked_cell, cell_sent, placed_cell, sent_of, word_at}
use Rattle.a429_core.specs.declared.sends.SentCell.{SentCell}
use Rattle.a429_core.proofs.ComingRound.{comes_round}
use Rattle.a429_recordings.specs.Simulating.{Step, Asks, Comes, Turns, history_of, opening_of, source_in}
use Rattle.a429_recordings.specs.SimulationRuns.{HasPlannedGroup, StandsAfter}
use Rattle.a429_recordings.specs.Timeline.{table_of}
use Rattle.a429_recordings.specs.declared.simulate.machine.Run.{Run}
use Rattle.a429_recordings.proofs.SimulatedSteps.{table_at}

-- ---- the content of the cell of a word that is sent

abbrev asked_type : Type 0
asked_type = Option (ℕ × ℕ × Option Due)

record Stands (s : SentCell) (asked : asked_type) : Type 0 where
  pub due : Due
  pub cell : asked ≡ Some (s.bus, s.slot, Some due)
  pub source : due.source ≡ s.source

stands_by : (v : MachineState) (g : ℕ) (s : SentCell) (asked : asked_type) → sent_of v g asked ≡ Some s → Stands s asked
stands_by v g s None h = absurd (none-some s h)
stands_by v g s (Some (bus, slot, None)) h = absurd (none-some s h)
stands_by v g s (Some (bus, slot, Some due)) h = go (word_at v g slot due).0 h
  where
    go : (w : Option ℕ) → option_map (λ word. record { bus = bus; slot = slot; source = due.source; word = word }) w ≡ Some s → Stands s (Some (bus, slot, Some due))
    go None e = absurd (none-some s e)
    go (Some w) e =
        let same = same_Some (record { bus = bus; slot = slot; source = due.source; word = w }) s e in
        record { due = due; cell = ap (λ (x : SentCell). Some (x.bus, x.slot, Some due)) same; source = ap (λ (x : SentCell). x.source) same }

stands : (v : MachineState) (g : ℕ) (s : SentCell) → cell_sent v g ≡ Some s → Stands s (asked_cell v.groups g)
stands v g s h = elim (cases_Bool (nat_lt g (length v.groups))) [
  | inl there ↦ stands_by (record v { groups = after_asked v.groups g }) g s (asked_cell v.groups g) (rw there at h)
  | inr none ↦ absurd (none-some s (rw none at h))
]

-- and in the frame
record StandsInFrame (f : FrameState) (bus slot source : ℕ) : Type 0 where
  pub on : ℕ
  pub counted : slot ≡ f.first + on
  pub output : Placed
  pub there : output_in f.table bus on ≡ Some output
  pub same : source ≡ output.source

output_due : (y : Option Placed) (due : Due) → option_map due_of y ≡ Some due → (x : Placed) × (y ≡ Some x) × (due.source ≡ x.source)
output_due None due h = absurd (none-some due h)
output_due (Some x) due h = (x, refl, ap (λ (d : Due). d.source) (sym (same_Some (due_of x) due h)))

stands_in_frame : (f : FrameState) (c : Option (ℕ × ℕ)) (bus slot : ℕ) (due : Due) → placed_cell f c ≡ Some (bus, slot, Some due) → StandsInFrame f bus slot due.source
stands_in_frame f None bus slot due h = absurd (none-some _ h)
stands_in_frame f (Some (b, n)) bus slot due h =
    let same : (b, f.first + n, option_map due_of (output_in f.table b n)) ≡ (bus, slot, Some due) = same_Some _ _ h in
    let here : b ≡ bus = ap (λ (x : ℕ × ℕ × Option Due). x.0) same in
    let due_is : option_map due_of (output_in f.table b n) ≡ Some due = ap (λ (x : ℕ × ℕ × Option Due). x.2) same in
    let (x, there, source) = output_due (output_in f.table b n) due due_is in
    record {
      on = n;
      counted = sym (ap (λ (x : ℕ × ℕ × Option Due). x.1) same);
      output = x;
      there = subst (λ (k : ℕ). output_in f.table k n ≡ Some x) here there;
      same = source;
    }

-- ---- frames by one plan

pub none_published : (o : Opening) (steps : List Step) → filter_map (proposal_for o) (history_of steps) ≡ []
none_published o [] = refl
none_published o (Comes w ∷ steps) = none_published o steps
none_published o (Asks g t ∷ steps) = none_published o steps
none_published o (Turns g ∷ steps) = none_published o steps

left_nil : {A : Type 0} (xs ys : List A) → xs ++ ys ≡ [] → xs ≡ []
left_nil [] ys h = refl
left_nil (x ∷ xs) ys h = absurd (cc h)

pub table_kept : (o : Opening) (g : ℕ) (p : SlotTable) (E : List Event) → OpensWith o g p → filter_map (proposal_for o) E ≡ [] → newest_table o g p E ≡ p
table_kept o g p E opens none =
    let nothing : published o E ≡ [] = ap (λ (qs : List Proposed). take (numbers_left o) qs) none ∙ none_cut (numbers_left o) in
    ap (λ (qs : List Proposed). unwrap_or (slice_get (groups_of (option_map_or (λ q. q.plan) (last_of qs) o.proposal.plan)) g) p) nothing
    ∙ ap (λ (x : Option SlotTable). unwrap_or x p) opens

-- the table is the opening one, and whole frames came before
pub record IsWholeFrames (p : SlotTable) (f : Current) : Type 0 where
  pub table : f.table ≡ p
  pub times : ℕ
  pub first : f.first ≡ times * frame_of p

pub whole_frames : (o : Opening) (g : ℕ) (p : SlotTable) → OpensWith o g p → o.first ≡ 0 → (E : List Event) → filter_map (proposal_for o) E ≡ [] → IsWholeFrames p (current o g p E)
whole_frames o g p opens begins =
    by_ends (λ (E : List Event). filter_map (proposal_for o) E ≡ [] → IsWholeFrames p (current o g p E))
    (λ none. record { table = refl; times = 0; first = omega (arith, begins) })
    (λ E e before none.
    let earlier : filter_map (proposal_for o) E ≡ [] = left_nil (filter_map (proposal_for o) E) (filter_map (proposal_for o) (e ∷ [])) (sym (filter_map-append (proposal_for o) E (e ∷ [])) ∙ none) in
    let W = before earlier in
    let f = current o g p E in
    elim (cases_Bool (is_taken_after o g p E e)) [
      | inl taken ↦
          let now = new_frame o g p E e taken in
          let first : (current o g p (E ++ e ∷ [])).first ≡ f.first + frame_of f.table = ap (λ (c : Current). c.first) now in
          let slots : frame_of f.table ≡ frame_of p = ap frame_of W.table in
          let more : (W.times + 1) * frame_of p ≡ W.times * frame_of p + frame_of p = omega arith in
          record { table = ap (λ (c : Current). c.table) now ∙ table_kept o g p E opens earlier; times = W.times + 1; first = omega (arith, first, slots, more, W.first) }
      | inr left ↦
          let now = same_frame o g p E e left in
          record { table = ap (λ (c : Current). c.table) now ∙ W.table; times = W.times; first = ap (λ (c : Current). c.first) now ∙ W.first }
    ])

-- the source is that of the plan's output in the cell
pub sent_source : (q : Proposed) (past : List Step) (r : Run) (g : ℕ) (s : SentCell) → HasPlannedGroup q g → StandsAfter q past r → cell_sent r.state g ≡ Some s
    → s.source ≡ source_in q g s.bus s.slot
sent_source q past r g s known S sent =
    let o = opening_of q in
    let E = history_of past in
    let (p, there) = get_within (groups_of q.plan) g known.1 in
    let f = current o g p E in
    let W = whole_frames o g p there refl E (none_published o past) in
    let state : slice_get r.state.groups g ≡ Some (frame_state_of g f) = S.state.groups g ∙ ap (λ (x : Option SlotTable). option_map (λ t. frame_state_of g (current o g t E)) x) there in
    let A = stands r.state g s sent in
    let cell : placed_cell (frame_state_of g f) (next_cell (frame_state_of g f)) ≡ Some (s.bus, s.slot, Some A.due) =
    sym (ap (λ (x : Option FrameState). option_and_then (λ y. placed_cell y (next_cell y)) x) state) ∙ A.cell in
    let F = stands_in_frame (frame_state_of g f) (next_cell (frame_state_of g f)) s.bus s.slot A.due cell in
    let output : output_in p s.bus F.on ≡ Some F.output = subst (λ (t : SlotTable). output_in t s.bus F.on ≡ Some F.output) W.table F.there in
    let slot : s.slot ≡ W.times * frame_of p + F.on = F.counted ∙ ap (λ (n : ℕ). n + F.on) W.first in
    let R = row_of (IsPlannedAt q.station.sources) (rated_outputs q.station) (groups_of q.plan) g p S.planned.groups there in
    let round : source_at p s.bus (W.times * frame_of p + F.on) ≡ Some F.output.source = comes_round R.row.0 q.station.sources R.row.1 p W.times s.bus F.on F.output R.related output in
    let found : source_at (table_of q g) s.bus s.slot ≡ Some F.output.source =
    subst (λ (t : SlotTable). source_at t s.bus s.slot ≡ Some F.output.source) (sym (table_at q g p there)) (subst (λ (n : ℕ). source_at p s.bus n ≡ Some F.output.source) (sym slot) round) in
    sym A.source ∙ (F.same ∙ sym (ap (λ (x : Option ℕ). unwrap_or x 0) found))
