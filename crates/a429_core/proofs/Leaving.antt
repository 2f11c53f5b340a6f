-- What an event leaves as it was.
use Rattle.std.proofs.Common.{◌≡◌, ◌+◌, ℕ, false, List, [], ◌∷◌, ◌++◌, length, ◌∙◌, sym, ap, subst, refl}
use Rattle.std.specs.Prelude.{Some, option_map, slice_get}
use Rattle.std.specs.Option.{option_map_or}
use Rattle.a429_equipment.specs.declared.rows.SourceRow.{SourceRow}
use Rattle.a429_slots.specs.Tables.{SlotTable, groups_of}
use Rattle.a429_slots.specs.Proposed.{Proposed}
use Rattle.a429_slots.specs.Events.{Event, Arrive, Cell}
use Rattle.a429_slots.specs.History.{Opening, current, is_cell, is_frame, accepted_in, last_of, proposal_for, published, numbers_left, newest_table, newest_number}
use Rattle.a429_slots.specs.Recalling.{Recent}
use Rattle.a429_core.specs.declared.sources.Kept.{Kept}
use Rattle.a429_slots.specs.declared.answers.Answer.{Answer}
use Rattle.a429_slots.specs.Answers
use Rattle.a429_slots.specs.Answers.{answer}
use Rattle.a429_slots.specs.FrameStates.{FrameState, frame_state_of}
use Rattle.a429_core.specs.MachineStates.{MachineState, StandsForHistory, kept_of, recent_at}
use Rattle.a429_core.specs.MachineSteps.{stepped}
use Rattle.a429_core.proofs.Places.{map_same}
use Rattle.a429_core.proofs.Words.{accepted_none, kept_none}
use Rattle.a429_core.proofs.Answering.{AllRemember, remembers_stay}
use Rattle.a429_core.proofs.Frames.{not_taken}
use Rattle.a429_slots.proofs.Histories.{current_next}

-- ---- what an event leaves

abbrev pub IsSource : ℕ → Opening → List Event → List Kept → ℕ → Type 0
IsSource C o E sources i = slice_get sources i ≡ option_map (λ s. kept_of (accepted_in C o s E)) (slice_get o.proposal.station.sources i)

abbrev pub IsGroup : Opening → List Event → List FrameState → ℕ → Type 0
IsGroup o E groups g = slice_get groups g ≡ option_map (λ p. frame_state_of g (current o g p E)) (slice_get (groups_of o.proposal.plan) g)

-- no source got a word
pub record NoneCame (C : ℕ) (o : Opening) (E : List Event) (e : Event) : Type 0 where
  pub same : (i : ℕ) (s : SourceRow) → slice_get o.proposal.station.sources i ≡ Some s → accepted_in C o s (E ++ e ∷ []) ≡ accepted_in C o s E

pub sources_stay : (C : ℕ) (o : Opening) (E : List Event) (e : Event) (v : MachineState) → StandsForHistory C o E v → NoneCame C o E e → (i : ℕ) → IsSource C o (E ++ e ∷ []) v.sources i
sources_stay C o E e v S N i =
    S.sources i ∙ map_same (λ s. kept_of (accepted_in C o s E)) (λ s. kept_of (accepted_in C o s (E ++ e ∷ []))) (slice_get o.proposal.station.sources i)
    (λ s h. ap kept_of (sym (N.same i s h)))

pub group_stays : (C : ℕ) (o : Opening) (E : List Event) (e : Event) (v : MachineState) → StandsForHistory C o E v → (g : ℕ) → is_frame g e ≡ false → is_cell g e ≡ false → IsGroup o (E ++ e ∷ []) v.groups g
group_stays C o E e v S g h k =
    S.groups g ∙ map_same (λ p. frame_state_of g (current o g p E)) (λ p. frame_state_of g (current o g p (E ++ e ∷ []))) (slice_get (groups_of o.proposal.plan) g)
    (λ p _. sym (ap (frame_state_of g) (current_next o g p E e) ∙ not_taken g (newest_number o E) (newest_table o g p E) (current o g p E) e h k))

-- only groups moved on
pub with_groups : (C : ℕ) (o : Opening) (E : List Event) (e : Event) (v : MachineState) (gs : List FrameState) → StandsForHistory C o E v → NoneCame C o E e → published o (E ++ e ∷ []) ≡ published o E
    → length gs ≡ length v.groups → ((g : ℕ) → IsGroup o (E ++ e ∷ []) gs g) → ((g : ℕ) (p : SlotTable) → slice_get (groups_of o.proposal.plan) g ≡ Some p → is_cell g e ≡ false) → StandsForHistory C o (E ++ e ∷ []) (record v { groups = gs })
with_groups C o E e v gs S none same long groups quiet = record {
  apart = S.apart;
  whole = S.whole;
  station = S.station;
  sources = sources_stay C o E e v S none;
  groups = groups;
  sends = λ g p there i s known. remembers_stay C o E e g p i (recent_at v.sends g i) (quiet g p there) (S.sends g p there i s known);
  size = long ∙ S.size;
  number = S.number ∙ sym (ap (λ (ps : List Proposed). o.proposal.plan.number + length ps) same);
  newest = S.newest ∙ sym (ap (λ (ps : List Proposed). groups_of (option_map_or (λ q. q.plan) (last_of ps) o.proposal.plan)) same);
  as_many = S.as_many;
}

-- only sources got a word
pub with_sources : (C : ℕ) (o : Opening) (E : List Event) (r raw : ℕ) (v : MachineState) (ks : List Kept) → StandsForHistory C o E v → ((i : ℕ) → IsSource C o (E ++ Arrive r raw ∷ []) ks i)
    → StandsForHistory C o (E ++ Arrive r raw ∷ []) (record v { sources = ks })
with_sources C o E r raw v ks S sources =
    let same : published o (E ++ Arrive r raw ∷ []) ≡ published o E = kept_none (proposal_for o) (numbers_left o) E (Arrive r raw) refl in
    record {
      apart = S.apart;
      whole = S.whole;
      station = S.station;
      sources = sources;
      groups = λ g. group_stays C o E (Arrive r raw) v S g refl refl;
      sends = λ g p there i s known. remembers_stay C o E (Arrive r raw) g p i (recent_at v.sends g i) refl (S.sends g p there i s known);
      size = S.size;
      number = S.number ∙ sym (ap (λ (ps : List Proposed). o.proposal.plan.number + length ps) same);
      newest = S.newest ∙ sym (ap (λ (ps : List Proposed). groups_of (option_map_or (λ q. q.plan) (last_of ps) o.proposal.plan)) same);
      as_many = S.as_many;
    }

-- ---- steps

pub record Stepped (C : ℕ) (o : Opening) (E : List Event) (e : Event) (v : MachineState) : Type 0 where
  pub answer : (stepped C v e).0 ≡ Answers.answer C o E e
  pub after : StandsForHistory C o (E ++ e ∷ []) (stepped C v e).1

-- a step, from what the machine made of it
pub step_from : (C : ℕ) (o : Opening) (E : List Event) (e : Event) (v : MachineState) (x : Answer × MachineState) → stepped C v e ≡ x → x.0 ≡ Answers.answer C o E e → StandsForHistory C o (E ++ e ∷ []) x.1 → Stepped C o E e v
step_from C o E e v x q a s = record {
  answer = ap (λ (y : Answer × MachineState). y.0) q ∙ a;
  after = subst (λ (y : Answer × MachineState). StandsForHistory C o (E ++ e ∷ []) y.1) (sym q) s;
}

-- the group went on by a cell
pub with_cell : (C : ℕ) (o : Opening) (E : List Event) (k : ℕ) (v : MachineState) (gs : List FrameState) (ss : List (List Recent)) → StandsForHistory C o E v → length gs ≡ length v.groups
    → ((g : ℕ) → IsGroup o (E ++ Cell k ∷ []) gs g) → AllRemember C o (E ++ Cell k ∷ []) ss → StandsForHistory C o (E ++ Cell k ∷ []) (record v { groups = gs; sends = ss })
with_cell C o E k v gs ss S long groups sends =
    let same : published o (E ++ Cell k ∷ []) ≡ published o E = kept_none (proposal_for o) (numbers_left o) E (Cell k) refl in
    record {
      apart = S.apart;
      whole = S.whole;
      station = S.station;
      sources = sources_stay C o E (Cell k) v S (record { same = λ i s q. accepted_none C o s E (Cell k) refl });
      groups = groups;
      sends = sends;
      size = long ∙ S.size;
      number = S.number ∙ sym (ap (λ (ps : List Proposed). o.proposal.plan.number + length ps) same);
      newest = S.newest ∙ sym (ap (λ (ps : List Proposed). groups_of (option_map_or (λ q. q.plan) (last_of ps) o.proposal.plan)) same);
      as_many = S.as_many;
    }
