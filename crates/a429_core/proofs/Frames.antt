-- How the frame of a group goes on by an event.
use Rattle.std.proofs.Common.{◌≡◌, ℕ, ◌+◌, true, false, ◌∙◌, ap, refl, inl, inr, arith}
use Rattle.std.specs.Prelude.{min, nat_lt, nat_le}
use Rattle.std.proofs.lemmas.Bool.{cases_lt, cases_Bool, lt-ltb, le-ltb, lt-leb, le-leb}
use Rattle.a429_slots.specs.Tables.{SlotTable, cells_of}
use Rattle.a429_slots.specs.Events.{Event}
use Rattle.a429_slots.specs.History.{Current, is_cell, is_frame, cells_since, has_room}
use Rattle.a429_slots.specs.Answers.{frame_answer}
use Rattle.a429_slots.specs.FrameStates.{after_cell, frame_state_of}
use Rattle.a429_core.specs.MachineSteps.{framed}
use Rattle.a429_slots.proofs.Histories.{cells_next, goes_on, gone_on}
use Rattle.a429_slots.proofs.GoingOn.{still, sent_at}

pub not_taken : (g n : ℕ) (now : SlotTable) (f : Current) (e : Event) → is_frame g e ≡ false → is_cell g e ≡ false → frame_state_of g (gone_on g n now f e) ≡ frame_state_of g f
not_taken g n now f e h k = rw h (still g f e k)

pub cell_goes_on : (g : ℕ) (f : Current) (e : Event) → is_cell g e ≡ true → frame_state_of g (goes_on f e) ≡ after_cell (frame_state_of g f)
cell_goes_on g f e k =
    let more : cells_since g (goes_on f e) ≡ 1 + cells_since g f = cells_next g f e ∙ rw k refl in
    let c = cells_since g f in
    let n = cells_of f.table in
    ap (λ (m : ℕ). sent_at g f (min m n)) more ∙ elim (cases_lt c n) [
      | inl lt ↦
          let all : min c n ≡ c = omega arith in
          let next : min (1 + c) n ≡ c + 1 = omega arith in
          rw (all, next, lt-ltb c n lt) refl
      | inr ge ↦
          let all : min c n ≡ n = omega arith in
          let next : min (1 + c) n ≡ n = omega arith in
          rw (all, next, le-ltb n n (omega arith)) refl
    ]

pub cell_push : (g n : ℕ) (now : SlotTable) (f : Current) (e : Event) → is_frame g e ≡ false → is_cell g e ≡ true → frame_state_of g (gone_on g n now f e) ≡ after_cell (frame_state_of g f)
cell_push g n now f e h k = rw h (cell_goes_on g f e k)

-- what a Frame does and is answered
pub record Turned (g n : ℕ) (now : SlotTable) (f : Current) (e : Event) : Type 0 where
  pub answer : (framed (frame_state_of g f) n now).0 ≡ frame_answer g n now f
  pub after : frame_state_of g (gone_on g n now f e) ≡ (framed (frame_state_of g f) n now).1

pub frame_push : (g n : ℕ) (now : SlotTable) (f : Current) (e : Event) → is_frame g e ≡ true → is_cell g e ≡ false → Turned g n now f e
frame_push g n now f e h k =
    let c = cells_since g f in
    let m = cells_of f.table in
    elim (cases_lt c m) [
      | inl lt ↦
          let all : min c m ≡ c = omega arith in
          let unover : nat_le m c ≡ false = lt-leb m c lt in
          record {
            answer = rw (all, lt-ltb c m lt, unover) refl;
            after = rw (h, unover, still g f e k, all, lt-ltb c m lt) refl;
          }
      | inr ge ↦
          let all : min c m ≡ m = omega arith in
          let over : nat_le m c ≡ true = le-leb m c ge in
          let none : nat_lt m m ≡ false = le-ltb m m (omega arith) in
          let start : min 0 (cells_of now) ≡ 0 = omega arith in
          elim (cases_Bool (has_room f now)) [
            | inl room ↦ record {
              answer = rw (all, none, over, room) refl;
              after = rw (h, over, room, all, none, start) refl;
            }
            | inr full ↦ record {
              answer = rw (all, none, over, full) refl;
              after = rw (h, over, full, still g f e k, all, none) refl;
            }
          ]
    ]
