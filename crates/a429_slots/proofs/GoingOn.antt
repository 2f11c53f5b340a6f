-- How the frame of a group, and the cells that it has answered, go on by one more event.
use Rattle.std.proofs.Common.{◌≡◌, ℕ, ◌+◌, true, false, List, [], ◌∷◌, ◌++◌, ◌∙◌, ap, refl, inl, inr, arith}
use Rattle.std.specs.Prelude.{Option, Some, None, if◌then◌else◌, min, option_to_list}
use Rattle.std.specs.Option.{option_map_or}
use Rattle.std.proofs.lemmas.Bool.{cases_lt, cases_Bool, lt-ltb, le-ltb, lt-leb, le-leb, eq-eqb}
use Rattle.a429_slots.specs.Tables.{SlotTable, cells_of}
use Rattle.a429_slots.specs.Events.{Event, Cell, Frame}
use Rattle.a429_slots.specs.History.{Current, AnsweredCell, current, is_cell, is_over, has_room, cells_since, newest_number, newest_table, answered_cells, next_answered}
use Rattle.a429_slots.specs.FrameStates.{FrameState, frame_state_of}
use Rattle.a429_slots.specs.GoingOn.{AnsweredCellsGrow, CellsCount, FramesTurn, OthersPass, TellsFrameAnswer, TellsNextCell, after_frame}
use Rattle.a429_slots.proofs.Histories.{goes_on, gone_on, current_next, cells_next}
use Rattle.a429_slots.proofs.Answered.{answered_push}

-- ---- the state of the group

abbrev pub sent_at : ℕ → Current → ℕ → FrameState
sent_at g f n = record { table = f.table; first = f.first; sent = n }

pub still : (g : ℕ) (f : Current) (e : Event) → is_cell g e ≡ false → frame_state_of g (goes_on f e) ≡ frame_state_of g f
still g f e other =
    let same : cells_since g (goes_on f e) ≡ cells_since g f = cells_next g f e ∙ rw other (omega arith) in
    ap (λ (m : ℕ). sent_at g f (min m (cells_of f.table))) same

pub others_pass : OthersPass
others_pass o g p E e h k = ap (frame_state_of g) (current_next o g p E e) ∙ rw h (still g (current o g p E) e k)

pub cells_count : CellsCount
cells_count o g p E =
    let f = current o g p E in
    let c = cells_since g f in
    let n = cells_of f.table in
    let more : cells_since g (goes_on f (Cell g)) ≡ 1 + c = cells_next g f (Cell g) ∙ rw (eq-eqb g g refl) refl in
    ap (frame_state_of g) (current_next o g p E (Cell g)) ∙ (ap (λ (m : ℕ). sent_at g f (min m n)) more ∙ elim (cases_lt c n) [
      | inl lt ↦
          let all : min c n ≡ c = omega (arith, lt) in
          let next : min (1 + c) n ≡ c + 1 = omega (arith, lt) in
          rw (all, next, lt-ltb c n lt) refl
      | inr ge ↦
          let all : min c n ≡ n = omega (arith, ge) in
          let next : min (1 + c) n ≡ n = omega (arith, ge) in
          rw (all, next, le-ltb n n (omega arith)) refl
    ])

turn : (g number : ℕ) (now : SlotTable) (f : Current) → frame_state_of g (gone_on g number now f (Frame g)) ≡ after_frame (frame_state_of g f) now
turn g number now f =
    let c = cells_since g f in
    let n = cells_of f.table in
    let own = eq-eqb g g refl in
    elim (cases_lt c n) [
      | inl lt ↦
          let all : min c n ≡ c = omega (arith, lt) in
          let mid : is_over g f ≡ false = lt-leb n c lt in
          let stays : frame_state_of g (gone_on g number now f (Frame g)) ≡ frame_state_of g f = rw (own, mid) (still g f (Frame g) refl) in
          stays ∙ rw (all, lt-ltb c n lt) refl
      | inr ge ↦
          let all : min c n ≡ n = omega (arith, ge) in
          let over : is_over g f ≡ true = le-leb n c ge in
          let none = le-ltb n n (omega arith) in
          elim (cases_Bool (has_room f now)) [
            | inl room ↦
                let start : min 0 (cells_of now) ≡ 0 = omega arith in
                rw (own, over, all, none, room, start) refl
            | inr full ↦
                let stays : frame_state_of g (gone_on g number now f (Frame g)) ≡ frame_state_of g f = rw (own, over, full) (still g f (Frame g) refl) in
                stays ∙ rw (all, none, full) refl
          ]
    ]

pub frames_turn : FramesTurn
frames_turn o g p E = ap (frame_state_of g) (current_next o g p E (Frame g)) ∙ turn g (newest_number o E) (newest_table o g p E) (current o g p E)

-- ---- what that determines

pub next_cell_is : TellsNextCell
next_cell_is g f =
    let c = cells_since g f in
    let n = cells_of f.table in
    elim (cases_lt c n) [
      | inl lt ↦ let all : min c n ≡ c = omega (arith, lt) in rw all refl
      | inr ge ↦ let all : min c n ≡ n = omega (arith, ge) in rw (all, le-ltb c n ge, le-ltb n n (omega arith)) refl
    ]

pub frame_answer_is : TellsFrameAnswer
frame_answer_is g number newest f =
    let c = cells_since g f in
    let n = cells_of f.table in
    elim (cases_lt c n) [
      | inl lt ↦
          let all : min c n ≡ c = omega (arith, lt) in
          let mid : is_over g f ≡ false = lt-leb n c lt in
          rw (mid, all, lt-ltb c n lt) refl
      | inr ge ↦
          let all : min c n ≡ n = omega (arith, ge) in
          let over : is_over g f ≡ true = le-leb n c ge in
          rw (over, all, le-ltb n n (omega arith)) refl
    ]

-- ---- the answered cells

pub answered_grow : AnsweredCellsGrow
answered_grow C o g p E e =
    let earlier = answered_cells C o g p E in
    answered_push C o g p E e
    ∙ ap (λ (cs : List AnsweredCell). if is_cell g e then earlier ++ cs else earlier) (as_list (next_answered C o E g (current o g p E) earlier))
  where
    as_list : (x : Option AnsweredCell) → option_map_or (λ c. c ∷ []) x [] ≡ option_to_list x
    as_list None = refl
    as_list (Some c) = refl
