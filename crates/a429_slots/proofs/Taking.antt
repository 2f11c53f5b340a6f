-- The frame that a group is in at a place of a history, by the taken Frames before it.
use Rattle.std.proofs.Common.{◌≡◌, ℕ, zero, suc, ◌+◌, ◌^◌, ◌<◌, ◌≤◌, Bool, true, false, List, [], ◌∷◌, ◌++◌, length, take, drop, ◌∙◌, sym, ap, refl, inl, inr, arith, append-nil}
use Rattle.std.specs.Prelude.{Option, Some, cond, filter, slice_get, if◌then◌else◌, ◌&&◌, sum_by, count_by}
use Rattle.std.specs.Option.{option_map_or}
use Rattle.std.specs.List.{range_with_len}
use Rattle.std.proofs.lemmas.List.{length-take-le, drop-append-le, drop_all}
use Rattle.std.proofs.lemmas.List.Elements.{filter-append}
use Rattle.std.proofs.lemmas.List.Sums.{sum_by-append}
use Rattle.std.proofs.lemmas.Bool.{cases_Bool, and_parts, leb-true, ltb-true, lt-ltb, le-leb, eq-eqb, eqb-true}
use Rattle.std.proofs.lemmas.Option.{slice_get_cases}
use Rattle.a429_word.proofs.Lists.{clash, range_next}
use Rattle.a429_slots.specs.Tables.{SlotTable, frame_of, cells_of}
use Rattle.a429_slots.specs.Events.{Event, Arrive, Cell, Frame, Publish}
use Rattle.a429_slots.specs.History.{Opening, Current, current, is_cell, is_frame, is_over, has_room, next_frame, cells_since, last_of, newest_number, newest_table}
use Rattle.a429_slots.specs.TakenFrames.{taken_before, last_taken, table_in_force, events_since, IsTakenAt, AreTakenFrames, is_taken_after, is_taken_at, IsFrameAt}
use Rattle.a429_slots.proofs.Histories.{take_following, goes_on, cells_next, same_frame, new_frame}
use Rattle.a429_equipment.proofs.Cutting.{last_push}

-- the place at which the frame began
abbrev began : (ℕ → Bool) → ℕ → ℕ
began T k = option_map_or (λ j. j + 1) (last_taken T k) 0

record Reached (o : Opening) (g : ℕ) (p : SlotTable) (E : List Event) (T : ℕ → Bool) (k : ℕ) : Type 0 where
  pub frame : IsFrameAt o g p E T k (current o g p (take k E))
  pub low : began T k ≤ k

from_zero : (k : ℕ) → range_with_len 0 (suc k) ≡ range_with_len 0 k ++ k ∷ []
from_zero k = let e : 0 + k ≡ k = omega arith in range_next 0 k ∙ ap (λ (m : ℕ). range_with_len 0 k ++ m ∷ []) e

taken_yes : (T : ℕ → Bool) (k : ℕ) → T k ≡ true → taken_before T (suc k) ≡ taken_before T k ++ k ∷ []
taken_yes T k h = ap (filter T) (from_zero k) ∙ (filter-append T (range_with_len 0 k) (k ∷ []) ∙ rw h refl)

taken_no : (T : ℕ → Bool) (k : ℕ) → T k ≡ false → taken_before T (suc k) ≡ taken_before T k
taken_no T k h = ap (filter T) (from_zero k) ∙ (filter-append T (range_with_len 0 k) (k ∷ []) ∙ rw h (append-nil (taken_before T k)))

-- ---- the opening

Reached-zero : (o : Opening) (g : ℕ) (p : SlotTable) (E : List Event) (T : ℕ → Bool) → Reached o g p E T 0
Reached-zero o g p E T = record {
  frame = record { table = refl; number = refl; first = omega arith; cells = refl };
  low = omega arith;
}

-- ---- one event more

record Next (o : Opening) (g : ℕ) (p : SlotTable) (E : List Event) (T : ℕ → Bool) (k : ℕ) (e : Event) : Type 0 where
  pub before : Reached o g p E T k
  pub within : k < length E
  pub more : take (suc k) E ≡ take k E ++ e ∷ []

-- the Frame is taken
Reached-taken : (o : Opening) (g : ℕ) (p : SlotTable) (E : List Event) (T : ℕ → Bool) (k : ℕ) (e : Event) → Next o g p E T k e → T k ≡ true → is_taken_after o g p (take k E) e ≡ true → Reached o g p E T (suc k)
Reached-taken o g p E T k e N h taken =
    let F = take k E in
    let f = current o g p F in
    let places : taken_before T (suc k) ≡ taken_before T k ++ k ∷ [] = taken_yes T k h in
    let last : last_taken T (suc k) ≡ Some k = ap (λ (ks : List ℕ). last_of ks) places ∙ last_push (taken_before T k) k in
    let now : current o g p (take (suc k) E) ≡ next_frame (newest_number o F) (newest_table o g p F) f = ap (current o g p) N.more ∙ new_frame o g p F e taken in
    let none : events_since E T (suc k) ≡ [] =
    ap (λ (j : Option ℕ). drop (option_map_or (λ m. m + 1) j 0) (take (suc k) E)) last
    ∙ drop_all (k + 1) (take (suc k) E) (omega (arith, length-take-le (suc k) E (omega (arith, N.within)))) in
    let left : sum_by (λ j. frame_of (table_in_force o g p E T j)) (taken_before T (suc k)) ≡ sum_by (λ j. frame_of (table_in_force o g p E T j)) (taken_before T k) + frame_of (table_in_force o g p E T k) =
    ap (sum_by (λ j. frame_of (table_in_force o g p E T j))) places
    ∙ (sum_by-append (λ j. frame_of (table_in_force o g p E T j)) (taken_before T k) (k ∷ []) ∙ omega arith) in
    record {
      frame = record {
        table = ap (λ (c : Current). c.table) now ∙ ap (λ (j : Option ℕ). option_map_or (λ m. newest_table o g p (take m E)) j p) (sym last);
        number = ap (λ (c : Current). c.number) now ∙ ap (λ (j : Option ℕ). option_map_or (λ m. newest_number o (take m E)) j o.proposal.plan.number) (sym last);
        first = ap (λ (c : Current). c.first) now ∙ omega (arith, N.before.frame.first, left, ap frame_of N.before.frame.table);
        cells = ap (cells_since g) now ∙ ap (count_by (is_cell g)) (sym none);
      };
      low = let here : began T (suc k) ≡ k + 1 = ap (λ (j : Option ℕ). option_map_or (λ m. m + 1) j 0) last in omega arith;
    }

-- it is not
Reached-not_taken : (o : Opening) (g : ℕ) (p : SlotTable) (E : List Event) (T : ℕ → Bool) (k : ℕ) (e : Event) → Next o g p E T k e → T k ≡ false → is_taken_after o g p (take k E) e ≡ false → Reached o g p E T (suc k)
Reached-not_taken o g p E T k e N h taken =
    let F = take k E in
    let f = current o g p F in
    let places : taken_before T (suc k) ≡ taken_before T k = taken_no T k h in
    let last : last_taken T (suc k) ≡ last_taken T k = ap (λ (ks : List ℕ). last_of ks) places in
    let now : current o g p (take (suc k) E) ≡ goes_on f e = ap (current o g p) N.more ∙ same_frame o g p F e taken in
    let since : events_since E T (suc k) ≡ events_since E T k ++ e ∷ [] =
    ap (λ (j : Option ℕ). drop (option_map_or (λ m. m + 1) j 0) (take (suc k) E)) last
    ∙ (ap (drop (began T k)) N.more ∙ drop-append-le (began T k) F (e ∷ []) (omega (arith, N.before.low, N.within, length-take-le k E (omega (arith, N.within))))) in
    let more : count_by (is_cell g) (events_since E T (suc k)) ≡ count_by (is_cell g) (events_since E T k) + (if is_cell g e then 1 else 0) =
    ap (count_by (is_cell g)) since ∙ (sum_by-append (λ x. cond (is_cell g x) 1 0) (events_since E T k) (e ∷ []) ∙ omega arith) in
    record {
      frame = record {
        table = ap (λ (c : Current). c.table) now ∙ (N.before.frame.table ∙ ap (λ (j : Option ℕ). option_map_or (λ m. newest_table o g p (take m E)) j p) (sym last));
        number = ap (λ (c : Current). c.number) now ∙ (N.before.frame.number ∙ ap (λ (j : Option ℕ). option_map_or (λ m. newest_number o (take m E)) j o.proposal.plan.number) (sym last));
        first = ap (λ (c : Current). c.first) now ∙ (N.before.frame.first ∙ ap (λ (ks : List ℕ). o.first + sum_by (λ j. frame_of (table_in_force o g p E T j)) ks) (sym places));
        cells = ap (cells_since g) now ∙ (cells_next g f e ∙ omega (arith, N.before.frame.cells, more));
      };
      low = let here : began T (suc k) ≡ began T k = ap (λ (j : Option ℕ). option_map_or (λ m. m + 1) j 0) last in omega (arith, here, N.before.low);
    }

-- T agrees with the frame that the group is in, as long as that is known
Agrees : Opening → ℕ → SlotTable → List Event → (ℕ → Bool) → Type 0
Agrees o g p E T = (k : ℕ) → k < length E → Reached o g p E T k → T k ≡ is_taken_at o g p E k

reached_next : (o : Opening) (g : ℕ) (p : SlotTable) (E : List Event) (T : ℕ → Bool) (k : ℕ) → k < length E → T k ≡ is_taken_at o g p E k → Reached o g p E T k → Reached o g p E T (suc k)
reached_next o g p E T k within same R = elim (slice_get_cases E k).1 [
  | inl hit ↦
      let e = hit.0 in
      let is : is_taken_at o g p E k ≡ is_taken_after o g p (take k E) e = ap (λ (x : Option Event). option_map_or (is_taken_after o g p (take k E)) x false) hit.2 in
      let N : Next o g p E T k e = record { before = R; within = within; more = take_following E k e hit.2 } in
      elim (cases_Bool (is_taken_after o g p (take k E) e)) [
        | inl taken ↦ Reached-taken o g p E T k e N (same ∙ (is ∙ taken)) taken
        | inr left ↦ Reached-not_taken o g p E T k e N (same ∙ (is ∙ left)) left
      ]
  | inr miss ↦ absurd (omega (arith, within, miss.0))
]

reached : (o : Opening) (g : ℕ) (p : SlotTable) (E : List Event) (T : ℕ → Bool) → Agrees o g p E T → (k : ℕ) → k ≤ length E → Reached o g p E T k
unfolding Agrees
reached o g p E T agrees zero within = Reached-zero o g p E T
reached o g p E T agrees (suc k) within =
    let before = reached o g p E T agrees k (omega (arith, within)) in
    let room : k < length E = omega (arith, within) in
    reached_next o g p E T k room (agrees k room before) before

-- ---- what takes a Frame

pub frame_event : (g : ℕ) (e : Event) → is_frame g e ≡ true → e ≡ Frame g
frame_event g (Arrive r raw) h = absurd (clash h)
frame_event g (Cell k) h = absurd (clash h)
frame_event g (Frame k) h = ap Frame (eqb-true k g h)
frame_event g (Publish q) h = absurd (clash h)

to_sentence : (o : Opening) (g : ℕ) (p : SlotTable) (E : List Event) (T : ℕ → Bool) (k : ℕ) (e : Event) → Reached o g p E T k → slice_get E k ≡ Some e → is_taken_after o g p (take k E) e ≡ true → IsTakenAt o g p E T k
to_sentence o g p E T k e R there taken =
    let f = current o g p (take k E) in
    let newest = newest_table o g p (take k E) in
    let parts = and_parts (is_frame g e) (is_over g f && has_room f newest) taken in
    let over = and_parts (is_over g f) (has_room f newest) parts.1 in
    let cells = leb-true (cells_of f.table) (cells_since g f) over.0 in
    let room = ltb-true (f.first + frame_of f.table + frame_of newest) (2 ^ 64) over.1 in
    record {
      asked = there ∙ ap (λ (x : Event). Some x) (frame_event g e parts.0);
      over = omega (arith, cells, ap cells_of R.frame.table, R.frame.cells);
      room = omega (arith, room, ap frame_of R.frame.table, R.frame.first);
    }

from_sentence : (o : Opening) (g : ℕ) (p : SlotTable) (E : List Event) (T : ℕ → Bool) (k : ℕ) → Reached o g p E T k → IsTakenAt o g p E T k → is_taken_at o g p E k ≡ true
from_sentence o g p E T k R S =
    let f = current o g p (take k E) in
    let newest = newest_table o g p (take k E) in
    let over : is_over g f ≡ true = le-leb (cells_of f.table) (cells_since g f) (omega (arith, S.over, ap cells_of R.frame.table, R.frame.cells)) in
    let room : has_room f newest ≡ true = lt-ltb (f.first + frame_of f.table + frame_of newest) (2 ^ 64) (omega (arith, S.room, ap frame_of R.frame.table, R.frame.first)) in
    ap (λ (x : Option Event). option_map_or (is_taken_after o g p (take k E)) x false) S.asked ∙ rw (eq-eqb g g refl, over, room) refl

sentence : (o : Opening) (g : ℕ) (p : SlotTable) (E : List Event) (T : ℕ → Bool) (k : ℕ) → Reached o g p E T k → is_taken_at o g p E k ≡ true → IsTakenAt o g p E T k
sentence o g p E T k R h = elim (slice_get_cases E k).1 [
  | inl hit ↦
      let is : is_taken_at o g p E k ≡ is_taken_after o g p (take k E) hit.0 = ap (λ (x : Option Event). option_map_or (is_taken_after o g p (take k E)) x false) hit.2 in
      to_sentence o g p E T k hit.0 R hit.2 (sym is ∙ h)
  | inr miss ↦ absurd (clash (sym (ap (λ (x : Option Event). option_map_or (is_taken_after o g p (take k E)) x false) miss.1) ∙ h))
]

Agrees-is_taken_at : (o : Opening) (g : ℕ) (p : SlotTable) (E : List Event) → Agrees o g p E (is_taken_at o g p E)
unfolding Agrees
Agrees-is_taken_at o g p E k within R = refl

pub frame_at : (o : Opening) (g : ℕ) (p : SlotTable) (E : List Event) (k : ℕ) → k ≤ length E → IsFrameAt o g p E (is_taken_at o g p E) k (current o g p (take k E))
frame_at o g p E k within = (reached o g p E (is_taken_at o g p E) (Agrees-is_taken_at o g p E) k within).frame

pub are_taken : (o : Opening) (g : ℕ) (p : SlotTable) (E : List Event) → AreTakenFrames o g p E (is_taken_at o g p E)
are_taken o g p E k within =
    let R = reached o g p E (is_taken_at o g p E) (Agrees-is_taken_at o g p E) k (omega (arith, within)) in
    (sentence o g p E (is_taken_at o g p E) k R, from_sentence o g p E (is_taken_at o g p E) k R)

-- two tests that stand for one fact are equal
same_test : (a b : Bool) → (a ≡ true → b ≡ true) → (b ≡ true → a ≡ true) → a ≡ b
same_test true b f h = sym (f refl)
same_test false true f h = h refl
same_test false false f h = refl

agrees : (o : Opening) (g : ℕ) (p : SlotTable) (E : List Event) (T : ℕ → Bool) → AreTakenFrames o g p E T → Agrees o g p E T
unfolding Agrees
agrees o g p E T taken k within R =
    same_test (T k) (is_taken_at o g p E k) (λ h. from_sentence o g p E T k R ((taken k within).0 h)) (λ h. (taken k within).1 (sentence o g p E T k R h))

pub no_other : (o : Opening) (g : ℕ) (p : SlotTable) (E : List Event) (T : ℕ → Bool) → AreTakenFrames o g p E T → (k : ℕ) → k < length E → T k ≡ is_taken_at o g p E k
unfolding Agrees
no_other o g p E T taken k within = agrees o g p E T taken k within (reached o g p E T (agrees o g p E T taken) k (omega (arith, within)))
