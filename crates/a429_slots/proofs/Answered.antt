-- The answered cells of a group, and the places of a history at which they were asked for.
use Rattle.std.proofs.Common.{◌≡◌, ℕ, zero, suc, ◌+◌, ◌<◌, ◌≤◌, ◌/◌, ◌%◌, Bool, true, false, true≢false, List, [], ◌∷◌, ◌++◌, length, take, ◌∙◌, sym, ap, subst, refl, inl, inr, arith, append-nil}
use Rattle.std.specs.Prelude.{Option, Some, None, ◌&&◌, ◌||◌, ◌==◌, is_some, nat_lt, slice_get, option_map, option_and_then, if◌then◌else◌}
use Rattle.std.specs.List.{list_any}
use Rattle.std.specs.Option.{option_map_or}
use Rattle.std.proofs.lemmas.List.{reverse-append, reverse-reverse}
use Rattle.std.proofs.lemmas.List.Folds.{list_any-append}
use Rattle.std.proofs.lemmas.Bool.{cases_eq, cases_lt, eq-eqb, eqb-true, lt-ltb, ltb-true, and_parts}
use Rattle.std.proofs.lemmas.Option.{none-some, same_Some, slice_get_cases, slice_get_within}
use Rattle.a429_word.proofs.Lists.{or_parts, some_word}
use Rattle.a429_slots.specs.Tables.{Placed, SlotTable, buses_of, cells_of, output_in}
use Rattle.a429_slots.specs.Events.{Event, Arrive, Cell, Frame, Publish}
use Rattle.a429_slots.specs.History.{Opening, Current, AnsweredCell, current, is_cell, cells_since, cell_due, answered_after, answered_cells, answered_cell, next_answered, has_sent, is_held, is_too_close}
use Rattle.a429_slots.specs.Spacing.{IsOutputCell, Sends, IsTooClose, IsSentWithin, answered_at}
use Rattle.a429_slots.proofs.Histories.{take_following}

-- ---- one more event

abbrev pub more_cells : List AnsweredCell → Option AnsweredCell → List AnsweredCell
more_cells earlier next = earlier ++ option_map_or (λ c. c ∷ []) next []

abbrev pub next_of : ℕ → Opening → ℕ → SlotTable → List Event → Option AnsweredCell
next_of C o g p E = next_answered C o E g (current o g p E) (answered_cells C o g p E)

pub answered_push : (C : ℕ) (o : Opening) (g : ℕ) (p : SlotTable) (E : List Event) (e : Event)
    → answered_cells C o g p (E ++ e ∷ []) ≡ (if is_cell g e then more_cells (answered_cells C o g p E) (next_of C o g p E) else answered_cells C o g p E)
answered_push C o g p E e = ap (answered_after C o g p) (reverse-append E (e ∷ []))
    ∙ ap (λ (F : List Event). if is_cell g e then more_cells (answered_cells C o g p E) (next_answered C o F g (current o g p E) (answered_cells C o g p E)) else answered_cells C o g p E) (reverse-reverse E)

pub cell_event : (g : ℕ) (e : Event) → is_cell g e ≡ true → e ≡ Cell g
cell_event g (Arrive r raw) h = absurd (true≢false (sym h))
cell_event g (Cell k) h = ap Cell (eqb-true k g h)
cell_event g (Frame k) h = absurd (true≢false (sym h))
cell_event g (Publish q) h = absurd (true≢false (sym h))

-- ---- the due cell

pub record IsDueCell (g : ℕ) (f : Current) (cell : ℕ × ℕ) : Type 0 where
  pub due : cells_since g f < cells_of f.table
  pub bus : cell.0 ≡ cells_since g f % buses_of f.table
  pub slot : cell.1 ≡ cells_since g f / buses_of f.table

pub due_is : (g : ℕ) (f : Current) (cell : ℕ × ℕ) → cell_due g f ≡ Some cell → IsDueCell g f cell
due_is g f cell h = go (nat_lt (cells_since g f) (cells_of f.table)) refl h
  where
    go : (b : Bool) → nat_lt (cells_since g f) (cells_of f.table) ≡ b → (if b then Some (cells_since g f % buses_of f.table, cells_since g f / buses_of f.table) else None) ≡ Some cell → IsDueCell g f cell
    go true lt is =
        let same = same_Some (cells_since g f % buses_of f.table, cells_since g f / buses_of f.table) cell is in
        record { due = ltb-true (cells_since g f) (cells_of f.table) lt; bus = sym (ap (λ (c : ℕ × ℕ). c.0) same); slot = sym (ap (λ (c : ℕ × ℕ). c.1) same) }
    go false ge is = absurd (none-some cell is)

next_is : (C : ℕ) (o : Opening) (g : ℕ) (p : SlotTable) (E : List Event) (k : ℕ) (output : Placed) (slot : ℕ) → IsOutputCell o g p E k output slot → next_of C o g p (take k E) ≡ Some (answered_at C o g p E k output slot)
next_is C o g p E k output slot I =
    let f = current o g p (take k E) in
    rw (I.due, I.stands) (ap (λ (s : ℕ). Some (answered_cell C o (take k E) (answered_cells C o g p (take k E)) s output)) (sym I.counted))

-- a cell that is answered next is one of an output
record IsNext (C : ℕ) (o : Opening) (g : ℕ) (p : SlotTable) (E : List Event) (c : AnsweredCell) : Type 0 where
  pub cell : ℕ × ℕ
  pub output : Placed
  pub due : cell_due g (current o g p E) ≡ Some cell
  pub stands : output_in (current o g p E).table cell.0 cell.1 ≡ Some output
  pub is : c ≡ answered_cell C o E (answered_cells C o g p E) ((current o g p E).first + cell.1) output

from_next : (C : ℕ) (o : Opening) (g : ℕ) (p : SlotTable) (E : List Event) (c : AnsweredCell) → next_of C o g p E ≡ Some c → IsNext C o g p E c
from_next C o g p E c h = by_due (cell_due g (current o g p E)) refl h
  where
    by_output : (cell : ℕ × ℕ) → cell_due g (current o g p E) ≡ Some cell → (x : Option Placed) → output_in (current o g p E).table cell.0 cell.1 ≡ x
        → option_map (answered_cell C o E (answered_cells C o g p E) ((current o g p E).first + cell.1)) x ≡ Some c → IsNext C o g p E c
    by_output cell due None there is = absurd (none-some c is)
    by_output cell due (Some output) there is = record {
      cell = cell;
      output = output;
      due = due;
      stands = there;
      is = sym (same_Some (answered_cell C o E (answered_cells C o g p E) ((current o g p E).first + cell.1) output) c is);
    }

    by_due : (d : Option (ℕ × ℕ)) → cell_due g (current o g p E) ≡ d
        → option_and_then (λ cell. option_map (answered_cell C o E (answered_cells C o g p E) ((current o g p E).first + cell.1)) (output_in (current o g p E).table cell.0 cell.1)) d ≡ Some c → IsNext C o g p E c
    by_due None due is = absurd (none-some c is)
    by_due (Some cell) due is = by_output cell due (output_in (current o g p E).table cell.0 cell.1) refl is

-- ---- a test that some answered cell passes

-- it passes at an earlier place
pub record Passes (C : ℕ) (o : Opening) (g : ℕ) (p : SlotTable) (E : List Event) (k : ℕ) (test : AnsweredCell → Bool) : Type 0 where
  pub place : ℕ
  pub before : place < k
  pub output : Placed
  pub slot : ℕ
  pub cell : IsOutputCell o g p E place output slot
  pub passes : test (answered_at C o g p E place output slot) ≡ true

sooner : (C : ℕ) (o : Opening) (g : ℕ) (p : SlotTable) (E : List Event) (k : ℕ) (test : AnsweredCell → Bool) → Passes C o g p E k test → Passes C o g p E (suc k) test
sooner C o g p E k test P = record { place = P.place; before = omega (arith, P.before); output = P.output; slot = P.slot; cell = P.cell; passes = P.passes }

or_right : (a : Bool) → (a || true) ≡ true
or_right true = refl
or_right false = refl

pub event_at : (E : List Event) (k : ℕ) → k < length E → (e : Event) × (slice_get E k ≡ Some e)
event_at E k below = elim (slice_get_cases E k).1 [
  | inl hit ↦ (hit.0, hit.2)
  | inr miss ↦ absurd (omega (arith, below, miss.0))
]

pub some_place : (C : ℕ) (o : Opening) (g : ℕ) (p : SlotTable) (E : List Event) (test : AnsweredCell → Bool) (k : ℕ) → k ≤ length E → list_any test (answered_cells C o g p (take k E)) ≡ true → Passes C o g p E k test
some_place C o g p E test zero few h = absurd (true≢false (sym h))
some_place C o g p E test (suc k) few h =
    let (e, there) = event_at E k (omega (arith, few)) in
    let cells : answered_cells C o g p (take (suc k) E) ≡ (if is_cell g e then more_cells (answered_cells C o g p (take k E)) (next_of C o g p (take k E)) else answered_cells C o g p (take k E)) =
    ap (answered_cells C o g p) (take_following E k e there) ∙ answered_push C o g p (take k E) e in
    by_event (λ old. some_place C o g p E test k (omega (arith, few)) old) e there (is_cell g e) refl (ap (list_any test) (sym cells) ∙ h)
  where
    by_next : (list_any test (answered_cells C o g p (take k E)) ≡ true → Passes C o g p E k test) → slice_get E k ≡ Some (Cell g) → (x : Option AnsweredCell) → next_of C o g p (take k E) ≡ x → list_any test (more_cells (answered_cells C o g p (take k E)) x) ≡ true → Passes C o g p E (suc k) test
    by_next before asked None is any =
        sooner C o g p E k test (before (ap (list_any test) (sym (append-nil (answered_cells C o g p (take k E)))) ∙ any))
    by_next before asked (Some c) is any = elim (or_parts (list_any test (answered_cells C o g p (take k E))) (list_any test (c ∷ [])) (sym (list_any-append test (answered_cells C o g p (take k E)) (c ∷ [])) ∙ any)) [
      | inl old ↦ sooner C o g p E k test (before old)
      | inr new ↦
          let N = from_next C o g p (take k E) c is in
          let own : test c ≡ true = elim (or_parts (test c) false new) [ inl yes' ↦ yes' | inr no' ↦ absurd (true≢false (sym no')) ] in
          record {
            place = k;
            before = omega arith;
            output = N.output;
            slot = (current o g p (take k E)).first + N.cell.1;
            cell = record { asked = asked; cell = N.cell; due = N.due; stands = N.stands; counted = refl };
            passes = ap test (sym N.is) ∙ own;
          }
    ]

    by_event : (list_any test (answered_cells C o g p (take k E)) ≡ true → Passes C o g p E k test) → (e : Event) → slice_get E k ≡ Some e → (b : Bool) → is_cell g e ≡ b → list_any test (if b then more_cells (answered_cells C o g p (take k E)) (next_of C o g p (take k E)) else answered_cells C o g p (take k E)) ≡ true
        → Passes C o g p E (suc k) test
    by_event before e there false other any = sooner C o g p E k test (before any)
    by_event before e there true own any = by_next before (there ∙ ap (λ (x : Event). Some x) (cell_event g e own)) (next_of C o g p (take k E)) refl any

-- and the other way round
pub passes_later : (C : ℕ) (o : Opening) (g : ℕ) (p : SlotTable) (E : List Event) (test : AnsweredCell → Bool) (j : ℕ) (output : Placed) (slot : ℕ) → IsOutputCell o g p E j output slot
    → test (answered_at C o g p E j output slot) ≡ true → (k : ℕ) → j < k → k ≤ length E → list_any test (answered_cells C o g p (take k E)) ≡ true
passes_later C o g p E test j output slot I passes zero after few = absurd (omega (arith, after))
passes_later C o g p E test j output slot I passes (suc k) after few =
    let (e, there) = event_at E k (omega (arith, few)) in
    let cells : answered_cells C o g p (take (suc k) E) ≡ (if is_cell g e then more_cells (answered_cells C o g p (take k E)) (next_of C o g p (take k E)) else answered_cells C o g p (take k E)) =
    ap (answered_cells C o g p) (take_following E k e there) ∙ answered_push C o g p (take k E) e in
    ap (list_any test) cells ∙ elim (cases_eq j k) [
      | inl same ↦
          let next : next_of C o g p (take k E) ≡ Some (answered_at C o g p E j output slot) = subst (λ (n : ℕ). next_of C o g p (take n E) ≡ Some (answered_at C o g p E j output slot)) same (next_is C o g p E j output slot I) in
          let here : e ≡ Cell g = same_Some e (Cell g) (sym there ∙ (ap (slice_get E) (sym same) ∙ I.asked)) in
          let own : is_cell g e ≡ true = ap (is_cell g) here ∙ eq-eqb g g refl in
          rw (own, next) (list_any-append test (answered_cells C o g p (take k E)) (answered_at C o g p E j output slot ∷ [])
          ∙ rw passes (or_right (list_any test (answered_cells C o g p (take k E)))))
      | inr other ↦
          let old = passes_later C o g p E test j output slot I passes k (omega (arith, after, other)) (omega (arith, few)) in
          by_event (is_cell g e) (next_of C o g p (take k E)) old
    ]
  where
    by_event : (b : Bool) (x : Option AnsweredCell) → list_any test (answered_cells C o g p (take k E)) ≡ true
        → list_any test (if b then more_cells (answered_cells C o g p (take k E)) x else answered_cells C o g p (take k E)) ≡ true
    by_event false x old = old
    by_event true x old = list_any-append test (answered_cells C o g p (take k E)) (option_map_or (λ c. c ∷ []) x []) ∙ rw old refl

-- ---- words of one source are apart

open_where_sent : (held close : Bool) (x : Option ℕ) (word : ℕ) → (if held || close then None else x) ≡ Some word → close ≡ false
open_where_sent true close x word h = absurd (none-some word h)
open_where_sent false true x word h = absurd (none-some word h)
open_where_sent false false x word h = refl

pub words_apart : (C : ℕ) (o : Opening) (g : ℕ) (p : SlotTable) (E : List Event) (j k : ℕ) (earlier now : Placed) (u t w x : ℕ) → j < k → Sends C o g p E j earlier u w → Sends C o g p E k now t x → earlier.source ≡ now.source
    → u + now.limits.spacing ≤ t
words_apart C o g p E j k earlier now u t w x after A B same =
    let q = now.limits.spacing in
    elim (cases_lt t (u + q)) [
      | inr far ↦ far
      | inl near ↦
          let test = λ (c : AnsweredCell). has_sent now.source c && nat_lt t (c.slot + q) in
          let own : (earlier.source == now.source) ≡ true = eq-eqb earlier.source now.source same in
          let passes : test (answered_at C o g p E j earlier u) ≡ true = rw (A.sent, own, lt-ltb t (u + q) near) refl in
          let inside : k < length E = slice_get_within E k (Cell g) B.cell.asked in
          let close : is_too_close (answered_cells C o g p (take k E)) t now.source q ≡ true = passes_later C o g p E test j earlier u A.cell passes k after (omega (arith, inside)) in
          let apart = open_where_sent (is_held (answered_cells C o g p (take k E)) now.source now.limits.hold _) (is_too_close (answered_cells C o g p (take k E)) t now.source q) _ x B.sent in
          absurd (true≢false (sym close ∙ apart))
    ]

pub sent_within : (C : ℕ) (o : Opening) (g : ℕ) (p : SlotTable) (E : List Event) (k : ℕ) (now : Placed) (t : ℕ) → k < length E → IsTooClose C o g p E k now t → IsSentWithin C o g p E k now t
sent_within C o g p E k now t inside close =
    let q = now.limits.spacing in
    let test = λ (c : AnsweredCell). has_sent now.source c && nat_lt t (c.slot + q) in
    let P = some_place C o g p E test k (omega (arith, inside)) close in
    let c = answered_at C o g p E P.place P.output P.slot in
    let (sent, near) = and_parts (has_sent now.source c) (nat_lt t (c.slot + q)) P.passes in
    let (word, same) = and_parts (is_some c.word) (c.source == now.source) sent in
    let (w, is) = some_word c.word word in
    record {
      place = P.place;
      before = P.before;
      earlier = P.output;
      at = P.slot;
      word = w;
      sends = record { cell = P.cell; sent = is };
      same = eqb-true P.output.source now.source same;
      close = ltb-true t (P.slot + q) near;
    }
