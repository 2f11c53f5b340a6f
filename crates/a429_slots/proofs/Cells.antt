-- The cells of a group's slot table.
use Rattle.std.proofs.Common.{◌≡◌, ℕ, ◌+◌, ◌*◌, ◌%◌, ◌^◌, ◌<◌, ◌≤◌, length, get_or, arith, refl, ap, sym, subst, true, false, nat_eq}
use Rattle.std.specs.Prelude.{Bool, IsTrue, Some, None, ◌↔◌, slice_get}
use Rattle.std.specs.List.{position_or_len}
use Rattle.std.proofs.lemmas.List.Quantifiers.{position-Some}
use Rattle.std.proofs.lemmas.List.Sums.{position_or_len_is}
use Rattle.std.proofs.lemmas.Bool.{lt-ltb, le-ltb, eq-eqb, eqb-true, and_parts}
use Rattle.std.proofs.lemmas.Option.{slice_get-get_or}
use Rattle.a429_word.proofs.Lists.{clash, false_unless}
use Rattle.a429_grid.specs.Reversal.{reversed}
use Rattle.a429_pack.specs.Orders.{NamesEachOnce}
use Rattle.a429_pack.specs.Sums.{Holds}
use Rattle.a429_slots.specs.Tables.{Placed, SlotTable, placed_at, frame_of, buses_of, stands_in, cell_at, unplaced}
use Rattle.a429_slots.specs.Kept.{HoldsCell, HoldsJustItsCells, IsTable, StandsJustAt, stretches_of}
use Rattle.a429_slots.proofs.Stretches.{stretch_holds}

pub output_is : (t : SlotTable) (o : ℕ) → o < length t.outputs → slice_get t.outputs o ≡ Some (placed_at t o)
output_is t o below = slice_get-get_or t.outputs o unplaced below

-- the layout order has each output once
abbrev pub HasEach : SlotTable → Type 0
HasEach t = NamesEachOnce (length t.outputs) t.order

-- no two stretches hold one place
abbrev pub AreApart : SlotTable → Type 0
AreApart t = (x i j : ℕ) → Holds (stretches_of t) x i → Holds (stretches_of t) x j → i ≡ j

-- an output is in a cell if and only if the cell is of its block
pub stands : (t : SlotTable) (o bus slot : ℕ) → HoldsJustItsCells t o → HoldsCell t o bus slot → stands_in bus slot (placed_at t o) ≡ true
stands t o bus slot just holds =
    let x : Placed = placed_at t o in
    let (row, at) = (just.cells bus slot).0 holds in
    let first : nat_eq x.place.bus bus ≡ true = eq-eqb x.place.bus bus (sym row) in
    let second : nat_eq (slot % 2 ^ x.place.period) x.place.offset ≡ true = eq-eqb (slot % 2 ^ x.place.period) x.place.offset at in
    rw (first, second) refl

holds_where : (t : SlotTable) (o bus slot : ℕ) → HoldsJustItsCells t o → stands_in bus slot (placed_at t o) ≡ true → HoldsCell t o bus slot
holds_where t o bus slot just there =
    let x : Placed = placed_at t o in
    let (row, at) = and_parts (nat_eq x.place.bus bus) (nat_eq (slot % 2 ^ x.place.period) x.place.offset) there in
    (just.cells bus slot).1 (sym (eqb-true x.place.bus bus row), eqb-true (slot % 2 ^ x.place.period) x.place.offset at)

-- a test that an output has a cell tests whether the cell is its own
pub stands_if : (t : SlotTable) (o bus slot : ℕ) (has : Bool) → HoldsJustItsCells t o → IsTrue has ↔ HoldsCell t o bus slot → has ≡ stands_in bus slot (placed_at t o)
stands_if t o bus slot true just same = sym (stands t o bus slot just (same.0 refl))
stands_if t o bus slot false just same = sym (false_unless (stands_in bus slot (placed_at t o)) (λ there. clash (same.1 (holds_where t o bus slot just there))))

-- the place in the order of an output that is in a cell: its stretch has the cell
pub held_by : (n : ℕ) (t : SlotTable) → IsTable n t → HasEach t → (o bus slot : ℕ) → o < length t.outputs → stands_in bus slot (placed_at t o) ≡ true
    → (k : ℕ) × (get_or t.order k 0 ≡ o) × Holds (stretches_of t) (bus * frame_of t + reversed t.frame (slot % frame_of t)) k
held_by n t w each o bus slot below there =
    let (k, low, is) = each.place o below in
    let holds : HoldsCell t (get_or t.order k 0) bus slot =
    subst (λ (z : ℕ). HoldsCell t z bus slot) (sym is) (holds_where t o bus slot (w.periodic o below) there) in
    (k, is, stretch_holds t w.follow each.length k bus slot low holds)

-- an output that is in a cell is the only one
pub cell_found : (n : ℕ) (t : SlotTable) → IsTable n t → HasEach t → AreApart t → (o bus slot : ℕ) → o < length t.outputs
    → stands_in bus slot (placed_at t o) ≡ true → cell_at t bus slot ≡ Some o
unfolding cell_at
cell_found n t w each apart o bus slot inside here =
    let (k, named, held) = held_by n t w each o bus slot inside here in
    let before : (j : ℕ) → j < o → stands_in bus slot (placed_at t j) ≡ false = λ j less.
    false_unless (stands_in bus slot (placed_at t j)) (λ there.
    let (i, is, other) = held_by n t w each j bus slot (omega arith) there in
    let same : i ≡ k = apart (bus * frame_of t + reversed t.frame (slot % frame_of t)) i k other held in
    omega (arith, is, named, ap (λ z. get_or t.order z 0) same)) in
    let first : position_or_len (stands_in bus slot) t.outputs ≡ o = position_or_len_is (stands_in bus slot) t.outputs o unplaced (omega arith) before (λ l. here) in
    rw (first, lt-ltb o (length t.outputs) inside) refl

-- a cell in which none is is empty
pub cell_empty : (t : SlotTable) (bus slot : ℕ) → ((o : ℕ) → o < length t.outputs → stands_in bus slot (placed_at t o) ≡ true → ⊥) → cell_at t bus slot ≡ None
unfolding cell_at
cell_empty t bus slot none =
    let all : (j : ℕ) → j < length t.outputs → stands_in bus slot (placed_at t j) ≡ false = λ j less. false_unless (stands_in bus slot (placed_at t j)) (none j less) in
    let past : position_or_len (stands_in bus slot) t.outputs ≡ length t.outputs =
    position_or_len_is (stands_in bus slot) t.outputs (length t.outputs) unplaced (omega arith) all (λ l. absurd (omega arith)) in
    rw (past, le-ltb (length t.outputs) (length t.outputs) (omega arith)) refl

-- a bus outside the table is empty
pub cell_outside : (n : ℕ) (t : SlotTable) → IsTable n t → (bus slot : ℕ) → buses_of t ≤ bus → cell_at t bus slot ≡ None
cell_outside n t w bus slot outside =
    cell_empty t bus slot (λ o below there.
    let x : Placed = placed_at t o in
    let (row, at) = and_parts (nat_eq x.place.bus bus) (nat_eq (slot % 2 ^ x.place.period) x.place.offset) there in
    omega (arith, outside, w.on_bus o below, eqb-true x.place.bus bus row))

there_is : (t : SlotTable) (o row slot : ℕ) → cell_at t row slot ≡ Some o → stands_in row slot (placed_at t o) ≡ true
unfolding cell_at
there_is t o row slot there = (position-Some (stands_in row slot) t.outputs o unplaced there).1

-- an output is in the cells of its bus, once in every period, and in no others
pub stands_just_at : (n : ℕ) (t : SlotTable) → IsTable n t → HasEach t → AreApart t → (o : ℕ) → o < length t.outputs
    → StandsJustAt t o (placed_at t o).place.bus (placed_at t o).place.offset (2 ^ (placed_at t o).place.period)
stands_just_at n t w each apart o below = record {
  within = (w.periodic o below).within;
  cells = λ row slot. (
    (λ there. ((w.periodic o below).cells row slot).0 (holds_where t o row slot (w.periodic o below) (there_is t o row slot there))),
    (λ both. cell_found n t w each apart o row slot below (stands t o row slot (w.periodic o below) (((w.periodic o below).cells row slot).1 both))),
  );
}

-- the output in a cell is one of the table
pub cell_known : (t : SlotTable) (bus slot o : ℕ) → cell_at t bus slot ≡ Some o → o < length t.outputs
unfolding cell_at
cell_known t bus slot o is = (position-Some (stands_in bus slot) t.outputs o unplaced is).0
