-- In the slot table of a plan, two cells of one output are at least its least spacing apart.
use Rattle.std.proofs.Common.{◌≡◌, ℕ, zero, suc, ◌^◌, ◌<◌, ◌≤◌, ◌∷◌, [], List, length, get_or, map, ◌∙◌, sym, ap, subst, refl, arith}
use Rattle.std.specs.Prelude.{Some, slice_get, slice_index}
use Rattle.std.specs.List.{AllZip}
use Rattle.std.proofs.lemmas.List.{length-map, get_or-map}
use Rattle.std.proofs.lemmas.Option.{none-some, same_Some, slice_get_within, get_or_from_slice_get}
use Rattle.a429_pack.specs.Demands.{exponent_of, greatest}
use Rattle.a429_equipment.specs.declared.rows.OutputRow.{OutputRow}
use Rattle.a429_equipment.specs.declared.rows.SourceRow.{SourceRow}
use Rattle.a429_equipment.specs.Sound.{HaveOwnSources}
use Rattle.a429_slots.specs.Tables.{Placed, SlotTable, buses_of, outputs_of, placed_at}
use Rattle.a429_slots.specs.Kept.{StandsJustAt}
use Rattle.a429_slots.specs.Planned.{IsServed, IsPlannedFor, asked_by, asked_of}
use Rattle.a429_slots.specs.Spacing.{IsSpacedTable}
use Rattle.a429_slots.proofs.Cells.{output_is}
use Rattle.a429_slots.proofs.Rows.{unasked}

-- no number of a list is above its greatest
abbrev pub NoneAbove : Type 0
NoneAbove = (numbers : List ℕ) (i : ℕ) → i < length numbers → slice_index numbers i ≤ greatest numbers

-- the row of an output
pub record HasRow {A B : Type 0} (R : A → B → Type 0) (xs : List A) (n : ℕ) (y : B) : Type 0 where
  pub row : A
  pub there : slice_get xs n ≡ Some row
  pub related : R row y

pub row_of : {A B : Type 0} (R : A → B → Type 0) (xs : List A) (ys : List B) (n : ℕ) (y : B) → AllZip R xs ys → slice_get ys n ≡ Some y → HasRow R xs n y
row_of R [] [] n y all h = absurd (none-some y h)
row_of R [] (z ∷ ys) n y all h = absurd all
row_of R (x ∷ xs) [] n y all h = absurd all
row_of {A} {B} R (x ∷ xs) (z ∷ ys) zero y all h = record { row = x; there = refl; related = subst (R x) (same_Some z y h) all.0 }
row_of R (x ∷ xs) (z ∷ ys) (suc n) y all h =
    let rest = row_of R xs ys n y all.1 h in
    record { row = rest.row; there = rest.there; related = rest.related }

-- what has a number
placed_is : (t : SlotTable) (n : ℕ) (x : Placed) → slice_get (outputs_of t) n ≡ Some x → x ≡ placed_at t n
placed_is t n x h =
    same_Some x (placed_at t n) (sym h ∙ output_is t n (slice_get_within (outputs_of t) n x h))

pub spaced_table : NoneAbove → (rate : ℕ) (sources : List SourceRow) (rows : List OutputRow) (t : SlotTable) → IsPlannedFor rate sources rows t
    → HaveOwnSources rows → IsSpacedTable t
spaced_table above rate sources rows t P own = record {
  own = λ a b x y at_a at_b same.
      let A = row_of (IsServed rate) rows (outputs_of t) a x P.served at_a in
      let B = row_of (IsServed rate) rows (outputs_of t) b y P.served at_b in
      own a b A.row B.row A.there B.there (sym A.related.0 ∙ (same ∙ B.related.0));
  on_a_bus = λ n x h.
      subst (λ (y : Placed). y.place.bus < buses_of t) (sym (placed_is t n x h)) (P.on_bus n (slice_get_within (outputs_of t) n x h));
  periodic = λ n x h.
      let inside : n < length (outputs_of t) = slice_get_within (outputs_of t) n x h in
      subst (λ (y : Placed). StandsJustAt t n y.place.bus y.place.offset (2 ^ y.place.period)) (sym (placed_is t n x h)) (P.periodic n inside);
  fits = λ n x h.
      let inside : n < length (outputs_of t) = slice_get_within (outputs_of t) n x h in
      let asked = asked_of sources t in
      let long : length asked ≡ length (outputs_of t) = length-map (outputs_of t) (asked_by sources) in
      let more : length (map exponent_of asked) ≡ length asked = length-map asked exponent_of in
      let here : get_or asked n unasked ≡ asked_by sources x = get_or-map (asked_by sources) (outputs_of t) n x unasked inside ∙ ap (asked_by sources) (get_or_from_slice_get (outputs_of t) n x x h) in
      let is : get_or (map exponent_of asked) n 0 ≡ x.place.period = get_or-map exponent_of asked n unasked 0 (omega (arith, inside, long)) ∙ ap exponent_of here in
      omega (arith, is, above (map exponent_of asked) n (omega (arith, inside, long, more)), P.frame);
  spaced = λ n x h.
      let R = row_of (IsServed rate) rows (outputs_of t) n x P.served h in
      R.related.3.1 (2 ^ x.place.period) R.related.1.1.0;
}
