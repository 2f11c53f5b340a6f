-- Which source a raw word is for, by the steps in which it is looked up.
use Rattle.std.proofs.Common.{◌≡◌, ◌∙◌, ℕ, ◌<◌, Bool, true, false, List, length, get_or, Option, Some, None, Ok, Err, refl, sym}
use Rattle.std.specs.Prelude.{IsTrue, position}
use Rattle.std.proofs.lemmas.Option.{slice_get_read}
use Rattle.a429_word.specs.Bits.{has_odd_parity, label_of}
use Rattle.a429_filter.specs.Filters.{set_passes}
use Rattle.a429_equipment.specs.declared.rows.ReceiverRow.{ReceiverRow}
use Rattle.a429_equipment.specs.declared.arrivals.ArrivalRefusal.TheVariants.{Parity, Filtered, NoSource}
use Rattle.a429_equipment.specs.Arrivals.{is_for, passes_at, sorted}
use Rattle.a429_equipment.specs.TableRecord.{TableRecord}

unless_absurd : (b : Bool) → (b ≡ true → false ≡ true) → b ≡ false
unless_absurd true h = sym (h refl)
unless_absurd false h = refl

pub even_parity : (t : TableRecord) (r raw : ℕ) → (IsTrue (has_odd_parity raw) → false ≡ true) → sorted t r raw ≡ Err Parity
even_parity t r raw even = rw (unless_absurd (has_odd_parity raw) even) refl

-- the word has odd parity, and this is whether its label passes the filters of the receiver
module _ (t : TableRecord) (r raw word label : ℕ) (rows : List ReceiverRow) (row : ReceiverRow) (passes : Bool) (odd : IsTrue (has_odd_parity raw)) (same : word ≡ raw) (of_table : rows ≡ t.receivers) (known : r < length t.receivers) (at : row ≡ get_or rows r row) (labelled : label ≡ label_of word) (passed : passes ≡ set_passes row.filters label) where
  passes_is : passes_at t r raw ≡ passes
  passes_is = rw (slice_get_read t.receivers (length t.receivers) r row refl known (rw of_table at at), passed, labelled, same) refl

  pub none_passes : passes ≡ false → sorted t r raw ≡ Err Filtered
  none_passes none = rw (odd, passes_is, none) refl

  pub source_found : (found : Option ℕ) (i : ℕ) → passes ≡ true → found ≡ position (is_for r word) t.sources → found ≡ Some i → sorted t r raw ≡ Ok i
  source_found found i all is some =
      let here : position (is_for r raw) t.sources ≡ Some i = sym (rw same at is) ∙ some in
      rw (odd, passes_is, all, here) refl

  pub none_found : (found : Option ℕ) → passes ≡ true → found ≡ position (is_for r word) t.sources → found ≡ None → sorted t r raw ≡ Err NoSource
  none_found found all is none =
      let nowhere : position (is_for r raw) t.sources ≡ None = sym (rw same at is) ∙ none in
      rw (odd, passes_is, all, nowhere) refl
