-- The first rows of receivers, sources and groups, by their places.
use Rattle.std.proofs.Common.{◌≡◌, ◌∙◌, ◌<◌, ◌≤◌, ℕ, None, Some, ap, arith, get_or, length, sym}
use Rattle.std.specs.Prelude.{slice_get}
use Rattle.std.proofs.lemmas.Option.{get_or_from_slice_get, slice_get_past, slice_get_within}
use Rattle.a429_import.specs.declared.firsts.Part.{Part}
use Rattle.a429_import.specs.declared.indexed_rows.IndexedRows.{IndexedRows}
use Rattle.a429_import.specs.declared.rows.ImportRow.{ImportRow}
use Rattle.a429_import.specs.ImportTables.{firsts}
use Rattle.a429_import.specs.IndexedRows.{IsIndexed, named_of, names_of, numbers_of}
use Rattle.a429_import.proofs.ChosenNames.{firsts_count}
use Rattle.a429_import.proofs.Knowing.{first_there, knows_part}

module _ (part : Part) (known : IndexedRows) (place : ℕ) (knows : IsIndexed known) where
  abbrev number : ℕ
  number = get_or (numbers_of (named_of part known)) place 0

  pub row_within : place < length (names_of (named_of part known)) → number < length known.rows.items
  row_within within =
      let (row, first, there) = first_there part (named_of part known) known.rows.items place (knows_part part known knows) within in
      slice_get_within known.rows.items number row there

  pub row_there : (row : ImportRow) → place < length (names_of (named_of part known)) → row ≡ get_or known.rows.items number row → slice_get (firsts part known.rows.items) place ≡ Some row
  row_there row within read =
      let (other, first, there) = first_there part (named_of part known) known.rows.items place (knows_part part known knows) within in
      first ∙ ap (λ (r : ImportRow). Some r) (sym (read ∙ get_or_from_slice_get known.rows.items number other row there))

  pub row_past : length (names_of (named_of part known)) ≤ place → slice_get (firsts part known.rows.items) place ≡ None
  row_past past =
      let many = firsts_count part (named_of part known) known.rows.items (knows_part part known knows) in
      slice_get_past (firsts part known.rows.items) place (omega (arith, many, past))
