-- The ranges of the numbers of rows (profile: import).
use Rattle.std.specs.Prelude.{◌<◌, ◌^◌, IfSome, List}
use Rattle.std.specs.List.{AllByRecursion}
use Rattle.a429_import.specs.declared.rows.ImportRow.{ImportRow}
use Rattle.a429_import.specs.declared.rows.RowNumbers.{RowNumbers}

-- those of a row
pub record AreInRange (n : RowNumbers) : Type 0 where
  pub rate : n.rate < 2 ^ 32
  pub label : n.label < 256
  pub sdi : IfSome n.sdi (λ k. k < 4)
  pub least : n.min_us < 2 ^ 32
  pub most : n.max_us < 2 ^ 32
  pub hold : IfSome n.hold (λ k. k < 2 ^ 32)

-- those of rows
abbrev pub HaveRanges : List ImportRow → Type 0
HaveRanges rows = AllByRecursion (λ row. AreInRange row.numbers) rows
