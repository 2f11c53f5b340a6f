-- The contradictions between a row and earlier rows that agree with one another (profile: import).
use Rattle.std.specs.Prelude.{◌≡◌, ◌+◌, ◌==◌, ◌&&◌, ℕ, List, [], ◌∷◌, Option, None, Some, not, nat_lt, slice_get, if◌then◌else◌}
use Rattle.std.specs.List.{AllByRecursion}
use Rattle.std.specs.Option.{option_and_then, option_map, option_or}
use Rattle.std.specs.Str.{bytes_eq}
use Rattle.a429_import.specs.declared.clashes.RowClash.{RowClash}
use Rattle.a429_import.specs.declared.fault.ImportColumn.{ImportColumn}
use Rattle.a429_import.specs.declared.fault.ImportColumn.TheVariants.{Filters, Rate}
use Rattle.a429_import.specs.declared.firsts.Part.{Part}
use Rattle.a429_import.specs.declared.firsts.Part.TheVariants.{Receivers, Sources, Groups}
use Rattle.a429_import.specs.declared.rows.ImportRow.{ImportRow}
use Rattle.a429_import.specs.ImportRows.{clash, source_clash}

-- the column in which a row contradicts an earlier one about the same receiver, source or group
abbrev pub part_clash : Part → ImportRow → ImportRow → Option ImportColumn
part_clash Receivers earlier row =
    if bytes_eq earlier.texts.receiver row.texts.receiver && not (bytes_eq earlier.texts.filters row.texts.filters) then Some Filters else None
part_clash Sources earlier row = source_clash earlier row
part_clash Groups earlier row = if bytes_eq earlier.texts.group row.texts.group && not (earlier.numbers.rate == row.numbers.rate) then Some Rate else None

-- the same, with the number of the earlier row
abbrev pub numbered : ℕ → Option ImportColumn → Option RowClash
numbered number column = option_map {T = ImportColumn} {U = RowClash} (λ c. record { number = number; column = c }) column

abbrev pub clash_at : Part → List ImportRow → ℕ → ImportRow → Option RowClash
clash_at part earlier number row = numbered number (option_and_then (λ other. part_clash part other row) (slice_get earlier number))

-- the same, for the first of the earlier rows that the row contradicts; rows are counted from a given number
abbrev pub first_part_clash : Part → ℕ → List ImportRow → ImportRow → Option RowClash
first_part_clash part number [] row = None
first_part_clash part number (earlier ∷ others) row = option_or (numbered number (part_clash part earlier row)) (first_part_clash part (number + 1) others row)

-- the one of two clashes that has the earlier row
abbrev pub earlier_clash : Option RowClash → Option RowClash → Option RowClash
earlier_clash None b = b
earlier_clash (Some a) None = Some a
earlier_clash (Some a) (Some b) = if nat_lt b.number a.number then Some b else Some a

-- each row agrees with all earlier ones
abbrev pub Agree : List ImportRow → Type 0
Agree [] = Unit {0}
Agree (row ∷ rows) = AllByRecursion (λ later. clash row later ≡ None) rows × Agree rows
