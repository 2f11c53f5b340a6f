-- Rows whose texts of groups, sources and receivers become names. No two of a column become one name (profile: import).
use Rattle.std.specs.Prelude.{◌≡◌, ◌≤◌, ℕ, ◌+◌, ◌-◌, ◌&&◌, Bool, true, not, List, [], ◌∷◌, ◌++◌, Some, codes, if◌then◌else◌, length, map, nat_lt, slice_get, take, unwrap_or, zero, suc}
use Rattle.std.specs.List.{count_by, position_from}
use Rattle.std.specs.Str.{bytes_eq}
use Rattle.a429_import.specs.declared.firsts.Part.{Part}
use Rattle.a429_import.specs.declared.firsts.Part.TheVariants.{Receivers, Sources, Groups}
use Rattle.a429_import.specs.declared.rows.ImportRow.{ImportRow}
use Rattle.a429_import.specs.declared.rows.RowTexts.{RowTexts}
use Rattle.a429_import.specs.ImportFields.{field_in, utf8_in}
use Rattle.a429_import.specs.ImportTables.{firsts, is_word, name_in}
use Rattle.a429_import.specs.KeyedLines.{key_end}
use Rattle.a429_import.specs.MadeNames.{in_room_or, label_end, numbered_name, plain_name}
use Rattle.std.specs.declared.alloc.Global.{Global}
use Rattle.std.specs.declared.vec.Vec.{Vec}
use Rattle.a429_import.specs.declared.renamed.AllNames.{AllNames}

-- ---- what a name is made of

-- the text of a row's source, without the rest of its key
abbrev pub source_text : ImportRow → List ℕ
source_text row = take (length row.texts.source - length (key_end row.texts.receiver row.numbers.label row.numbers.sdi)) row.texts.source

-- the text of a row's receiver, source or group
abbrev pub text_of : Part → ImportRow → List ℕ
text_of Sources row = source_text row
text_of part row = name_in part row

-- the name that the text would have alone
unfoldable pub plain_of : Part → ImportRow → List ℕ
plain_of part row = plain_name (text_of part row)

-- the beginning of the long name: for a source its receiver
unfoldable pub base_of : Part → ImportRow → List ℕ
base_of Receivers row = in_room_or (codes "receiver") 16 row.texts.receiver
base_of Sources row = in_room_or (codes "r") 10 row.texts.receiver
base_of Groups row = in_room_or (codes "group") 16 row.texts.group

-- its end: for a source the label and the SDI
unfoldable pub end_of : Part → ImportRow → List ℕ
end_of Sources row = label_end row.numbers.label row.numbers.sdi
end_of part row = []

-- ---- a name that is free

abbrev pub is_taken : List (List ℕ) → List ℕ → Bool
is_taken names name = nat_lt 0 (count_by (bytes_eq name) names)

-- the first long name that is not taken, of a count of numbers from one on
abbrev pub free_name : List (List ℕ) → List ℕ → List ℕ → ℕ → ℕ → List ℕ
free_name taken base end zero number = []
free_name taken base end (suc left) number =
    if is_taken taken (numbered_name base end number) then free_name taken base end left (number + 1) else numbered_name base end number

-- the same; a table has at most 256 texts of a column, so some of these numbers are free
unfoldable pub long_name : List (List ℕ) → List ℕ → List ℕ → List ℕ
long_name taken base end = free_name taken base end 1000 0

-- one text alone has this plain name
abbrev pub is_alone : List (List ℕ) → List ℕ → Bool
is_alone plains plain = is_word plain && not (nat_lt 1 (count_by (bytes_eq plain) plains))

-- the most texts of a column that are kept apart: as many as a table has sources at most; it has fewer receivers and groups
abbrev pub most_texts : ℕ
most_texts = 256

-- The name of a row's receiver, source or group, after names that earlier ones have: the plain name if no other text has it, otherwise a long name that
-- is no plain name. If the column has more texts than a table can have, it is the text itself, and the table is refused.
unfoldable pub chosen : List (List ℕ) → List (List ℕ) → Part → ImportRow → List ℕ
chosen plains earlier part row =
    if nat_lt most_texts (length plains) then name_in part row
    else if not (is_word (text_of part row)) then []
    else if is_alone plains (plain_of part row) then plain_of part row
    else long_name (plains ++ earlier) (base_of part row) (end_of part row)

-- ---- all names

abbrev pub names_after : List (List ℕ) → Part → List (List ℕ) → List ImportRow → List (List ℕ)
names_after plains part earlier [] = earlier
names_after plains part earlier (row ∷ rows) = names_after plains part (earlier ++ chosen plains earlier part row ∷ []) rows

-- the plain names of these first rows
abbrev pub plains_of : Part → List ImportRow → List (List ℕ)
plains_of part rows = map (plain_of part) (firsts part rows)

-- the names of the receivers, the sources or the groups, in the order of their first rows
unfoldable pub names_in : Part → List ImportRow → List (List ℕ)
names_in part rows = names_after (plains_of part rows) part [] (firsts part rows)

-- ---- rows

-- the name in a row's place
unfoldable pub name_for : Part → List ImportRow → ImportRow → List ℕ
name_for part rows row =
    unwrap_or (utf8_in (field_in (unwrap_or (position_from (bytes_eq (name_in part row)) 0 (map (name_in part) (firsts part rows))) 0) (names_in part rows))) []

-- the names of a row, and its filters
abbrev pub names_of_row : List ImportRow → ImportRow → RowTexts
names_of_row rows row = record { group = name_for Groups rows row; source = name_for Sources rows row; receiver = name_for Receivers rows row; filters = row.texts.filters }

-- a row with names
abbrev pub renamed : List ImportRow → ImportRow → ImportRow
renamed rows row = record { texts = names_of_row rows row; numbers = row.numbers }

-- all rows with names
abbrev pub all_renamed : List ImportRow → List ImportRow
all_renamed rows = map (renamed rows) rows

-- the bytes of names
abbrev pub texts_of : List (Vec ℕ Global) → List (List ℕ)
texts_of names = map (λ name. name.items) names

-- the names are those of rows
pub record AreNames (names : AllNames) (rows : List ImportRow) : Type 0 where
  pub receivers : texts_of names.receivers.items ≡ names_in Receivers rows
  pub sources : texts_of names.sources.items ≡ names_in Sources rows
  pub groups : texts_of names.groups.items ≡ names_in Groups rows

-- ---- the law

-- a name that is not empty is that of one text alone
abbrev pub AreApart : List (List ℕ) → Type 0
AreApart names = (i j : ℕ) (name : List ℕ) → is_word name ≡ true → slice_get names i ≡ Some name → slice_get names j ≡ Some name → i ≡ j

-- so it is for the names of receivers, sources and groups, as many as a table can have
abbrev pub NamesAreApart : Type 0
NamesAreApart = (part : Part) (rows : List ImportRow) → length (firsts part rows) ≤ most_texts → AreApart (names_in part rows)
