-- What rows of comma-separated values say, or the first row with a fault (profile: import).
use Rattle.std.specs.Prelude.{ℕ, ◌-◌, ◌==◌, ◌&&◌, ◌||◌, Bool, true, false, not, List, [], ◌∷◌, ◌++◌, Option, None, Some, Result, Ok, Err, codes, if◌then◌else◌, length, map, nat_lt, position}
use Rattle.std.specs.List.{count_by, find, list_any}
use Rattle.std.specs.Option.{ok_or, option_map_or, option_or}
use Rattle.std.specs.Str.{bytes_eq}
use Rattle.csv.specs.Records.{fields_of}
use Rattle.a429_equipment.specs.SameStation.{same_sdi}
use Rattle.a429_import.specs.declared.fault.ImportColumn.{ImportColumn}
use Rattle.a429_import.specs.declared.fault.ImportColumn.TheVariants.{Group, Rate, Source, Receiver, Label, Sdi, MinUs, MaxUs, Hold, Filters}
use Rattle.a429_import.specs.declared.fault.CsvFaultKind.{CsvFaultKind}
use Rattle.a429_import.specs.declared.fault.CsvFaultKind.TheVariants.{Form, Column, Differs, TooMany}
use Rattle.a429_text.specs.declared.csv_line.CsvLine.{CsvLine}
use Rattle.a429_import.specs.declared.rows.ImportRow.{ImportRow}
use Rattle.a429_import.specs.declared.rows.RowNumbers.{RowNumbers}
use Rattle.a429_import.specs.declared.rows.RowTexts.{RowTexts}
use Rattle.a429_import.specs.ImportFields.{field_in, if_group, rate_in, label_in, sdi_in, hold_in, text_in, filters_in}
use Rattle.a429_import.specs.declared.intervals.IntervalForm.{IntervalForm}
use Rattle.a429_import.specs.ImportIntervals.{form_named, in_micros, interval_in, states_interval}
use Rattle.a429_import.specs.declared.firsts.Part.TheVariants.{Sources}
use Rattle.a429_import.specs.ImportLimits.{too_many}
use Rattle.a429_import.specs.ImportTables.{has_group, is_known}
use Rattle.a429_import.specs.Letters.{same_heading}
use Rattle.a429_import.specs.declared.rows.RowFields.{RowFields}
use Rattle.a429_import.specs.declared.rows.TextFields.{TextFields}

-- ---- columns

-- the name of a column in the heading
abbrev pub column_name : ImportColumn → List ℕ
column_name Group = codes "group"
column_name Rate = codes "rate"
column_name Source = codes "source"
column_name Receiver = codes "receiver"
column_name Label = codes "label"
column_name Sdi = codes "sdi"
column_name MinUs = codes "min_us"
column_name MaxUs = codes "max_us"
column_name Hold = codes "hold"
column_name Filters = codes "filters"

-- all except `hold` and `filters`
abbrev pub is_needed : ImportColumn → Bool
is_needed Hold = false
is_needed Filters = false
is_needed _ = true

-- in the order in which they are looked for
abbrev pub import_columns : List ImportColumn
import_columns = Group ∷ Rate ∷ Source ∷ Receiver ∷ Label ∷ Sdi ∷ MinUs ∷ MaxUs ∷ Hold ∷ Filters ∷ []

-- a field of the heading is a name of a column, in any case
unfoldable pub is_named : ImportColumn → List ℕ → Bool
is_named column field = same_heading (column_name column) field || states_interval column field

-- a name is that of a column
abbrev pub is_column : List ℕ → Bool
is_column name = list_any (λ column. is_named column name) import_columns

-- the number of fields of the heading that are the name of a column
abbrev pub times : List (List ℕ) → ImportColumn → ℕ
times heading column = count_by (is_named column) heading

-- the heading has it twice, or lacks it although it is needed
unfoldable pub is_wrong : List (List ℕ) → ImportColumn → Bool
is_wrong heading column = nat_lt 1 (times heading column) || (is_needed column && (times heading column == 0))

-- the first such column
unfoldable pub wrong_column : List (List ℕ) → Option ImportColumn
wrong_column heading = find (is_wrong heading) import_columns

-- the places of all columns, if the heading has them
abbrev pub places_in : List (List ℕ) → List (Option ℕ)
places_in heading = map (λ column. position (is_named column) heading) import_columns

-- the field of a row in a column; empty if the heading has no such column
unfoldable pub column_field : List (List ℕ) → List (List ℕ) → ImportColumn → List ℕ
column_field heading fields column = option_map_or (λ place. field_in place fields) (position (is_named column) heading) []

-- how the column of an interval states it
unfoldable pub column_form : List (List ℕ) → ImportColumn → IntervalForm
column_form heading column = option_map_or (λ place. form_named column (field_in place heading)) (position (is_named column) heading) in_micros

-- ---- a row by itself

infixl 10 ◌>>=◌
abbrev pub ◌>>=◌ : {A B E : Type 0} → Result A E → (A → Result B E) → Result B E
(Ok x) >>= f = f x
(Err e) >>= f = Err e

-- the value in a column, or the column if its form is wrong
abbrev pub stated_at : {A : Type 0} → (List ℕ → Option A) → List (List ℕ) → List (List ℕ) → ImportColumn → Result A ImportColumn
stated_at read heading fields column = ok_or (read (column_field heading fields column)) column

-- a row names a group
abbrev pub names_group : List (List ℕ) → List (List ℕ) → Bool
names_group heading fields = not (length (column_field heading fields Group) == 0)

-- the same for a field of an output, which is empty if the row names no group
abbrev pub output_at : {A : Type 0} → (List ℕ → Option A) → A → List (List ℕ) → List (List ℕ) → ImportColumn → Result A ImportColumn
output_at read nothing heading fields column = stated_at (if_group (names_group heading fields) read nothing) heading fields column

-- the minimum of an interval
abbrev pub is_least : ImportColumn → Bool
is_least MinUs = true
is_least _ = false

-- a limit of an interval, in the form of its column
abbrev pub interval_at : ℕ → List (List ℕ) → List (List ℕ) → ImportColumn → Result ℕ ImportColumn
interval_at separator heading fields column = output_at (interval_in (is_least column) (column_form heading column) separator) 0 heading fields column

-- the numbers of a row, or the first column with a wrong form; those of an output are 0 if the row names no group
unfoldable pub numbers_of : ℕ → List (List ℕ) → List (List ℕ) → Result RowNumbers ImportColumn
numbers_of separator heading fields = do
  rate ← output_at rate_in 0 heading fields Rate
  label ← stated_at label_in heading fields Label
  sdi ← stated_at sdi_in heading fields Sdi
  least ← interval_at separator heading fields MinUs
  most ← interval_at separator heading fields MaxUs
  hold ← output_at hold_in None heading fields Hold
  Ok (record { rate = rate; label = label; sdi = sdi; min_us = least; max_us = most; hold = hold })

-- the texts of a row, or the first column with a wrong form
unfoldable pub texts_of : List (List ℕ) → List (List ℕ) → Result RowTexts ImportColumn
texts_of heading fields = do
  group ← stated_at text_in heading fields Group
  source ← stated_at text_in heading fields Source
  receiver ← stated_at text_in heading fields Receiver
  filters ← stated_at filters_in heading fields Filters
  Ok (record { group = group; source = source; receiver = receiver; filters = filters })

-- the line with a fault, what is wrong with it, and in which column
abbrev pub CsvFault : Type 0
CsvFault = ℕ × CsvFaultKind × Option ImportColumn

abbrev pub joined : ℕ → Result RowNumbers ImportColumn → Result RowTexts ImportColumn → Result ImportRow CsvFault
joined line (Err column) texts = Err (line, Form, Some column)
joined line (Ok numbers) (Err column) = Err (line, Form, Some column)
joined line (Ok numbers) (Ok texts) = Ok (record { texts = texts; numbers = numbers })

-- a row has as many fields as the heading, and each column that is read has its form
unfoldable pub row_of : List (List ℕ) → CsvLine → Result ImportRow CsvFault
row_of heading line =
    if length (fields_of line.fields) == length heading
    then joined line.number (numbers_of line.separator heading (fields_of line.fields)) (texts_of heading (fields_of line.fields))
    else Err (line.number, Form, None)

abbrev pub texts_view : TextFields → RowTexts
texts_view fields = record {
  group = fields.group.now;
  source = fields.source.now;
  receiver = fields.receiver.now;
  filters = fields.filters.now;
}

abbrev pub row_view : RowFields → ImportRow
row_view fields = record { texts = texts_view fields.texts; numbers = fields.numbers }

-- ---- a row after others

-- the first column in which it contradicts an earlier row about the same source
abbrev pub source_clash : ImportRow → ImportRow → Option ImportColumn
source_clash earlier row =
    if not (bytes_eq earlier.texts.source row.texts.source) then None
    else if not (bytes_eq earlier.texts.receiver row.texts.receiver) then Some Receiver
    else if not (earlier.numbers.label == row.numbers.label) then Some Label
    else if not (same_sdi earlier.numbers.sdi row.numbers.sdi) then Some Sdi
    else None

-- the same about a receiver or a group
abbrev pub other_clash : ImportRow → ImportRow → Option ImportColumn
other_clash earlier row =
    if bytes_eq earlier.texts.receiver row.texts.receiver && not (bytes_eq earlier.texts.filters row.texts.filters) then Some Filters
    else if bytes_eq earlier.texts.group row.texts.group && not (earlier.numbers.rate == row.numbers.rate) then Some Rate
    else None

-- the first column in which it contradicts an earlier row
unfoldable pub clash : ImportRow → ImportRow → Option ImportColumn
clash earlier row = option_or (source_clash earlier row) (other_clash earlier row)

-- the same, for the first of the earlier rows that it contradicts
abbrev pub first_clash : List ImportRow → ImportRow → Option ImportColumn
first_clash [] row = None
first_clash (earlier ∷ others) row = option_or (clash earlier row) (first_clash others row)

abbrev pub agreed : ℕ → ImportRow → Option ImportColumn → Result ImportRow CsvFault
agreed line row None = Ok row
agreed line row (Some column) = Err (line, Differs, Some column)

-- a row by itself, which agrees with all earlier rows
abbrev pub next_row : List (List ℕ) → List ImportRow → CsvLine → Result ImportRow CsvFault
next_row heading earlier line = row_of heading line >>= λ row. agreed line.number row (first_clash earlier row)

-- a row without a group says nothing new about a source that an earlier row states
abbrev pub says_nothing : List ImportRow → ImportRow → Bool
says_nothing earlier row = not (has_group row) && is_known Sources earlier row

-- rows, unless they have one too many of what this column names
abbrev pub limited : ℕ → List ImportRow → Option ImportColumn → Result (List ImportRow) CsvFault
limited line rows None = Ok rows
limited line rows (Some column) = Err (line, TooMany, Some column)

-- earlier rows and one more, if it says something
abbrev pub with_row : ℕ → List ImportRow → ImportRow → Result (List ImportRow) CsvFault
with_row line earlier row = if says_nothing earlier row then Ok earlier else limited line (earlier ++ row ∷ []) (too_many (earlier ++ row ∷ []) row)

-- earlier rows and what that of one more line says, or the fault of this line
abbrev pub with_line : List (List ℕ) → List ImportRow → CsvLine → Result (List ImportRow) CsvFault
with_line heading earlier line = next_row heading earlier line >>= λ row. with_row line.number earlier row

-- what the rows of these lines say, after others
abbrev pub rows_after : List (List ℕ) → List ImportRow → List CsvLine → Result (List ImportRow) CsvFault
rows_after heading earlier [] = Ok earlier
rows_after heading earlier (line ∷ lines) = with_line heading earlier line >>= λ rows. rows_after heading rows lines

-- ---- notes

-- a row has a label: its field in that column is there, and is not empty
abbrev pub has_label : List (List ℕ) → CsvLine → Bool
has_label heading line = not (length (column_field heading (fields_of line.fields) Label) == 0)

-- the elements up to the last one that passes
abbrev pub until_last : {X : Type 0} → (X → Bool) → List X → List X
until_last passes [] = []
until_last passes (x ∷ xs) = if list_any passes (x ∷ xs) then x ∷ until_last passes xs else []

-- the same; all elements if none passes
abbrev pub until_last_or_all : {X : Type 0} → (X → Bool) → List X → List X
until_last_or_all passes xs = if list_any passes xs then until_last passes xs else xs

-- the rows below a heading without the notes: those below the last row that has a label
abbrev pub without_notes : List (List ℕ) → List CsvLine → List CsvLine
without_notes heading lines = until_last_or_all (has_label heading) lines

-- the number of notes of lines, of which the first is the heading
abbrev pub note_count : List CsvLine → ℕ
note_count [] = 0
note_count (heading ∷ lines) = length lines - length (without_notes (fields_of heading.fields) lines)

-- ---- all rows

abbrev pub unless_wrong : CsvLine → List CsvLine → Option ImportColumn → Result (List ImportRow) CsvFault
unless_wrong heading lines None = rows_after (fields_of heading.fields) [] (without_notes (fields_of heading.fields) lines)
unless_wrong heading lines (Some column) = Err (heading.number, Column, Some column)

-- the rows below a heading and above the notes, unless a column is wrong in it
abbrev pub below_heading : CsvLine → List CsvLine → Result (List ImportRow) CsvFault
below_heading heading lines = unless_wrong heading lines (wrong_column (fields_of heading.fields))

-- the first line is the heading
unfoldable pub rows_stated : List CsvLine → Result (List ImportRow) CsvFault
rows_stated [] = Err (1, Column, Some Group)
rows_stated (heading ∷ lines) = below_heading heading lines
