-- What some fields and headings state, as programs write them (profile: import).
use Rattle.std.specs.Prelude.{◌≡◌, ℕ, Bool, codes, length, nat_lt, true, false, List, [], ◌∷◌, ◌++◌, None, Some, Ok, Err}
use Rattle.a429_import.specs.declared.fault.ImportColumn.TheVariants.{MaxUs, MinUs, Rate}
use Rattle.a429_import.specs.declared.firsts.Part.TheVariants.{Receivers, Sources, Groups}
use Rattle.a429_import.specs.declared.intervals.IntervalForm.{IntervalForm}
use Rattle.a429_import.specs.declared.intervals.IntervalUnit.{IntervalUnit}
use Rattle.a429_import.specs.declared.intervals.IntervalUnit.TheVariants.{Hertz, Micros, Millis}
use Rattle.a429_import.specs.declared.rows.ImportRow.{ImportRow}
use Rattle.a429_import.specs.declared.rows.RowNumbers.{RowNumbers}
use Rattle.a429_import.specs.FilledLines.{filled_from}
use Rattle.a429_import.specs.ImportFields.{label_in, millis_in, rate_in, sdi_in}
use Rattle.a429_import.specs.ImportForms.{heading_of}
use Rattle.a429_import.specs.ImportIntervals.{interval_in}
use Rattle.a429_import.specs.ImportMaps.{mapped, names_by}
use Rattle.a429_import.specs.Imports.{has_row_above, is_misquoted_text}
use Rattle.a429_import.specs.ImportRows.{is_named, numbers_of, until_last_or_all}
use Rattle.a429_import.specs.ImportWords.{trimmed}
use Rattle.a429_import.specs.KeyedLines.{end_in, key_end, keyed_fields}
use Rattle.a429_import.specs.MadeNames.{in_room_or, label_end, made_name, numbered_name}
use Rattle.a429_import.specs.Renamed.{names_in}

-- bit rates, labels and SDIs
pub record ReadsFields : Type 0 where
  pub high : rate_in (codes "HS") ≡ Some 100000
  pub low : rate_in (codes "Low") ≡ Some 12500
  pub number : rate_in (codes "12500") ≡ Some 12500
  pub speed : rate_in (codes "High Speed") ≡ Some 100000
  pub kilobits : rate_in (codes "12.5 kbit/s") ≡ Some 12500
  pub no_space : rate_in (codes "100KBPS") ≡ Some 100000
  pub no_unit : rate_in (codes "12.5") ≡ None
  pub no_number : rate_in (codes "12,500") ≡ None
  pub lost_zeros : label_in (codes "3") ≡ Some 3
  pub kept_zeros : label_in (codes "=\"003\"") ≡ Some 3
  pub octal : label_in (codes "203") ≡ Some 131
  pub binary : sdi_in (codes "10") ≡ Some (Some 2)
  pub digit : sdi_in (codes "2") ≡ Some (Some 2)
  pub nothing : sdi_in (codes "") ≡ Some None
  pub word : sdi_in (codes "All") ≡ Some None

-- milliseconds between commas (44), semicolons (59) and tabs (9), in microseconds
pub record ReadsMillis : Type 0 where
  pub whole : millis_in 44 (codes "20") ≡ Some 20000
  pub point : millis_in 44 (codes "31.25") ≡ Some 31250
  pub no_comma : millis_in 44 (codes "31,25") ≡ None
  pub comma : millis_in 59 (codes "31,25") ≡ Some 31250
  pub zeros : millis_in 9 (codes "0.0050") ≡ Some 5
  pub too_fine : millis_in 9 (codes "0.0005") ≡ None
  pub no_digit : millis_in 44 (codes "31.") ≡ None
  pub thousands : millis_in 59 (codes "1.000") ≡ None
  pub one : millis_in 59 (codes "1,000") ≡ Some 1000
  pub small : millis_in 59 (codes "0.500") ≡ Some 500
  pub decimals : millis_in 59 (codes "31.25") ≡ Some 31250

-- blanks round fields: spaces, tabs, line breaks, and no-break spaces (194 160 and 226 128 175)
pub record ReadsBlanks : Type 0 where
  pub spaces : trimmed (codes " \t203 \n") ≡ codes "203"
  pub no_break : trimmed (194 ∷ 160 ∷ 50 ∷ 226 ∷ 128 ∷ 175 ∷ []) ≡ codes "2"
  pub within : trimmed (codes "a b") ≡ codes "a b"
  pub none : trimmed (codes "  ") ≡ []

-- limits of intervals between commas, in microseconds: both in a field, and of rates in Hz, which are rounded into the interval
abbrev pub of_one : IntervalUnit → IntervalForm
of_one unit = record { unit = unit; has_both = false }

abbrev pub of_both : IntervalUnit → IntervalForm
of_both unit = record { unit = unit; has_both = true }

pub record ReadsIntervals : Type 0 where
  pub least : interval_in true (of_both Millis) 44 (codes "50/100") ≡ Some 50000
  pub most : interval_in false (of_both Millis) 44 (codes "31.25 - 62.5") ≡ Some 62500
  pub dash : interval_in false (of_both Micros) 44 (53 ∷ 226 ∷ 128 ∷ 147 ∷ 57 ∷ []) ≡ Some 9
  pub order : interval_in true (of_both Millis) 44 (codes "100/50") ≡ None
  pub one : interval_in true (of_both Millis) 44 (codes "50") ≡ None
  pub up : interval_in true (of_one Hertz) 44 (codes "30") ≡ Some 33334
  pub down : interval_in false (of_one Hertz) 44 (codes "30") ≡ Some 33333
  pub decimals : interval_in false (of_one Hertz) 44 (codes "12.5") ≡ Some 80000
  pub zero : interval_in false (of_one Hertz) 44 (codes "0") ≡ None
  pub rates : interval_in true (of_both Hertz) 44 (codes "10-20") ≡ Some 50000
  pub least_rate : interval_in false (of_both Hertz) 44 (codes "10-20") ≡ Some 100000

-- names of columns, and a heading below a title
pub record ReadsHeadings : Type 0 where
  pub any_case : is_named MinUs (codes "Min US") ≡ true
  pub millis : is_named MaxUs (codes "MAX_MS") ≡ true
  pub rate : is_named MaxUs (codes "Min Hz") ≡ true
  pub least : is_named MinUs (codes "interval_ms") ≡ true
  pub most : is_named MaxUs (codes "interval_ms") ≡ true
  pub broken : is_named MinUs (codes "Min\r\n us") ≡ true
  pub other : is_named MinUs (codes "max us") ≡ false
  pub below : heading_of [] (codes "Outputs, of a box\r\n\r\n\"Group\";Rate") ≡ Some (59, codes "\"Group\";Rate")
  pub none : heading_of [] (codes "group\nrate") ≡ None

-- the names of the columns that a heading needs
abbrev pub needed_columns : List (List ℕ)
needed_columns = codes "group" ∷ codes "rate" ∷ codes "source" ∷ codes "receiver" ∷ codes "label" ∷ codes "sdi" ∷ codes "min_us" ∷ codes "max_us" ∷ []

-- a row of these columns, about the source `alt` with label 203 of `adc-1`
abbrev pub row_of_alt : List ℕ → List ℕ → List ℕ → List ℕ → List (List ℕ)
row_of_alt group rate least most = group ∷ rate ∷ codes "alt" ∷ codes "adc-1" ∷ codes "203" ∷ codes "1" ∷ least ∷ most ∷ []

abbrev pub numbers_of_alt : ℕ → ℕ → ℕ → RowNumbers
numbers_of_alt rate least most = record { rate = rate; label = 131; sdi = Some 1; min_us = least; max_us = most; hold = None }

-- a row with a group, and rows without one
pub record ReadsAlone : Type 0 where
  pub output : numbers_of 44 needed_columns (row_of_alt (codes "main") (codes "HS") (codes "20000") (codes "40000")) ≡ Ok (numbers_of_alt 100000 20000 40000)
  pub alone : numbers_of 44 needed_columns (row_of_alt [] [] [] []) ≡ Ok (numbers_of_alt 0 0 0)
  pub rated : numbers_of 44 needed_columns (row_of_alt [] (codes "HS") [] []) ≡ Err Rate
  pub least : numbers_of 44 needed_columns (row_of_alt [] [] (codes "0") []) ≡ Err MinUs
  pub no_rate : numbers_of 44 needed_columns (row_of_alt (codes "main") [] [] []) ≡ Err Rate

-- headings by texts HEADING=COLUMN: in any case, and with spaces for underlines; a text that is not met leaves no name
pub record ReadsMaps : Type 0 where
  pub named : names_by (codes "Min (ms)=min_ms" ∷ []) (codes "label" ∷ codes "min_(MS)" ∷ []) ≡ codes "label" ∷ codes "min_ms" ∷ []
  pub last_mark : mapped (codes "a=b=sdi" ∷ []) (codes "A=B") ≡ codes "sdi"
  pub first : mapped (codes "a=sdi" ∷ codes "a=label" ∷ []) (codes "a") ≡ codes "sdi"
  pub other : mapped (codes "a=sdi" ∷ []) (codes "b") ≡ codes "b"
  pub no_heading : names_by (codes "c=sdi" ∷ []) (codes "label" ∷ codes "a" ∷ []) ≡ []
  pub no_column : names_by (codes "a=bus" ∷ []) (codes "label" ∷ codes "a" ∷ []) ≡ []
  pub found : heading_of (codes "Word=label" ∷ []) (codes "Outputs\nword,SDI") ≡ Some (44, codes "word,SDI")

-- names that are made of texts: runs of other characters, a name that stays, a cut, a `-` before the cut, and what is no text
pub record MakesNames : Type 0 where
  pub cut : made_name (codes "Computed Airspeed") ≡ codes "computed-airspee"
  pub runs : made_name (codes " ADC #1 (left_b)") ≡ codes "adc-1-left_b"
  pub stays : made_name (codes "-adc--1") ≡ codes "-adc--1"
  pub last : made_name (codes "Computed Airspe d") ≡ codes "computed-airspe"
  pub nothing : made_name (codes "?!") ≡ codes "?!"
  pub ends : in_room_or (codes "receiver") 16 (codes "Air Data Computer Left") ≡ codes "air-data-c-left"
  pub short : in_room_or (codes "r") 10 (codes "ADC 1") ≡ codes "adc-1"
  pub word : in_room_or (codes "group") 16 (codes "??") ≡ codes "group"
  pub label : numbered_name (codes "adc1") (label_end 131 (Some 1)) 0 ≡ codes "adc1-203-1"
  pub any : numbered_name (codes "air-left") (label_end 131 None) 0 ≡ codes "air-left-203"

-- a line below a heading: after the text of its source come its receiver, its label and its SDI
pub record TellsApart : Type 0 where
  pub end : end_in needed_columns (row_of_alt [] [] [] []) ≡ 0 ∷ codes "adc-1-203-1"
  pub some : keyed_fields (codes "|r-203") (codes "Source" ∷ codes "note" ∷ []) (codes "alt" ∷ codes "No 1" ∷ []) ≡ codes "alt|r-203" ∷ codes "No 1" ∷ []
  pub none : keyed_fields (codes "|r-203") (codes "Source" ∷ []) ([] ∷ []) ≡ [] ∷ []

-- a source, an output of it, and its receiver
abbrev pub row_named : List ℕ → List ℕ → ℕ → ImportRow
row_named source receiver label = record {
  texts = record { group = codes "G"; source = source ++ key_end receiver label None; receiver = receiver; filters = [] };
  numbers = record { rate = 100000; label = label; sdi = None; min_us = 1; max_us = 360; hold = None };
}

-- the names of sources: one text at two receivers, two texts that become one name, and one that stands alone
abbrev pub rows_named : List ImportRow
rows_named =
    row_named (codes "Alt") (codes "ADC 1") 131 ∷ row_named (codes "Alt") (codes "ADC 2") 131 ∷ row_named (codes "Baro Altitude L 1") (codes "ADC 1") 132
    ∷ row_named (codes "Baro Altitude L 2") (codes "ADC 1") 133 ∷ row_named (codes "Mach") (codes "ADC 1") 134 ∷ []

pub record ChoosesNames : Type 0 where
  pub sources : names_in Sources rows_named ≡ codes "adc-1-203" ∷ codes "adc-2-203" ∷ codes "adc-1-204" ∷ codes "adc-1-205" ∷ codes "mach" ∷ []
  pub receivers : names_in Receivers rows_named ≡ codes "adc-1" ∷ codes "adc-2" ∷ []
  pub groups : names_in Groups rows_named ≡ codes "g" ∷ []

-- quotes: a field that is not closed, in the heading, in rows and above the heading; text after the quote that closes a field; quotes within a field
-- are text
pub record ReadsQuotes : Type 0 where
  pub closed : is_misquoted_text [] (codes "group,rate\n\"g,1\",\"a \"\"b\"\"\n\"\r\n") ≡ false
  pub not_closed : is_misquoted_text [] (codes "group,rate\n1,\"x\n2,y\n") ≡ true
  pub doubled : is_misquoted_text [] (codes "group,rate\n1,\"x\"\"") ≡ true
  pub heading : is_misquoted_text [] (codes "group;rate;\"x\r\n1;2;\r\n") ≡ true
  pub above : is_misquoted_text [] (codes "Outputs,\"x\ngroup,rate\n1,2\n") ≡ true
  pub after : is_misquoted_text [] (codes "group,rate\n1,\"x\n2,\"y\"\n") ≡ true
  pub space : is_misquoted_text [] (codes "group,rate\n\"x\" ,2\n") ≡ true
  pub title : is_misquoted_text [] (codes "\"A\" to B\ngroup,rate\n1,2\n") ≡ false
  pub within : is_misquoted_text [] (codes "group,rate\n5\",=\"203\"") ≡ false
  pub mark : is_misquoted_text [] (239 ∷ 187 ∷ 191 ∷ codes "\"group\",rate\n") ≡ false

-- rows above the heading: a row, after a title and between quotes, by texts HEADING=COLUMN; titles, units, empty rows and rows with more or fewer
-- fields are no rows of data
pub record ReadsAbove : Type 0 where
  pub row : has_row_above [] (codes "alt,203\nsource,label\n") ≡ true
  pub title : has_row_above [] (codes "Outputs,\n\"a\nb\";\"203\"\n\r\nSource;Label") ≡ true
  pub lost_zeros : has_row_above [] (239 ∷ 187 ∷ 191 ∷ codes "alt\t3\r\nsource\tlabel\r\n") ≡ true
  pub mapped : has_row_above (codes "Word=label" ∷ []) (codes "alt,203\nsource,word\n") ≡ true
  pub unmapped : has_row_above [] (codes "alt,203,1\nsource,word,sdi\n") ≡ false
  pub names : has_row_above [] (codes "Outputs,203rd\nsource,label\n") ≡ false
  pub units : has_row_above [] (codes ",octal\n,\nsource,label\n") ≡ false
  pub fewer : has_row_above [] (codes "203\nsource,label\n") ≡ false
  pub more : has_row_above [] (codes "alt,203,\nsource,label\n") ≡ false
  pub below : has_row_above [] (codes "source,label\nalt,203\n") ≡ false
  pub no_heading : has_row_above [] (codes "alt,203\nsource\n") ≡ false

-- labels of rows: those below the last one are of notes, an empty one above another is not, and without a label none is a note
abbrev pub has_text_in : List ℕ → Bool
has_text_in label = nat_lt 0 (length label)

pub record PassesNotes : Type 0 where
  pub notes : until_last_or_all has_text_in (codes "203" ∷ codes "204" ∷ [] ∷ [] ∷ []) ≡ codes "203" ∷ codes "204" ∷ []
  pub gap : until_last_or_all has_text_in (codes "203" ∷ [] ∷ codes "204" ∷ [] ∷ []) ≡ codes "203" ∷ [] ∷ codes "204" ∷ []
  pub none : until_last_or_all has_text_in ([] ∷ [] ∷ []) ≡ [] ∷ [] ∷ []

-- a row below one of the group `main` at HS, filled: a group, a bit rate and a receiver, but no source
pub record FillsFields : Type 0 where
  pub empty : filled_from 0 needed_columns (row_of_alt (codes "main") (codes "HS") [] []) (row_of_alt [] [] [] []) ≡ row_of_alt (codes "main") (codes "HS") [] []
  pub stated : filled_from 0 needed_columns (row_of_alt (codes "main") (codes "HS") [] []) (row_of_alt (codes "aux") [] [] []) ≡ row_of_alt (codes "aux") (codes "HS") [] []
  pub other : filled_from 0 (codes "source" ∷ codes "Receiver" ∷ []) (codes "alt" ∷ codes "adc-1" ∷ []) ([] ∷ [] ∷ []) ≡ [] ∷ codes "adc-1" ∷ []
  pub first : filled_from 0 needed_columns [] (row_of_alt [] [] [] []) ≡ row_of_alt [] [] [] []
