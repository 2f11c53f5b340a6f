-- The columns of a log with a heading (profile: log).
use Rattle.std.specs.Prelude.{◌==◌, ◌&&◌, ◌||◌, ◌+◌, ◌∷◌, [], ℕ, Bool, true, false, List, Option, Some, None, Result, Ok, Err, if◌then◌else◌, codes, drop, filter_map, get_or, length, map, not, position, take}
use Rattle.std.specs.List.{enumerate_from}
use Rattle.std.specs.Char.{is_ascii_whitespace, to_ascii_lowercase}
use Rattle.std.specs.Option.{option_map_or}
use Rattle.std.specs.Str.{bytes_eq}
use Rattle.a429_text.specs.Renames.{renamed}
use Rattle.a429_logs.specs.LogFields.{fields_of, trimmed}
use Rattle.a429_logs.specs.LogTimes.{can_be_time}
use Rattle.a429_logs.specs.declared.cells.Column.{Column}
use Rattle.a429_logs.specs.declared.cells.Column.TheVariants.{Time, TimeIn, Name, Word, Hex, Octal, Binary, Decimal, Label, HexLabel, DecimalLabel, Sdi, Ssm, Parity}
use Rattle.a429_logs.specs.declared.columns.Base.{Base}
use Rattle.a429_logs.specs.declared.columns.Base.TheVariants as base
use Rattle.a429_logs.specs.declared.cells.Found.{Found}
use Rattle.a429_logs.specs.declared.cells.Found.TheVariants.{Absent, At, Twice}
use Rattle.a429_logs.specs.declared.columns.Heading.{Heading}
use Rattle.a429_logs.specs.declared.columns.HeadingFault.{HeadingFault}
use Rattle.a429_logs.specs.declared.columns.HeadingFault.TheVariants as fault
use Rattle.a429_logs.specs.declared.columns.PartsPlaces.{PartsPlaces}
use Rattle.a429_logs.specs.declared.columns.Places.{Places}
use Rattle.a429_logs.specs.declared.columns.ValuePlace.{ValuePlace}
use Rattle.a429_logs.specs.declared.columns.Width.{Width}
use Rattle.a429_logs.specs.declared.columns.WordPlaces.{WordPlaces}
use Rattle.a429_logs.specs.declared.columns.WordPlaces.TheVariants.{Whole, Parts}
use Rattle.a429_logs.specs.declared.times.TimeUnit.{TimeUnit}
use Rattle.a429_logs.specs.declared.times.TimeUnit.TheVariants.{Nanoseconds, Microseconds, Milliseconds, Seconds, Ticks}

-- the name of a column, in any case
abbrev pub is_named : List ℕ → List ℕ → Bool
is_named text name = bytes_eq (map to_ascii_lowercase text) (map to_ascii_lowercase name)

-- The name of a column ends before the first blank, bracket or `_`. Its note comes after it: without blanks, opening brackets and `_`
-- before it, up to a closing bracket.
abbrev pub is_frame : ℕ → Bool
is_frame b = is_ascii_whitespace b || (b == 40 || (b == 91 || b == 95))

abbrev pub is_closing : ℕ → Bool
is_closing b = b == 41 || b == 93

abbrev pub is_inner : ℕ → Bool
is_inner b = not (is_frame b)

abbrev pub up_to : (ℕ → Bool) → List ℕ → List ℕ
up_to test text = option_map_or (λ k. take k text) (position test text) text

abbrev pub from_first : (ℕ → Bool) → List ℕ → List ℕ
from_first test text = option_map_or (λ k. drop k text) (position test text) []

unfoldable pub name_in : List ℕ → List ℕ
name_in cell = up_to is_frame cell

unfoldable pub note_in : List ℕ → List ℕ
note_in cell = trimmed (up_to is_closing (from_first is_inner (from_first is_frame cell)))

-- ---- notes

abbrev pub is_hex_note : List ℕ → Bool
is_hex_note note = is_named (codes "hex") note || is_named (codes "hexadecimal") note

abbrev pub is_octal_note : List ℕ → Bool
is_octal_note note = is_named (codes "oct") note || is_named (codes "octal") note

abbrev pub is_decimal_note : List ℕ → Bool
is_decimal_note note = is_named (codes "dec") note || is_named (codes "decimal") note

abbrev pub is_binary_note : List ℕ → Bool
is_binary_note note = is_named (codes "bin") note || is_named (codes "binary") note

-- micro is `u`, or one of the two signs of UTF-8
abbrev pub micro_second : List ℕ
micro_second = 194 ∷ 181 ∷ 115 ∷ []

abbrev pub mu_second : List ℕ
mu_second = 206 ∷ 188 ∷ 115 ∷ []

abbrev pub is_unit_note : TimeUnit → List ℕ → Bool
is_unit_note Nanoseconds note =
    is_named (codes "ns") note || is_named (codes "nsec") note || is_named (codes "nanoseconds") note
is_unit_note Microseconds note =
    is_named (codes "us") note || is_named (codes "usec") note || is_named (codes "microseconds") note || is_named micro_second note
    || is_named mu_second note
is_unit_note Milliseconds note =
    is_named (codes "ms") note || is_named (codes "msec") note || is_named (codes "milliseconds") note
is_unit_note Seconds note =
    is_named (codes "s") note || is_named (codes "sec") note || is_named (codes "seconds") note
is_unit_note (Ticks nanoseconds) note = false

abbrev pub is_time_note : List ℕ → Bool
is_time_note note =
    is_named [] note || is_named (codes "stamp") note || is_named (codes "utc") note || is_unit_note Nanoseconds note
    || is_unit_note Microseconds note || is_unit_note Milliseconds note || is_unit_note Seconds note

abbrev pub is_channel_note : List ℕ → Bool
is_channel_note note =
    is_named [] note || is_named (codes "#") note || is_named (codes "no") note || is_named (codes "number") note || is_named (codes "id") note
    || is_named (codes "name") note

-- ---- columns

abbrev pub is_time_name : List ℕ → Bool
is_time_name name = is_named (codes "time") name || is_named (codes "timestamp") name

abbrev pub is_channel_name : List ℕ → Bool
is_channel_name name =
    is_named (codes "receiver") name || is_named (codes "channel") name || is_named (codes "bus") name || is_named (codes "group") name
    || is_named (codes "name") name || is_named (codes "chan") name || is_named (codes "ch") name || is_named (codes "rx") name

abbrev pub is_word_name : List ℕ → Bool
is_word_name name = is_named (codes "word") name || is_named (codes "hex") name || is_named (codes "raw") name

abbrev pub is_word_note : List ℕ → Bool
is_word_note note = is_named [] note || is_hex_note note || is_named (codes "word") note || is_named (codes "data") note

abbrev pub is_data_name : List ℕ → Bool
is_data_name name = is_named (codes "data") name

abbrev pub is_label_name : List ℕ → Bool
is_label_name name = is_named (codes "label") name || is_named (codes "lbl") name

abbrev pub is_bits_note : List ℕ → Bool
is_bits_note note = is_named [] note || is_binary_note note || is_named (codes "bits") note

abbrev pub is_parity_note : List ℕ → Bool
is_parity_note note = is_named [] note || is_named (codes "bit") note

-- a name and a note make a column
abbrev pub is_column_by : Column → List ℕ → List ℕ → Bool
is_column_by Time name note = is_time_name name && is_time_note note
is_column_by (TimeIn unit) name note = is_time_name name && is_unit_note unit note
is_column_by Name name note = is_channel_name name && is_channel_note note
is_column_by Word name note = is_word_name name && is_word_note note
is_column_by Hex name note = is_data_name name && (is_named [] note || is_hex_note note)
is_column_by Octal name note = is_data_name name && is_octal_note note
is_column_by Binary name note = is_data_name name && is_binary_note note
is_column_by Decimal name note = is_data_name name && is_decimal_note note
is_column_by Label name note = is_label_name name && (is_named [] note || is_octal_note note)
is_column_by HexLabel name note = is_label_name name && is_hex_note note
is_column_by DecimalLabel name note = is_label_name name && is_decimal_note note
is_column_by Sdi name note = is_named (codes "sdi") name && is_bits_note note
is_column_by Ssm name note = is_named (codes "ssm") name && is_bits_note note
is_column_by Parity name note = is_named (codes "parity") name && is_parity_note note

-- a field of a heading is the name of a column
abbrev pub is_column : Column → List ℕ → Bool
is_column column cell = is_column_by column (name_in cell) (note_in cell)

-- a heading does not begin as the time of a word does
abbrev pub is_heading : TimeUnit → List (List ℕ) → Bool
is_heading unit fields = not (can_be_time unit (get_or fields 0 []))

-- the place of a column, if it is there
abbrev pub place_if : Column → ℕ × List ℕ → Option ℕ
place_if column (place, name) = if is_column column name then Some place else None

abbrev pub places_in : Column → List (ℕ × List ℕ) → List ℕ
places_in column fields = filter_map (place_if column) fields

abbrev pub found_by : List ℕ → Found
found_by [] = Absent
found_by (place ∷ []) = At place
found_by (place ∷ later ∷ more) = Twice

-- the place of a column in a heading, unless it is absent or there twice
unfoldable pub found_in : List (List ℕ) → Column → Found
found_in heading column = found_by (places_in column (enumerate_from 0 heading))

abbrev pub is_absent : Found → Bool
is_absent Absent = true
is_absent _ = false

abbrev pub needed : Column → Found → Result ℕ HeadingFault
needed column Absent = Err (fault.Lacks column)
needed column Twice = Err (fault.Repeats column)
needed column (At place) = Ok place

abbrev pub place_of : List (List ℕ) → Column → Result ℕ HeadingFault
place_of heading column = needed column (found_in heading column)

-- what follows if there is no fault so far
abbrev pub and_then : {A B E : Type 0} → Result A E → (A → Result B E) → Result B E
and_then (Ok a) next = next a
and_then (Err e) next = Err e

-- the columns that one value can have, by the base of its digits: the first that is there counts
abbrev pub value_or : List (List ℕ) → Column → Base → Result ValuePlace HeadingFault → Found → Result ValuePlace HeadingFault
value_or heading column b otherwise Absent = otherwise
value_or heading column b otherwise Twice = Err (fault.Repeats column)
value_or heading column b otherwise (At place) = Ok (record { base = b; place = place })

abbrev pub value_in_base : List (List ℕ) → Column → Base → Result ValuePlace HeadingFault → Result ValuePlace HeadingFault
value_in_base heading column b otherwise = value_or heading column b otherwise (found_in heading column)

-- the 19 data bits are a column of hexadecimal, octal, binary or decimal digits
unfoldable pub value_place : List (List ℕ) → Result ValuePlace HeadingFault
value_place heading =
    value_in_base heading Hex base.Sixteen
    (value_in_base heading Octal base.Eight (value_in_base heading Binary base.Two (value_in_base heading Decimal base.Ten (Err (fault.Lacks Hex)))))

-- a label is a column of octal, hexadecimal or decimal digits
unfoldable pub label_place : List (List ℕ) → Option (Result ValuePlace HeadingFault)
label_place heading =
    if is_absent (found_in heading Label) && (is_absent (found_in heading HexLabel) && is_absent (found_in heading DecimalLabel)) then None
    else Some (value_in_base heading Label base.Eight
    (value_in_base heading HexLabel base.Sixteen (value_in_base heading DecimalLabel base.Ten (Err (fault.Lacks Label)))))

-- a parity may be there
abbrev pub optional : Column → Found → Result (Option ℕ) HeadingFault
optional column Absent = Ok None
optional column Twice = Err (fault.Repeats column)
optional column (At place) = Ok (Some place)

abbrev pub parity_place : List (List ℕ) → Result (Option ℕ) HeadingFault
parity_place heading = optional Parity (found_in heading Parity)

-- a word by its label, SDI, SSM and data, and its parity if that is there
abbrev pub parts_places : List (List ℕ) → ValuePlace → Result PartsPlaces HeadingFault
parts_places heading label =
    and_then (place_of heading Sdi) (λ sdi. and_then (place_of heading Ssm) (λ ssm. and_then (value_place heading) (λ value.
    and_then (parity_place heading) (λ parity.
    Ok (record { label = label; sdi = sdi; ssm = ssm; value = value; parity = parity })))))

abbrev pub as_parts : Result PartsPlaces HeadingFault → Result WordPlaces HeadingFault
as_parts parts = and_then parts (λ places. Ok (Parts places))

-- without a label a column of data has whole words
abbrev pub data_word : Found → Result WordPlaces HeadingFault
data_word Absent = Err (fault.Lacks Word)
data_word Twice = Err (fault.Repeats Hex)
data_word (At place) = Ok (Whole place)

abbrev pub word_without : List (List ℕ) → Option (Result ValuePlace HeadingFault) → Result WordPlaces HeadingFault
word_without heading None = data_word (found_in heading Hex)
word_without heading (Some label) = and_then label (λ place. as_parts (parts_places heading place))

abbrev pub word_by : List (List ℕ) → Found → Result WordPlaces HeadingFault
word_by heading Absent = word_without heading (label_place heading)
word_by heading Twice = Err (fault.Repeats Word)
word_by heading (At place) = Ok (Whole place)

unfoldable pub word_places : List (List ℕ) → Result WordPlaces HeadingFault
word_places heading = word_by heading (found_in heading Word)

-- the unit that the column of times has as its note
abbrev pub has_unit : List (List ℕ) → TimeUnit → Bool
has_unit heading unit = not (is_absent (found_in heading (TimeIn unit)))

unfoldable pub unit_in : List (List ℕ) → Option TimeUnit
unit_in heading =
    if has_unit heading Nanoseconds then Some Nanoseconds
    else if has_unit heading Microseconds then Some Microseconds
    else if has_unit heading Milliseconds then Some Milliseconds
    else if has_unit heading Seconds then Some Seconds
    else None

-- how many fields there are, and how many without an empty one at the end
abbrev pub wider : Width → List ℕ → Width
wider width field = record { all = width.all + 1; bare = if length field == 0 then width.all else width.all + 1 }

abbrev pub width_from : Width → List (List ℕ) → Width
width_from width [] = width
width_from width (field ∷ fields) = width_from (wider width field) fields

unfoldable pub width_of : List (List ℕ) → Width
width_of fields = width_from (record { all = 0; bare = 0 }) fields

-- the columns of a heading of this width, or the first fault of it
unfoldable pub places_of : Width → List (List ℕ) → Result Places HeadingFault
places_of width heading =
    and_then (place_of heading Time) (λ time. and_then (place_of heading Name) (λ name. and_then (word_places heading) (λ word.
    Ok (record { width = width; unit = unit_in heading; time = time; name = name; word = word }))))

-- a field of a heading that one of these texts FROM=TO has as FROM counts as TO
abbrev pub names_of : List (List ℕ) → List (List ℕ) → List (List ℕ)
names_of texts fields = map (renamed texts) fields

-- the columns of a heading with these fields, by such texts; or the first fault of it
abbrev pub columns_of : List (List ℕ) → List (List ℕ) → Result Places HeadingFault
columns_of texts fields = places_of (width_of fields) (names_of texts fields)

-- A row has as many fields as the heading. An empty field at the end, in a heading or in a row, may be left out.
abbrev pub fits : Places → Width → Bool
fits places width = width.all == places.width.all || width.bare == places.width.bare

-- without a heading a line is a time, a name and a word
abbrev pub plain_places : Places
plain_places = record { width = record { all = 3; bare = 3 }; unit = None; time = 0; name = 1; word = Whole 2 }

-- ---- steps

-- what the fields of a heading count as
abbrev pub names_in : Heading → List (List ℕ)
names_in h = names_of (map (λ text. text.now) h.renames.now) (fields_of h.separator h.line.now)

-- found so far, and at these places besides
abbrev pub found_with : Found → List ℕ → Found
found_with Absent places = found_by places
found_with Twice places = Twice
found_with (At place) [] = At place
found_with (At place) (later ∷ more) = Twice

-- at one place more
abbrev pub noted : Found → ℕ → Found
noted Absent place = At place
noted _ place = Twice

-- after a field of the heading
abbrev pub found_next : Column → Found → ℕ → List ℕ → Found
found_next column found place name = if is_column column name then noted found place else found
