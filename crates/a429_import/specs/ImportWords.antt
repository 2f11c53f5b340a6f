-- Words of headings and fields as spreadsheets write them (profile: import).
use Rattle.std.specs.Prelude.{ℕ, zero, suc, ◌-◌, ◌==◌, ◌&&◌, ◌||◌, List, [], ◌∷◌, Option, None, Some, Bool, true, false, drop, if◌then◌else◌, length, map, nat_le, nat_lt, slice_index_or, take}
use Rattle.std.specs.Char.{to_ascii_lowercase}
use Rattle.std.specs.Option.{option_map_or}
use Rattle.std.specs.Str.{bytes_eq}

-- ---- blanks round fields

-- a space, a tab or a line break
abbrev pub is_blank : ℕ → Bool
is_blank b = ((b == 32) || (b == 9)) || ((b == 10) || (b == 13))

-- the no-break space (U+00A0) and the narrow one (U+202F), in UTF-8
abbrev pub is_wide_blank : ℕ → ℕ → Bool
is_wide_blank a b = (a == 194) && (b == 160)

abbrev pub is_narrow_blank : ℕ → ℕ → ℕ → Bool
is_narrow_blank a b c = (a == 226) && ((b == 128) && (c == 175))

-- the number of bytes of the blank of which these are the first bytes; 0 if they are of none
abbrev pub blank_from : ℕ → ℕ → ℕ → ℕ
blank_from a b c = if is_blank a then 1 else if is_wide_blank a b then 2 else if is_narrow_blank a b c then 3 else 0

-- the same, of which they are the last bytes
abbrev pub blank_to : ℕ → ℕ → ℕ → ℕ
blank_to a b c = if is_blank c then 1 else if is_wide_blank b c then 2 else if is_narrow_blank a b c then 3 else 0

-- a byte of a text, counted from its end; 0 if there is none
abbrev pub byte_before_end : List ℕ → ℕ → ℕ
byte_before_end text count = if nat_le count (length text) then slice_index_or text (length text - count) 0 else 0

-- the number of bytes of the blank at the beginning of a text, and at its end
abbrev pub front_blank : List ℕ → ℕ
front_blank text = blank_from (slice_index_or text 0 0) (slice_index_or text 1 0) (slice_index_or text 2 0)

abbrev pub back_blank : List ℕ → ℕ
back_blank text = blank_to (byte_before_end text 3) (byte_before_end text 2) (byte_before_end text 1)

-- a text without the blank at its beginning, and at its end, if it has one there
abbrev pub after_blank : List ℕ → Option (List ℕ)
after_blank text = if front_blank text == 0 then None else Some (drop (front_blank text) text)

abbrev pub before_blank : List ℕ → Option (List ℕ)
before_blank text = if back_blank text == 0 then None else Some (take (length text - back_blank text) text)

-- what is left of a text after steps, at most this many
unfoldable pub stepped : (List ℕ → Option (List ℕ)) → ℕ → List ℕ → List ℕ
stepped step zero text = text
stepped step (suc n) text = option_map_or (stepped step n) (step text) text

-- a text without blanks at its beginning, and without blanks at its end
abbrev pub without_front : List ℕ → List ℕ
without_front text = stepped after_blank (length text) text

abbrev pub without_back : List ℕ → List ℕ
without_back text = stepped before_blank (length text) text

-- a field without the blanks round it
unfoldable pub trimmed : List ℕ → List ℕ
trimmed field = without_back (without_front field)

-- a field has no blank at its beginning and none at its end
abbrev pub has_no_blank : List ℕ → Bool
has_no_blank field = (front_blank field == 0) && (back_blank field == 0)

-- ---- words

-- a byte of a heading: in any case; an underline and a line break are blanks
abbrev pub plain : ℕ → ℕ
plain b = if (b == 95) || is_blank b then 32 else to_ascii_lowercase b

-- a blank before another
abbrev pub is_extra : List ℕ → Bool
is_extra (a ∷ b ∷ rest) = (plain a == 32) && (plain b == 32)
is_extra _ = false

-- two lists have the same bytes
abbrev pub are_same : List ℕ → List ℕ → Bool
are_same [] [] = true
are_same (a ∷ left) (b ∷ right) = (a == b) && are_same left right
are_same _ _ = false

-- a field is this text, in any case
abbrev pub is_text : List ℕ → List ℕ → Bool
is_text text field = bytes_eq (map to_ascii_lowercase text) (map to_ascii_lowercase field)

-- a field begins and ends with a quote
abbrev pub is_quoted : List ℕ → Bool
is_quoted field = nat_lt 1 (length field) && ((slice_index_or field 0 0 == 34) && (slice_index_or field (length field - 1) 0 == 34))

-- a field without the quotes around it
abbrev pub unquoted : List ℕ → List ℕ
unquoted field = if is_quoted field then take (length field - 2) (drop 1 field) else field

-- `="203"` is 203: so a spreadsheet keeps zeros
abbrev pub unwrapped : List ℕ → List ℕ
unwrapped [] = []
unwrapped (first ∷ rest) = if (first == 61) && is_quoted rest then unquoted rest else first ∷ rest
