-- The heading of a text: its line, and what separates its fields (profile: import).
use Rattle.std.specs.Prelude.{ℕ, zero, suc, ◌+◌, ◌==◌, ◌&&◌, ◌||◌, if◌then◌else◌, Bool, not, List, [], ◌∷◌, Option, None, Some, true, false, drop, length, nat_lt, position, take, unwrap_or}
use Rattle.std.specs.List.{find}
use Rattle.std.specs.Option.{option_map, option_map_or, option_or}
use Rattle.a429_text.specs.CutText.{without_byte_order_mark}
use Rattle.a429_import.specs.ImportMaps.{mapped}
use Rattle.a429_import.specs.ImportRows.{is_column}
use Rattle.a429_import.specs.ImportWords.{trimmed, unquoted}

-- a line feed or a carriage return
abbrev pub ends_line : ℕ → Bool
ends_line b = (b == 10) || (b == 13)

-- how many bytes come before the first that passes
abbrev pub count_before : (ℕ → Bool) → List ℕ → ℕ
count_before passes text = unwrap_or (position passes text) (length text)

-- the text without line ends at its beginning
abbrev pub from_line : List ℕ → List ℕ
from_line text = drop (count_before (λ b. not (ends_line b)) text) text

-- ---- fields in quotes

-- The number of bytes up to the end of a text in quotes, with the quote that closes it; inside them a quote is written twice. The flag says that a quote came
-- just before, and bytes are counted from a number
unfoldable pub quotes_end : Bool → ℕ → List ℕ → Option ℕ
quotes_end is_quote n [] = if is_quote then Some n else None
quotes_end is_quote n (b ∷ rest) = if is_quote && not (b == 34) then Some n else quotes_end (not is_quote && (b == 34)) (n + 1) rest

-- a field ends at the beginning of a text
abbrev pub ends_field : List ℕ → Bool
ends_field [] = true
ends_field (b ∷ rest) = ends_line b || ((b == 44) || ((b == 59) || (b == 9)))

-- the bytes after a quote up to the end of the field, if it ends there; 0 otherwise
abbrev pub closed_len : List ℕ → Option ℕ → ℕ
closed_len text None = 0
closed_len text (Some n) = if ends_field (drop n text) then n + 1 else 0

-- the number of bytes of a field in quotes at the beginning of a text; 0 if there is none, or if it is not closed
abbrev pub quoted_len : List ℕ → ℕ
quoted_len [] = 0
quoted_len (b ∷ rest) = if b == 34 then closed_len rest (quotes_end false 0 rest) else 0

-- the text after its first line; a field in quotes at its beginning may have line ends, and empty lines are passed over
abbrev pub later_lines : List ℕ → List ℕ
later_lines text = from_line (drop (count_before ends_line (drop (quoted_len text) text)) (drop (quoted_len text) text))

-- ---- the fields of the first row

-- a field of a line names a column, by itself or by a text HEADING=COLUMN
abbrev pub names_column : List (List ℕ) → List ℕ → Bool
names_column maps field = is_column (mapped maps (trimmed (unquoted field)))

-- the number of bytes before a separator or a line end
unfoldable pub len_before : ℕ → List ℕ → ℕ
len_before separator [] = 0
len_before separator (b ∷ rest) = if (b == separator) || ends_line b then 0 else suc (len_before separator rest)

-- the number of bytes of the first field, as it is written
abbrev pub field_len : ℕ → List ℕ → ℕ
field_len separator text = quoted_len text + len_before separator (drop (quoted_len text) text)

-- the text after a separator at its beginning
abbrev pub after_separator : ℕ → List ℕ → Option (List ℕ)
after_separator separator [] = None
after_separator separator (b ∷ rest) = if b == separator then Some rest else None

-- how many fields of the first row name columns, of at most this many
unfoldable pub names_in_row : List (List ℕ) → ℕ → ℕ → List ℕ → ℕ
names_in_row maps separator zero text = 0
names_in_row maps separator (suc n) text =
    (if names_column maps (take (field_len separator text) text) then 1 else 0)
    + option_map_or (names_in_row maps separator n) (after_separator separator (drop (field_len separator text) text)) 0

-- two fields or more of the first row name columns, if this separates its fields
abbrev pub is_heading : List (List ℕ) → List ℕ → ℕ → Bool
is_heading maps text separator = nat_lt 1 (names_in_row maps separator (length text) text)

-- a comma, a semicolon or a tab
abbrev pub separators : List ℕ
separators = 44 ∷ 59 ∷ 9 ∷ []

-- the first of these lines that is a heading: its separator, and the text from it on
unfoldable pub heading_among : List (List ℕ) → ℕ → List ℕ → Option (ℕ × List ℕ)
heading_among maps zero text = None
heading_among maps (suc lines) text =
    option_or (option_map (λ separator. (separator, text)) (find (is_heading maps text) separators)) (heading_among maps lines (later_lines text))

-- the heading is among the first eleven lines
abbrev pub heading_of : List (List ℕ) → List ℕ → Option (ℕ × List ℕ)
heading_of maps text = heading_among maps 11 (from_line (without_byte_order_mark text))

-- what separates the fields of a text; a comma if it has no heading
abbrev pub separator_in : List (List ℕ) → List ℕ → ℕ
separator_in maps text = option_map_or (λ h. h.0) (heading_of maps text) 44

-- the text from its heading on; all of it if it has no heading
abbrev pub from_heading : List (List ℕ) → List ℕ → List ℕ
from_heading maps text = option_map_or (λ h. h.1) (heading_of maps text) text
