-- The lines of a log, and the fields of a line (profile: log).
use Rattle.std.specs.Prelude.{◌≡◌, ◌==◌, ◌&&◌, ◌-◌, ◌∷◌, [], ℕ, Bool, false, List, Option, Some, None, MatchOption, if◌then◌else◌, drop, filter_map, get_or, is_some, length, nat_le, not, option_map, position, suc, take}
use Rattle.std.specs.List.{list_any, onto_first, prefix_len, slice_split, suffix_len}
use Rattle.std.specs.Option.{option_map_or}
use Rattle.std.specs.Borrow.{Bor}
use Rattle.std.specs.Char.{is_ascii_whitespace}
use Rattle.a429_logs.specs.declared.fields.Fields.{Fields}
use Rattle.a429_logs.specs.declared.fields.Separator.{Separator}
use Rattle.a429_logs.specs.declared.fields.Separator.TheVariants.{LineFeed, Blank, Comma, Semicolon, Colon, Dash, Slash, Point}
use Rattle.a429_logs.specs.declared.fields.LineParts.{LineParts}
use Rattle.a429_logs.specs.declared.fields.LineParts.TheVariants.{Plain, Quoted}
use Rattle.a429_logs.specs.declared.fields.Parts.{Parts}
use Rattle.a429_logs.specs.declared.fields.QuotedParts.{QuotedParts}

-- a byte ends a line, a field, or a part of a time or a date; a blank is a space, a tab, a carriage return or a form feed
abbrev pub is_separator : Separator → ℕ → Bool
is_separator LineFeed b = b == 10
is_separator Blank b = is_ascii_whitespace b
is_separator Comma b = b == 44
is_separator Semicolon b = b == 59
is_separator Colon b = b == 58
is_separator Dash b = b == 45
is_separator Slash b = b == 47
is_separator Point b = b == 46

-- without the blanks at both ends
unfoldable pub trimmed : List ℕ → List ℕ
trimmed s =
    let t = drop (prefix_len is_ascii_whitespace s) s in
    take (length t - suffix_len is_ascii_whitespace t) t

-- the parts of a text before, between and after separators
abbrev pub parts_of : Separator → List ℕ → List (List ℕ)
parts_of separator text = slice_split (is_separator separator) text

-- ---- quotes

abbrev pub is_quote : ℕ → Bool
is_quote b = b == 34

abbrev pub has_quotes : List ℕ → Bool
has_quotes line = is_some (position is_quote line)

-- each quote opens or closes, so a quote that is doubled leaves all as it was
abbrev pub turned : Bool → ℕ → Bool
turned inside b = if is_quote b then not inside else inside

-- a separator inside quotes is none
abbrev pub ends_part : Separator → Bool → ℕ → Bool
ends_part separator inside b = not inside && is_separator separator b

-- the place of the first separator outside quotes, from inside of them or outside
unfoldable pub first_outside : Separator → Bool → List ℕ → Option ℕ
first_outside separator inside [] = None
first_outside separator inside (b ∷ bs) = if ends_part separator inside b then Some 0 else option_map suc (first_outside separator (turned inside b) bs)

-- the parts of a text before, between and after separators outside quotes
unfoldable pub quoted_parts : Separator → Bool → List ℕ → List (List ℕ)
quoted_parts separator inside [] = [] ∷ []
quoted_parts separator inside (b ∷ bs) =
    if ends_part separator inside b then [] ∷ quoted_parts separator false bs else onto_first b (quoted_parts separator (turned inside b) bs)

-- what is between the quotes at both ends, if they are there
abbrev pub is_quoted : List ℕ → Bool
is_quoted text = nat_le 2 (length text) && (is_quote (get_or text 0 0) && is_quote (get_or text (length text - 1) 0))

unfoldable pub unquoted : List ℕ → List ℕ
unquoted text = if is_quoted text then drop 1 (take (length text - 1) text) else text

-- ---- fields

-- a line has a separator outside quotes
abbrev pub has_separator : Separator → List ℕ → Bool
has_separator separator line = if has_quotes line then is_some (first_outside separator false line) else list_any (is_separator separator) line

-- what separates the fields of a line: a semicolon if it has one, otherwise a comma if it has one, otherwise blanks
unfoldable pub separator_in : List ℕ → Separator
separator_in line = if has_separator Semicolon line then Semicolon else if has_separator Comma line then Comma else Blank

-- the field of a part between two separators: between blanks nothing is no field
abbrev pub field_in : Separator → List ℕ → Option (List ℕ)
field_in Blank [] = None
field_in Blank (x ∷ xs) = Some (x ∷ xs)
field_in _ part = Some (trimmed part)

abbrev pub quoted_field_in : Separator → List ℕ → Option (List ℕ)
quoted_field_in separator part = option_map unquoted (field_in separator part)

-- the fields of a line
unfoldable pub fields_of : Separator → List ℕ → List (List ℕ)
fields_of separator line =
    if has_quotes line then filter_map (quoted_field_in separator) (quoted_parts separator false line) else filter_map (field_in separator) (parts_of separator line)

-- ---- what is left to take

-- the first of a list is taken, if there is one
abbrev pub Takes : {X Y : Type 0} → (X → Y) → Option X → List Y → List Y → Type 0
Takes shown result old new = MatchOption result ((old ≡ []) × (new ≡ [])) (λ x. old ≡ shown x ∷ new)

abbrev pub parts_in : Separator → Option (Bor (List ℕ)) → List (List ℕ)
parts_in separator left = option_map_or (λ text. parts_of separator text.now) left []

abbrev pub parts_left : Parts → List (List ℕ)
parts_left p = parts_in p.separator p.left

abbrev pub quoted_left : QuotedParts → List (List ℕ)
quoted_left p = option_map_or (λ text. quoted_parts p.separator false text.now) p.left []

abbrev pub line_fields_left : LineParts → List (List ℕ)
line_fields_left (Plain p) = filter_map (field_in p.separator) (parts_left p)
line_fields_left (Quoted p) = filter_map (quoted_field_in p.separator) (quoted_left p)

abbrev pub fields_left : Fields → List (List ℕ)
fields_left f = line_fields_left f.parts
