-- Numbers as hexadecimal digits (profile: raw words in texts).
use Rattle.std.specs.Prelude.{◌==◌, ◌&&◌, ◌+◌, ◌-◌, ◌*◌, ◌^◌, ◌∷◌, [], ℕ, false, List, Option, Some, None, if◌then◌else◌, nat_le, length, option_and_then}
use Rattle.std.specs.Fmt.{digits, padded_integral, format_spec}

-- in either case
abbrev pub hex_digit : ℕ → Option ℕ
hex_digit c =
    if nat_le 48 c && nat_le c 57 then Some (c - 48)
    else (if nat_le 97 c && nat_le c 102 then Some (c - 97 + 10)
    else (if nat_le 65 c && nat_le c 70 then Some (c - 65 + 10) else None))

-- the number of hexadecimal digits that follow those of n
abbrev pub hex_onto : ℕ → List ℕ → Option ℕ
hex_onto n [] = Some n
hex_onto n (c ∷ cs) = option_and_then (λ d. hex_onto (n * 16 + d) cs) (hex_digit c)

-- the number of exactly eight hexadecimal digits
unfoldable pub raw_word : List ℕ → Option ℕ
raw_word text = if length text == 8 then hex_onto 0 text else None

-- the number of one to five hexadecimal digits
abbrev pub hex_number : List ℕ → Option ℕ
hex_number text = if nat_le 1 (length text) && nat_le (length text) 5 then hex_onto 0 text else None

-- eight hexadecimal digits in lower case
unfoldable pub hex : ℕ → List ℕ
hex raw = padded_integral (format_spec 32 0 4 8 (2 ^ 64 - 1)) false [] (digits 16 false raw)

-- five hexadecimal digits in lower case, as the 19 data bits of a word are written
unfoldable pub data_digits : ℕ → List ℕ
data_digits value = padded_integral (format_spec 32 0 4 5 (2 ^ 64 - 1)) false [] (digits 16 false value)
