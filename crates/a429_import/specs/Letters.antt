-- Headings in any case, with the letters beyond ASCII that take two bytes in UTF-8: U+0080 to U+07FF (profile: import).
use Rattle.std.specs.Prelude.{ℕ, ◌+◌, ◌-◌, ◌*◌, ◌/◌, ◌%◌, ◌==◌, ◌&&◌, Bool, false, List, [], ◌∷◌, if◌then◌else◌, nat_le}
use Rattle.std.specs.Char.Unicode.ToLowercase.{to_lowercase}
use Rattle.a429_import.specs.ImportWords.{are_same, is_extra, plain}

-- two bytes are a character of UTF-8
abbrev pub is_pair : ℕ → ℕ → Bool
is_pair lead tail = (nat_le 194 lead && nat_le lead 223) && (nat_le 128 tail && nat_le tail 191)

-- the character of two bytes
abbrev pub pair_code : ℕ → ℕ → ℕ
pair_code lead tail = (lead - 192) * 64 + (tail - 128)

-- a character that has these characters in lower case: the one that it has, if that takes two bytes
abbrev pub one_of : ℕ → List ℕ → ℕ
one_of c (lower ∷ []) = if nat_le 128 lower && nat_le lower 2047 then lower else c
one_of c _ = c

-- a character in lower case, if that is one character that takes two bytes
unfoldable pub lower_code : ℕ → ℕ
lower_code c = one_of c (to_lowercase c)

-- a byte of a heading in lower case, between the byte before it and the one after it
abbrev pub lower_byte : ℕ → ℕ → ℕ → ℕ
lower_byte before byte after =
    if is_pair byte after then 192 + lower_code (pair_code byte after) / 64
    else if is_pair before byte then 128 + lower_code (pair_code before byte) % 64
    else plain byte

-- the first byte; 0 if there is none
abbrev pub first_byte : List ℕ → ℕ
first_byte [] = 0
first_byte (b ∷ rest) = b

-- two headings, each after a byte, begin with the same byte in lower case
abbrev pub begin_alike : ℕ → List ℕ → ℕ → List ℕ → Bool
begin_alike left_before (a ∷ left) right_before (b ∷ right) = lower_byte left_before a (first_byte left) == lower_byte right_before b (first_byte right)
begin_alike left_before left right_before right = false

-- the bytes of a heading after a byte, in lower case, with one blank for several
abbrev pub letters_of : ℕ → List ℕ → List ℕ
letters_of before [] = []
letters_of before (b ∷ rest) = if is_extra (b ∷ rest) then letters_of before rest else lower_byte before b (first_byte rest) ∷ letters_of b rest

-- two headings are the same
abbrev pub same_heading : List ℕ → List ℕ → Bool
same_heading a b = are_same (letters_of 0 a) (letters_of 0 b)
