-- Hexadecimal digits, from the last (profile: raw words in texts).
use Rattle.std.specs.Prelude.{ℕ, zero, suc, List, [], ◌∷◌, ◌++◌, ◌+◌, ◌/◌, ◌%◌, if◌then◌else◌, nat_lt}

-- the digit of a number below 16, in lower case
unfoldable pub nibble : ℕ → ℕ
nibble n = if nat_lt n 10 then 48 + n else 87 + n

-- this number of digits of a number, the lowest last
unfoldable pub nibbles : ℕ → ℕ → List ℕ
nibbles zero n = []
nibbles (suc k) n = nibbles k (n / 16) ++ nibble (n % 16) ∷ []
