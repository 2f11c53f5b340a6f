-- What was written of a text (vocabulary of contracts).
use Rattle.std.specs.Prelude.{ℕ, ◌+◌, ◌/◌, ◌%◌, ◌∷◌, [], ◌++◌, List, Option, None, Some, codes}
use Rattle.std.specs.Fmt.{decimal}
use Rattle.a429_text.specs.declared.said.Said.{Said}
use Rattle.a429_text.specs.Said.{bytes_of}

-- what is kept, or what was lost if an allocation failed
abbrev pub written : Option Said → List ℕ → List ℕ
written None kept = kept
written (Some said) kept = bytes_of said

-- words, and after each of them its number, as long as there are some
abbrev pub filled : List (List ℕ) → List ℕ → List ℕ
filled [] numbers = []
filled (w ∷ ws) [] = w ++ filled ws []
filled (w ∷ ws) (n ∷ ns) = w ++ (decimal n ++ filled ws ns)

-- a number below 512 in three octal digits (ARINC 429 Part 1, labels)
abbrev pub octal : ℕ → List ℕ
octal value = (48 + value / 64) ∷ (48 + value / 8 % 8) ∷ (48 + value % 8) ∷ []

-- a text as a formula of a spreadsheet, whose value is the text (profile: docs/FORMATS.md, Sheets)
abbrev pub formula : List ℕ → List ℕ
formula text = codes "=\"" ++ (text ++ codes "\"")

-- a number of tenths in decimal, with one digit after the point
abbrev pub tenths : ℕ → List ℕ
tenths number = decimal (number / 10) ++ (codes "." ++ decimal (number % 10))
