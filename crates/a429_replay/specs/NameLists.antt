-- Names with which a text begins (profile: docs/FORMATS.md, Script of `replay`).
use Rattle.std.specs.Prelude.{◌≡◌, ◌<◌, ◌++◌, ◌∷◌, ℕ, List, Some, None}
use Rattle.a429_text.specs.CutText.{cut}
use Rattle.a429_console.specs.Names.{name_at, number_named}

-- a text with neither a space nor a line feed
abbrev pub IsPlain : List ℕ → Type 0
IsPlain text = (cut 10 text ≡ None) × (cut 32 text ≡ None)

-- the name of a number is the first of its spelling, and plain
abbrev pub IsFirstPlain : List (List ℕ) → ℕ → Type 0
IsFirstPlain names number = (number_named names (name_at names number) ≡ Some number) × IsPlain (name_at names number)

-- this is so of each number below n
abbrev pub AreFirst : List (List ℕ) → ℕ → Type 0
AreFirst names n = (number : ℕ) → number < n → IsFirstPlain names number

-- a text begins with the plain name of a number, which this byte and this rest follow
pub record BeginsWithName (names : List (List ℕ)) (end : ℕ) (text : List ℕ) (number : ℕ) (rest : List ℕ) : Type 0 where
  pub name : List ℕ
  pub plain : IsPlain name
  pub numbered : number_named names name ≡ Some number
  pub reads : text ≡ name ++ end ∷ rest
