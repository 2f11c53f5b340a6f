-- The arguments that a program was given (vocabulary of contracts).
use Rattle.std.specs.Prelude.{◌≡◌, ◌<◌, ◌+◌, ◌∷◌, [], ⊤, ℕ, List, Some, None, length, slice_get}
use Rattle.std.specs.Str.{IsUtf8}

-- these arguments were answered at the places from k on, in order
abbrev pub AreFrom : (ℕ → List ℕ → Type 0) → ℕ → List (List ℕ) → Type 0
AreFrom gives k [] = ⊤
AreFrom gives k (word ∷ words) = gives k word × AreFrom gives (k + 1) words

-- these are all arguments after the path of the program, which is at place 0: each was answered at its place, and after the last that there is none
abbrev pub AreAllWords : (ℕ → List ℕ → Type 0) → (ℕ → Type 0) → List (List ℕ) → Type 0
AreAllWords gives ends words = AreFrom gives 1 words × ends (length words + 1)

-- an argument after the path of the program is not UTF-8
abbrev pub HasNoText : (ℕ → List ℕ → Type 0) → Type 0
HasNoText gives = (place : ℕ) × (bytes : List ℕ) × (0 < place) × gives place bytes × (¬ (IsUtf8 bytes))

-- ---- arguments in memory

-- the argument at this place has exactly these bytes
abbrev pub IsWordAt : List (List ℕ) → ℕ → List ℕ → Type 0
IsWordAt words place bytes = slice_get words place ≡ Some bytes

-- there is no argument at this place
abbrev pub HasNoWordAt : List (List ℕ) → ℕ → Type 0
HasNoWordAt words place = slice_get words place ≡ None
