-- What the runs of a line are: stretches of ones and zeros that cannot be made longer, and Nulls between them (profile: docs/RULES.md, Lines).
use Rattle.std.specs.Prelude.{◌≡◌, ◌≤◌, ⊤, ℕ, Bool, true, false, List, [], ◌∷◌, ◌++◌, replicate, nat_lt, IsTrue}
use Rattle.std.specs.List.{flat_map, AllByRecursion, list_all}
use Rattle.a429_line.specs.declared.found.Symbol.{Symbol}
use Rattle.a429_line.specs.declared.found.Symbol.TheVariants.{Hi, Null, Lo}
use Rattle.a429_line.specs.Reports.{Run}

-- a one or a zero
abbrev pub is_bit : Symbol → Bool
is_bit Hi = true
is_bit Null = false
is_bit Lo = true

-- one symbol or more, and no Null
abbrev pub are_bits : List Symbol → Bool
are_bits [] = false
are_bits (s ∷ x) = list_all is_bit (s ∷ x)

-- the Nulls before a run, and the run
abbrev pub stretch : Run → List Symbol
stretch run = replicate run.gap Null ++ run.symbols

-- a Null is between two runs
abbrev pub RunsAreApart : List Run → Type 0
RunsAreApart [] = ⊤
RunsAreApart (run ∷ more) = AllByRecursion (λ next. 1 ≤ next.gap) more

-- something follows: a further run, or Nulls
abbrev pub goes_on : List Run → ℕ → Bool
goes_on [] nulls = nat_lt 0 nulls
goes_on (run ∷ more) nulls = true

-- a run is ended if and only if the line goes on
abbrev pub AreEnded : List Run → ℕ → Type 0
AreEnded [] nulls = ⊤
AreEnded (run ∷ more) nulls = (run.ended ≡ goes_on more nulls) × AreEnded more nulls

-- the line is these runs, each after its Nulls, and then this number of Nulls
pub record IsCut (x : List Symbol) (all : List Run) (nulls : ℕ) : Type 0 where
  pub whole : x ≡ flat_map stretch all ++ replicate nulls Null
  pub bits : AllByRecursion (λ run. IsTrue (are_bits run.symbols)) all
  pub apart : RunsAreApart all
  pub ended : AreEnded all nulls
