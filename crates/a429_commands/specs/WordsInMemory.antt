-- Arguments in memory, given to the program (vocabulary of contracts).
use Rattle.std.specs.Prelude.{◌⊎◌, ℕ, List, Option, drop}
use Rattle.std.specs.List.{AllByRecursion}
use Rattle.std.specs.Str.{IsUtf8}
use Rattle.a429_console.specs.Ends.{IsMistakeTold, Writing}
use Rattle.a429_cli.specs.ProgramRuns.{IsDoneOrRefused, Reader}

-- the arguments after the path of the program, in order
abbrev pub after_path : List (List ℕ) → List (List ℕ)
after_path words = drop 1 words

-- each argument is UTF-8
abbrev pub AreTexts : List (List ℕ) → Type 0
AreTexts words = AllByRecursion IsUtf8 words

-- Either the arguments after the path went to the command that the first of them names, all of them and unaltered, or
-- an allocation failed. Or one of them is not UTF-8, which is a usage error.
abbrev pub ProgramGetsItsWords : {X Y : Type 0} → List (List ℕ) → Reader → (((List ℕ → Option (List ℕ)) → Type 0) → Type 0) → Writing X → Writing Y → ℕ → Type 0
ProgramGetsItsWords words reader Reads out err status =
    IsDoneOrRefused (after_path words) reader Reads out err status ⊎ ((¬ (AreTexts (after_path words))) × IsMistakeTold out err status)
