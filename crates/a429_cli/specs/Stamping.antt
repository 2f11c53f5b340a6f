-- The stamps of a sheet: the files that it is about (profile: docs/FORMATS.md, Sheets).
use Rattle.std.specs.Prelude.{◌≡◌, ◌++◌, ℕ, List, codes, if◌then◌else◌}
use Rattle.a429_arguments.specs.Given.{Given, has_given}
use Rattle.a429_arguments.specs.declared.options.OptionName.TheVariants as option
use Rattle.a429_console.specs.FileReadings.{printable_name}
use Rattle.a429_documents.specs.Stamps.{stamp_text}

-- the line of a file
unfoldable pub stamp_line : List ℕ → List ℕ → List ℕ
stamp_line name bytes = codes "# " ++ (stamp_text (printable_name name) bytes ++ codes "\n")

-- the bytes of an answer, with these lines above them if stamps are asked for
abbrev pub stamped : Given → List ℕ → List ℕ → List ℕ
stamped given lines bytes = if has_given given option.Stamp then lines ++ bytes else bytes

-- what Says has, with these lines
abbrev pub IsStamped : Given → List ℕ → (ℕ → List ℕ → Type 0) → ℕ → List ℕ → Type 0
IsStamped given lines Says status bytes = (rest : List ℕ) × Says status rest × (bytes ≡ stamped given lines rest)
