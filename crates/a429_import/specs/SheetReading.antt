-- What is known of the lines of a sheet, whose empty fields may be filled from above, and whose sources may get keys (profile: import).
use Rattle.std.specs.Prelude.{◌≡◌, ℕ, Bool, true, false, List, [], ◌∷◌, Option, None, Some}
use Rattle.std.specs.List.{AllZip}
use Rattle.csv.specs.Records.{fields_of}
use Rattle.a429_import.specs.declared.columns.Heading.{Heading}
use Rattle.a429_import.specs.declared.import.ImportOptions.{ImportOptions}
use Rattle.a429_text.specs.declared.csv_line.CsvLine.{CsvLine}
use Rattle.a429_import.specs.declared.reading.LinesRead.{LinesRead}
use Rattle.a429_import.specs.declared.sheet_reading.BelowRead.{BelowRead}
use Rattle.a429_import.specs.declared.sheet_reading.SheetRead.{SheetRead}
use Rattle.a429_import.specs.FilledLines.{AreFilled, IsFilledLine}
use Rattle.a429_import.specs.ImportMaps.{IsNamedBy}
use Rattle.a429_import.specs.ImportReading.{KnowsNothing, StandsFor}
use Rattle.a429_import.specs.KeyedLines.{IsKeyedLine}

-- the fields of the last of these lines; others if there is none
abbrev pub last_fields : List (List ℕ) → List CsvLine → List (List ℕ)
last_fields above [] = above
last_fields above (line ∷ lines) = last_fields (fields_of line.fields) lines

-- if the flag is set, a line is filled from the fields above it, which are then its own
abbrev pub IsFilledIf : Bool → List (List ℕ) → List (List ℕ) → CsvLine → List (List ℕ) → CsvLine → Type 0
IsFilledIf false heading above line after filled = filled ≡ line
IsFilledIf true heading above line after filled = IsFilledLine heading above line filled × (after ≡ fields_of filled.fields)

-- the same for the lines below a heading, of which these are the last fields
abbrev pub AreFilledIf : Bool → List (List ℕ) → List CsvLine → List (List ℕ) → List CsvLine → Type 0
AreFilledIf false heading lines last filled = filled ≡ lines
AreFilledIf true heading lines last filled = AreFilled heading [] lines filled × (last ≡ last_fields [] filled)

-- what is known is right for lines below a heading, with keys of sources if the flag is set
abbrev pub ReadsKeyed : Bool → CsvLine → LinesRead → List CsvLine → Type 0
ReadsKeyed false heading read lines = StandsFor heading read lines
ReadsKeyed true heading read lines = (keyed : List CsvLine) × AllZip (IsKeyedLine heading) lines keyed × StandsFor heading read keyed

-- the same, filled and with keys by the options
pub record ReadsBelow (options : ImportOptions) (heading : CsvLine) (read : BelowRead) (lines : List CsvLine) : Type 0 where
  pub filled : List CsvLine
  pub are : AreFilledIf options.fills (fields_of heading.fields) lines (fields_of read.above) filled
  pub reads : ReadsKeyed options.makes_names heading read.lines filled

-- no line was read
abbrev pub ReadsNothing : BelowRead → Type 0
ReadsNothing read = KnowsNothing read.lines × (fields_of read.above ≡ [])

-- no line was read, or a heading, which has its names by texts HEADING=COLUMN, and the lines below it
abbrev pub ReadsHeaded : ImportOptions → List (List ℕ) → Option Heading → BelowRead → List CsvLine → Type 0
ReadsHeaded options maps None read lines = (lines ≡ []) × ReadsNothing read
ReadsHeaded options maps (Some heading) read lines =
    (first : CsvLine) × (below : List CsvLine) × (lines ≡ first ∷ below) × IsNamedBy maps first heading.line × ReadsBelow options heading.line read below

abbrev pub ReadsSheet : ImportOptions → List (List ℕ) → SheetRead → List CsvLine → Type 0
ReadsSheet options maps read lines = ReadsHeaded options maps read.heading read.below lines
