-- The lines that a reader stands for (vocabulary of contracts). Of a line it keeps what its last run is, or how many Nulls follow that run.
use Rattle.std.specs.Prelude.{◌≡◌, ◌++◌, ◌∷◌, [], ℕ, List, if◌then◌else◌, nat_lt, min, length}
use Rattle.a429_line.specs.Reports.{number, gap_after, first_piece, later_pieces, reports}
use Rattle.a429_line.specs.declared.found.Found.{Found}
use Rattle.a429_line.specs.declared.found.Symbol.{Symbol}
use Rattle.a429_line.specs.declared.stage.Stage.{Stage}
use Rattle.a429_line.specs.declared.stage.Stage.TheVariants.{Between, Within, Reported}

-- what is kept of a last piece, which comes after this number of Nulls
abbrev pub kept : ℕ → List Symbol → Stage
kept gap [] = Between (min gap 4)
kept gap (s ∷ piece) =
    if nat_lt gap 4 then Reported
    else (if nat_lt 32 (length (s ∷ piece)) then Reported
    else Within (length (s ∷ piece)) (number (s ∷ piece)))

-- what is kept of a piece and later ones
unfoldable pub kept_from : ℕ → List Symbol → List (List Symbol) → Stage
kept_from gap piece [] = kept gap piece
kept_from gap piece (next ∷ later) = kept_from (gap_after gap piece) next later

-- what is kept of a line
abbrev pub kept_of : List Symbol → Stage
kept_of x = kept_from 0 (first_piece x) (later_pieces x)

-- the length of a run without a report
abbrev pub left : Stage → ℕ
left (Between nulls) = 0
left (Within len raw) = len
left Reported = 0

-- a reader at this stage stands for the line x
unfoldable pub StandsForLine : List Symbol → Stage → Type 0
StandsForLine x stage = stage ≡ kept_of x

-- if the reader stood for a line, it now stands for that line followed by these symbols
abbrev pub GoesOnBySymbols : Stage → List Symbol → Stage → Type 0
GoesOnBySymbols before piece after = (x : List Symbol) → StandsForLine x before → StandsForLine (x ++ piece) after

-- after each line that a reader at this stage stands for, these symbols bring exactly these reports
abbrev pub BringReports : Stage → List Symbol → List Found → Type 0
BringReports stage piece found = (x : List Symbol) → StandsForLine x stage → reports (x ++ piece) ≡ reports x ++ found

-- a list of reports gets those that these symbols bring, after each line that a reader at this stage stands for
abbrev pub AddsReports : Stage → List Symbol → List Found → List Found → Type 0
AddsReports stage piece before after =
    (x : List Symbol) → StandsForLine x stage
    → (added : List Found) × (after ≡ before ++ added) × (reports (x ++ piece) ≡ reports x ++ added)

-- after each line that a reader at this stage stands for, these symbols bring at least one report
abbrev pub BringSome : Stage → List Symbol → Type 0
BringSome stage piece =
    (x : List Symbol) → StandsForLine x stage
    → (found : Found) × (later : List Found) × (reports (x ++ piece) ≡ reports x ++ found ∷ later)
