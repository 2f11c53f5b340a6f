-- The runs of a line, and the report of each (ARINC 429 Part 1 for levels and gap; the cases are the profile's).
use Rattle.std.specs.Prelude.{ℕ, Bool, true, false, List, [], ◌∷◌, ◌++◌, Option, Some, None, ◌+◌, ◌*◌, if◌then◌else◌, nat_lt, not, length, filter_map, is_none, ◌&&◌}
use Rattle.std.specs.List.{find}
use Rattle.std.specs.Option.{option_map_or}
use Rattle.a429_word.specs.Bits.{has_odd_parity}
use Rattle.a429_line.specs.declared.found.Symbol.{Symbol}
use Rattle.a429_line.specs.declared.found.Symbol.TheVariants.{Hi, Null, Lo}
use Rattle.a429_line.specs.declared.found.Found.{Found}
use Rattle.a429_line.specs.declared.found.Found.TheVariants.{Word, Parity, Short, Long, Gap}

-- ---- runs

-- the symbols before the first Null
unfoldable pub first_piece : List Symbol → List Symbol
first_piece [] = []
first_piece (Null ∷ x) = []
first_piece (Hi ∷ x) = Hi ∷ first_piece x
first_piece (Lo ∷ x) = Lo ∷ first_piece x

-- those after each Null, up to the next
unfoldable pub later_pieces : List Symbol → List (List Symbol)
later_pieces [] = []
later_pieces (Null ∷ x) = first_piece x ∷ later_pieces x
later_pieces (Hi ∷ x) = later_pieces x
later_pieces (Lo ∷ x) = later_pieces x

-- A run is a maximal sequence of ones and zeros. It has: the number of Nulls before it, since the run
-- before or the line's start; its symbols; whether a Null ends it. (laws: this is the one way to cut a line)
pub record Run : Type 0 where
  pub gap : ℕ
  pub symbols : List Symbol
  pub ended : Bool

-- a piece is a run, unless it is empty
abbrev pub run_of : ℕ → List Symbol → Bool → List Run
run_of gap [] ended = []
run_of gap (s ∷ piece) ended = record { gap = gap; symbols = s ∷ piece; ended = ended } ∷ []

-- the number of Nulls before the next piece: the one between, plus those before this piece if it is empty
abbrev pub gap_after : ℕ → List Symbol → ℕ
gap_after gap [] = gap + 1
gap_after gap (s ∷ piece) = 1

-- the runs among a piece and later ones, if this number of Nulls comes before the first
unfoldable pub runs_from : ℕ → List Symbol → List (List Symbol) → List Run
runs_from gap piece [] = run_of gap piece false
runs_from gap piece (next ∷ later) = run_of gap piece true ++ runs_from (gap_after gap piece) next later

-- the runs of a line, in order
unfoldable pub runs : List Symbol → List Run
runs x = runs_from 0 (first_piece x) (later_pieces x)

-- ---- reports

-- the number of which these are the bits, the lowest first: bit 1 of a word goes out first (ARINC 429 Part 1)
unfoldable pub number : List Symbol → ℕ
number [] = 0
number (Hi ∷ x) = 1 + 2 * number x
number (Lo ∷ x) = 2 * number x
number (Null ∷ x) = 2 * number x

-- 32 bits are a word if their parity is odd (ARINC 429 Part 1)
abbrev pub report_of_32 : ℕ → Found
report_of_32 raw = if has_odd_parity raw then Word raw else Parity raw

-- the report of a run: the first case that holds, if one does (profile: lines)
abbrev pub report : Run → Option Found
report run =
    if nat_lt run.gap 4 then Some (Gap run.gap)
    else (if nat_lt 32 (length run.symbols) then Some Long
    else (if not run.ended then None
    else (if nat_lt (length run.symbols) 32 then Some (Short (length run.symbols))
    else Some (report_of_32 (number run.symbols)))))

-- the reports of a line, in the order of its runs
unfoldable pub reports : List Symbol → List Found
reports x = filter_map report (runs x)

-- ---- the rest

-- a run that has not ended and has no report
abbrev pub is_waiting : Run → Bool
is_waiting run = not run.ended && is_none (report run)

-- the length of a run that ends at the end of the line and has no report; otherwise 0
unfoldable pub rest : List Symbol → ℕ
rest x = option_map_or (λ run. length run.symbols) (find is_waiting (runs x)) 0
