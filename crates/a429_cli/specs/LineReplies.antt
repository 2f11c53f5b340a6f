-- The command `lines`: what it writes, and its status (profile: docs/FORMATS.md, Output of `lines`).
use Rattle.std.specs.Prelude.{◌≡◌, ◌==◌, ◌||◌, ◌+◌, ◌∷◌, [], ◌++◌, ◌⊎◌, ℕ, List, Bool, true, false, Option, Some, None, Result, MatchResult, map, take, is_none, if◌then◌else◌}
use Rattle.a429_line.specs.declared.found.Symbol.{Symbol}
use Rattle.a429_line.specs.Reports.{reports, rest}
use Rattle.a429_filter.specs.declared.filters.Filter.{Filter}
use Rattle.a429_filter.specs.FilterTexts.{filter_of, filter_read}
use Rattle.a429_console.specs.FileReadings.{readable, IsFileRefusal}
use Rattle.a429_console.specs.Replying.{HasReplied}
use Rattle.a429_console.specs.declared.files.FileFault.{FileFault}
use Rattle.a429_console.specs.declared.output.OutputFault.{OutputFault}
use Rattle.a429_line.specs.LineBytes.{symbols_of}
use Rattle.a429_line.specs.LineBytes.{first_bad_byte}
use Rattle.a429_cli.specs.LineReports.{printed, refused_in, rest_in, rows_head}
use Rattle.a429_text.specs.declared.sheets.SheetForm.{SheetForm}
use Rattle.a429_console.specs.RefusalText.{OrMemory, refusal_line}
use Rattle.a429_cli.specs.declared.lines.LineInput.{LineInput}
use Rattle.a429_console.specs.declared.refusals.CommandRefusal.{CommandRefusal}
use Rattle.a429_console.specs.declared.refusals.CommandRefusal.TheVariants as refused

-- the number from 1 of the first filter that is refused, after n that are not: it is not of its form, or 32 are before it
abbrev pub first_bad_filter : ℕ → List (List ℕ) → Option ℕ
first_bad_filter n [] = None
first_bad_filter n (text ∷ texts) = if n == 32 || is_none (filter_read text) then Some (n + 1) else first_bad_filter (n + 1) texts

-- the filters of texts; without texts there is no list
abbrev pub filter_list : List (List ℕ) → Option (List Filter)
filter_list [] = None
filter_list (text ∷ texts) = Some (map filter_of (text ∷ texts))

-- the list of the filters of texts, of which none is refused
abbrev pub AreFiltersOf : List (List ℕ) → Option (List Filter) → Type 0
AreFiltersOf texts filters = (filters ≡ filter_list texts) × (first_bad_filter 0 texts ≡ None)

-- the number is that of the first filter that is refused
abbrev pub IsFilterRefusal : List (List ℕ) → CommandRefusal → Type 0
IsFilterRefusal filters (refused.Filter n) = first_bad_filter 0 filters ≡ Some n
IsFilterRefusal filters _ = ⊥

-- the place is that of the first byte that a line file cannot have
abbrev pub IsByteRefusal : List ℕ → CommandRefusal → Type 0
IsByteRefusal bytes (refused.LineByte place) = first_bad_byte bytes ≡ Some place
IsByteRefusal bytes _ = ⊥

-- these are the bytes of the file, and none of the filters is refused
abbrev pub AreLineBytes : (List ℕ → Option (List ℕ)) → List ℕ → List (List ℕ) → List ℕ → Type 0
AreLineBytes file name filters bytes = (readable (file name) ≡ Some bytes) × (first_bad_filter 0 filters ≡ None)

-- why no report of a line is printed: the file, then a filter, then a byte
abbrev pub IsLinesRefusal : (List ℕ → Option (List ℕ)) → List ℕ → List (List ℕ) → CommandRefusal → Type 0
IsLinesRefusal file name filters refusal =
    IsFileRefusal file name refusal
    ⊎ ((bytes : List ℕ) × (readable (file name) ≡ Some bytes) × IsFilterRefusal filters refusal)
    ⊎ ((bytes : List ℕ) × AreLineBytes file name filters bytes × IsByteRefusal bytes refusal)

-- a line that was read: it has the bytes of the file, each a symbol or skipped, and the list of the filters
abbrev pub IsLineOf : (List ℕ → Option (List ℕ)) → List ℕ → List (List ℕ) → LineInput → Type 0
IsLineOf file name filters l = AreLineBytes file name filters l.bytes.items × (first_bad_byte l.bytes.items ≡ None) × (l.filters ≡ filter_list filters)

-- what reading a line file gives: the line, or why no report of it is printed
abbrev pub IsLineReading : (List ℕ → Option (List ℕ)) → List ℕ → List (List ℕ) → Result LineInput CommandRefusal → Type 0
IsLineReading file name filters result = MatchResult result (IsLineOf file name filters) (OrMemory (IsLinesRefusal file name filters))

-- these lines are what is printed of some reports of a first part of a line
abbrev pub IsToldInPart : SheetForm → Option (List Filter) → List Symbol → List ℕ → Type 0
IsToldInPart form filters line lines = (k : ℕ) × (n : ℕ) × (lines ≡ printed form filters (take n (reports (take k line))))

-- these lines are what is printed of all reports of a line and of its rest, or of some reports
abbrev pub IsPrinted : SheetForm → Option (List Filter) → List Symbol → Bool → List ℕ → Type 0
IsPrinted form filters line true lines = lines ≡ printed form filters (reports line) ++ rest_in form filters (rest line)
IsPrinted form filters line false lines = IsToldInPart form filters line lines

-- what is printed of a line, and the status: all its reports and its rest, or some reports and then that an allocation failed; before them the
-- beginning of the rows
abbrev pub IsTold : SheetForm → Option (List Filter) → List Symbol → ℕ → List ℕ → Type 0
IsTold form filters line status bytes =
    ((bytes ≡ rows_head form ++ (printed form filters (reports line) ++ rest_in form filters (rest line))) × (status ≡ 0))
    ⊎ ((lines : List ℕ) × IsToldInPart form filters line lines × (status ≡ 1) × (bytes ≡ rows_head form ++ (lines ++ refused_in form)))

-- what is printed of a line that was read, and whether memory sufficed for all
abbrev pub IsLinePrinted : SheetForm → LineInput → Bool → List ℕ → Type 0
IsLinePrinted form l sufficed lines = IsPrinted form l.filters (symbols_of l.bytes.items) sufficed lines

-- what is printed of a line that was read, and the status
abbrev pub IsLineTold : SheetForm → LineInput → ℕ → List ℕ → Type 0
IsLineTold form l status bytes = IsTold form l.filters (symbols_of l.bytes.items) status bytes

-- what is written of a line file with filters of these texts, and the status: the line of a refusal, or what is printed of the line
abbrev pub IsLinesReply : (List ℕ → Option (List ℕ)) → SheetForm → List ℕ → List (List ℕ) → ℕ → List ℕ → Type 0
IsLinesReply file form name filters status bytes =
    ((refusal : CommandRefusal) × OrMemory (IsLinesRefusal file name filters) refusal × (status ≡ 1) × (bytes ≡ refusal_line refusal ++ 10 ∷ []))
    ⊎ ((content : List ℕ) × AreLineBytes file name filters content × (first_bad_byte content ≡ None) × IsTold form (filter_list filters) (symbols_of content) status bytes)

-- what `lines` answers of the files of a reader: the files are those that give what the reader answered in the call
abbrev pub HasToldLines : {S X : Type 0} → (S → List ℕ → Result (List ℕ) FileFault → S → Type 0) → (X → Option (List ℕ)) → SheetForm → List ℕ → List (List ℕ) → S → S → X → X → Result ℕ OutputFault → Type 0
HasToldLines Answers contents form name filters = HasReplied Answers contents (λ file. IsLinesReply file form name filters)
