-- What the program prints of the reports of a line (profile: output).
use Rattle.std.specs.Prelude.{◌++◌, ◌∷◌, [], ℕ, List, Bool, true, false, Option, Some, None, Result, IfOk, codes, filter, filter_map, if◌then◌else◌, nat_lt}
use Rattle.std.specs.List.{flat_map}
use Rattle.std.specs.Fmt.{decimal}
use Rattle.a429_line.specs.declared.found.Found.{Found}
use Rattle.a429_line.specs.declared.found.Found.TheVariants.{Word, Parity, Short, Long, Gap}
use Rattle.a429_filter.specs.declared.filters.Filter.{Filter}
use Rattle.a429_filter.specs.Receiving.{accepts}
use Rattle.a429_filter.specs.Sources.{raw_found}
use Rattle.a429_word.specs.Hexadecimal.{hex}
use Rattle.a429_console.specs.Outputs.{AppendsPending, memory_refused}
use Rattle.a429_text.specs.declared.sheets.SheetForm.{SheetForm}
use Rattle.a429_text.specs.declared.sheets.SheetForm.TheVariants as form
use Rattle.std.specs.declared.vec.Vec.{Vec}
use Rattle.std.specs.declared.alloc.Global.{Global}

abbrev pub word_line : ℕ → List ℕ
word_line raw = codes "word " ++ hex raw ++ 10 ∷ []

abbrev pub found_line : Found → List ℕ
found_line (Word raw) = word_line raw
found_line (Parity raw) = codes "parity " ++ hex raw ++ 10 ∷ []
found_line (Short bits) = codes "short " ++ decimal bits ++ 10 ∷ []
found_line Long = codes "long" ++ 10 ∷ []
found_line (Gap nulls) = codes "gap " ++ decimal nulls ++ 10 ∷ []

-- ---- as rows

-- before the rows
abbrev pub rows_head : SheetForm → List ℕ
rows_head form.Columns = []
rows_head form.Csv = codes "report,word,count\n"
rows_head form.Json = codes "[\n"

-- a row: what is reported, and a word or a count. Another row follows it.
abbrev pub word_row : SheetForm → List ℕ → ℕ → List ℕ
word_row form.Json report raw = codes "{\"report\":\"" ++ (report ++ (codes "\",\"word\":\"" ++ (hex raw ++ codes "\",\"count\":null},\n")))
word_row _ report raw = report ++ (codes "," ++ (hex raw ++ codes ",\n"))

abbrev pub count_row : SheetForm → List ℕ → ℕ → List ℕ
count_row form.Json report count = codes "{\"report\":\"" ++ (report ++ (codes "\",\"word\":null,\"count\":" ++ (decimal count ++ codes "},\n")))
count_row _ report count = report ++ (codes ",," ++ (decimal count ++ codes "\n"))

abbrev pub bare_row : SheetForm → List ℕ → List ℕ
bare_row form.Json report = codes "{\"report\":\"" ++ (report ++ codes "\",\"word\":null,\"count\":null},\n")
bare_row _ report = report ++ codes ",,\n"

abbrev pub found_row : SheetForm → Found → List ℕ
found_row form (Word raw) = word_row form (codes "word") raw
found_row form (Parity raw) = word_row form (codes "parity") raw
found_row form (Short bits) = count_row form (codes "short") bits
found_row form Long = bare_row form (codes "long")
found_row form (Gap nulls) = count_row form (codes "gap") nulls

-- what is printed of a report: its line or its row
abbrev pub found_in : SheetForm → Found → List ℕ
found_in form.Columns found = found_line found
found_in form found = found_row form found

abbrev pub word_in : SheetForm → ℕ → List ℕ
word_in form raw = found_in form (Word raw)

-- ---- what is printed

-- the words that a socket with these filters gives of a line with these reports
abbrev pub received : Option (List Filter) → List Found → List ℕ
received filters found = filter (accepts filters) (filter_map raw_found found)

-- each report, or if there is a list of filters each word that a socket gives
abbrev pub printed : SheetForm → Option (List Filter) → List Found → List ℕ
printed form None found = flat_map (found_in form) found
printed form (Some filters) found = flat_map (word_in form) (received (Some filters) found)

-- what is printed of one report, if memory sufficed for it
abbrev pub printed_if : Bool → SheetForm → Option (List Filter) → Found → List ℕ
printed_if sufficed form filters found = if sufficed then printed form filters (found ∷ []) else []

-- the bits at the end of a line that have no report, if there are any and there is no list of filters
abbrev pub rest_line : Option (List Filter) → ℕ → List ℕ
rest_line None rest = if nat_lt 0 rest then codes "rest " ++ decimal rest ++ 10 ∷ [] else []
rest_line (Some filters) rest = []

-- what follows the reports: the line of the rest, or the last row, which has the number of its bits
abbrev pub rest_in : SheetForm → Option (List Filter) → ℕ → List ℕ
rest_in form.Columns filters rest = rest_line filters rest
rest_in form.Csv filters rest = codes "rest,," ++ (decimal rest ++ codes "\n")
rest_in form.Json filters rest = codes "{\"report\":\"rest\",\"word\":null,\"count\":" ++ (decimal rest ++ codes "}\n]\n")

-- what follows them if memory did not suffice: that it did not, as a last row of an array, so that the array has its end
abbrev pub refused_in : SheetForm → List ℕ
refused_in form.Json = codes "{\"report\":\"refused memory\",\"word\":null,\"count\":null}\n]\n"
refused_in _ = memory_refused ++ 10 ∷ []

abbrev pub ending_in : SheetForm → Bool → List ℕ
ending_in form true = []
ending_in form false = refused_in form

-- what is printed of one report is put out or appended to the lines that are yet to be; the answer says whether memory sufficed for it
abbrev pub PrintsReport : {X E : Type 0} → (X → Option (List ℕ)) → SheetForm → Option (List Filter) → Found → X → X → Vec ℕ Global → Vec ℕ Global → Result Bool E → Type 0
PrintsReport contents form filters found out out' lines lines' result =
    IfOk result (λ all. AppendsPending (contents out) lines.items (contents out') lines'.items (printed_if all form filters found))
