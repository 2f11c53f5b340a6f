-- Titles above a heading, counted line by line.
use Rattle.std.proofs.Common.{◌≡◌, ◌∙◌, ◌+◌, ◌-◌, ◌^◌, ◌≤◌, ◌∷◌, ℕ, List, [], refl, sym, ap, arith, min}
use Rattle.std.specs.Prelude.{⊤, Option, Some, None}
use Rattle.a429_logs.specs.Logs.{Titled, heading_by, heading_from, one_more, one_title, opening_line}
use Rattle.a429_logs.specs.declared.reading.OpeningLine.{OpeningLine}
use Rattle.a429_logs.specs.declared.reading.OpeningLine.TheVariants.{Passed, Columns, FirstRow, Title}
use Rattle.a429_logs.specs.declared.reading.Reading.{Reading}

-- a count of titles that fits
abbrev pub IsCount : Option Titled → Type 0
IsCount None = ⊤
IsCount (Some t) = t.titles ≤ 2 ^ 64 - 1

count-by : (line : OpeningLine) (lines : List (ℕ × List ℕ)) (later : Option Titled) → IsCount later → IsCount (heading_by line lines later)
count-by Passed lines later known = known
count-by Title lines None known = tt
count-by Title lines (Some t) known = omega arith
count-by Columns lines later known = omega arith
count-by FirstRow lines later known = tt

pub heading-count : (reading : Reading) (lines : List (ℕ × List ℕ)) → IsCount (heading_from reading lines)
heading-count reading [] = tt
heading-count reading (line ∷ lines) =
    count-by (opening_line reading line.1) (line ∷ lines) (heading_from reading lines) (heading-count reading lines)

-- with this number of titles more
abbrev pub more_titles : ℕ → Option Titled → Option Titled
more_titles count None = None
more_titles count (Some t) = Some (record t { titles = min (count + t.titles) (2 ^ 64 - 1) })

pub none-more : (found : Option Titled) → IsCount found → found ≡ more_titles 0 found
none-more None known = refl
none-more (Some t) known = ap (λ (n : ℕ). Some (record t { titles = n })) (omega arith)

pub one-more : (count : ℕ) (found : Option Titled) → more_titles count (one_title found) ≡ more_titles (one_more count) found
one-more count None = refl
one-more count (Some t) = ap (λ (n : ℕ). Some (record t { titles = n })) (omega arith)

pub heading-first : (reading : Reading) (left lines : List (ℕ × List ℕ)) (line : ℕ × List ℕ) → left ≡ line ∷ lines
    → heading_from reading left ≡ heading_by (opening_line reading line.1) left (heading_from reading lines)
heading-first reading left lines line taken =
    ap (λ (l : List (ℕ × List ℕ)). heading_from reading l) taken
    ∙ ap (λ (l : List (ℕ × List ℕ)). heading_by (opening_line reading line.1) l (heading_from reading lines)) (sym taken)
