-- Lines whose empty fields are filled from above, with one more field or one more line.
use Rattle.std.proofs.Common.{◌≡◌, ◌∙◌, ◌+◌, ◌<◌, ℕ, zero, suc, Bool, false, true, List, [], ◌∷◌, ◌++◌, get_or, length, take, ap, ap₂, arith, refl, subst, sym}
use Rattle.csv.specs.Records.{fields_of}
use Rattle.a429_text.specs.declared.csv_line.CsvLine.{CsvLine}
use Rattle.a429_import.specs.FilledLines.{AreFilled, IsFilledLine, filled_below, filled_from}
use Rattle.a429_import.specs.ImportFields.{field_in}
use Rattle.a429_import.specs.SheetReading.{AreFilledIf, IsFilledIf, last_fields}

-- ---- one more field

pub filled_more : (place : ℕ) (heading above fields : List (List ℕ)) (i : ℕ) → i < length fields
    → filled_from place heading above (take (suc i) fields)
    ≡ filled_from place heading above (take i fields) ++ filled_below (field_in (place + i) heading) (field_in (place + i) above) (get_or fields i []) ∷ []
filled_more place heading above [] i below = absurd (omega (arith, below))
filled_more place heading above (field ∷ fields) zero below =
    let here : place + zero ≡ place = omega arith in
    ap (λ (n : ℕ). filled_below (field_in n heading) (field_in n above) field ∷ []) (sym here)
filled_more place heading above (field ∷ fields) (suc i) below =
    let here : place + suc i ≡ suc place + i = omega arith in
    ap (λ (fs : List (List ℕ)). filled_below (field_in place heading) (field_in place above) field ∷ fs)
    (filled_more (suc place) heading above fields i (omega (arith, below))
    ∙ ap (λ (n : ℕ). filled_from (suc place) heading above (take i fields) ++ filled_below (field_in n heading) (field_in n above) (get_or fields i []) ∷ []) (sym here))

-- ---- one more line

filled_push : (heading above : List (List ℕ)) (lines filled : List CsvLine) (line more : CsvLine) → AreFilled heading above lines filled → IsFilledLine heading (last_fields above filled) line more
    → AreFilled heading above (lines ++ line ∷ []) (filled ++ more ∷ [])
filled_push heading above [] filled line more are is =
    let by : IsFilledLine heading above line more = subst (λ (ls : List CsvLine). IsFilledLine heading (last_fields above ls) line more) are is in
    subst (λ (ls : List CsvLine). AreFilled heading above (line ∷ []) (ls ++ more ∷ [])) (sym are) (more, [], by, refl, refl)
filled_push heading above (l ∷ lines) filled line more (first, rest, by, others, same) is =
    let last : IsFilledLine heading (last_fields (fields_of first.fields) rest) line more = subst (λ (ls : List CsvLine). IsFilledLine heading (last_fields above ls) line more) same is in
    subst (λ (ls : List CsvLine). AreFilled heading above (l ∷ lines ++ line ∷ []) (ls ++ more ∷ [])) (sym same)
    (first, rest ++ more ∷ [], by, filled_push heading (fields_of first.fields) lines rest line more others last, refl)

last_push : (above : List (List ℕ)) (lines : List CsvLine) (line : CsvLine) → last_fields above (lines ++ line ∷ []) ≡ fields_of line.fields
last_push above [] line = refl
last_push above (l ∷ lines) line = last_push (fields_of l.fields) lines line

pub more_filled : (fills : Bool) (heading above last : List (List ℕ)) (lines filled : List CsvLine) (line more : CsvLine) → AreFilledIf fills heading lines above filled → IsFilledIf fills heading above line last more
    → AreFilledIf fills heading (lines ++ line ∷ []) last (filled ++ more ∷ [])
more_filled false heading above last lines filled line more are is = ap₂ (λ (ls : List CsvLine) (l : CsvLine). ls ++ l ∷ []) are is
more_filled true heading above last lines filled line more are is = (
  filled_push heading [] lines filled line more are.0 (subst (λ (a : List (List ℕ)). IsFilledLine heading a line more) are.1 is.0),
  is.1 ∙ sym (last_push [] filled more),
)

pub none_filled : (fills : Bool) (heading above : List (List ℕ)) → above ≡ [] → AreFilledIf fills heading [] above []
none_filled false heading above nothing = refl
none_filled true heading above nothing = (refl, nothing)
