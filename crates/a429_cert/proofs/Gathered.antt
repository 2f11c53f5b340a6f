-- What is due of a table, gathered row by row.
use Rattle.std.proofs.Common.{◌≡◌, ℕ, ◌+◌, ◌∷◌, [], ◌++◌, List, take, map, ap, ◌∙◌, sym, subst}
use Rattle.std.specs.Prelude.{Some, slice_get, option_map}
use Rattle.std.specs.List.{AllZip, AllByRecursion}
use Rattle.std.proofs.lemmas.List.{map-append}
use Rattle.a429_word.proofs.Lists.{take_next}
use Rattle.a429_grid.specs.Grid.{IsGridPeriod}
use Rattle.a429_equipment.specs.TableRecord.{TableRecord}
use Rattle.a429_equipment.specs.declared.rows.OutputRow.{OutputRow}
use Rattle.a429_slots.specs.Planned.{IsFit, rated_outputs}
use Rattle.a429_cert.specs.declared.due.DueOutput.{DueOutput}
use Rattle.a429_cert.specs.declared.due.DueGroup.{DueGroup}
use Rattle.a429_cert.specs.declared.judging.NoVerdict.{NoVerdict}
use Rattle.a429_cert.specs.declared.judging.NoVerdict.TheVariants as judge
use Rattle.a429_cert.specs.Due.{IsDueOutput, IsDueGroup, OutputsAreFit}
use Rattle.a429_cert.specs.Judged.{IsNoVerdict, IsGroupUnfit}
use Rattle.a429_slots.proofs.Planning.{rated_at}

-- ---- lists element by element

pub map_next : {A B C : Type 0} (f : A → C) (g : B → C) (xs : List A) (ys : List B) (i : ℕ) (x : A) (y : B) → slice_get xs i ≡ Some x → map g ys ≡ map f (take i xs) → g y ≡ f x
    → map g (ys ++ y ∷ []) ≡ map f (take (i + 1) xs)
map_next {A} {B} {C} f g xs ys i x y h old new =
    map-append g ys (y ∷ []) ∙ ap (λ (zs : List C). zs ++ g y ∷ []) old ∙ ap (λ (z : C). map f (take i xs) ++ z ∷ []) new
    ∙ sym (map-append f (take i xs) (x ∷ [])) ∙ ap (map f) (sym (take_next xs i x h))

-- ---- what is due has its grid period

fit_of : (e : TableRecord) (rate : ℕ) (row : OutputRow) (o : DueOutput) → IsDueOutput e rate row o → IsFit rate row
fit_of e rate row o d =
    let p = d.period.0 in
    (p.0, subst (IsGridPeriod row.min_us row.max_us rate) p.2 d.period)

pub fits_of : (e : TableRecord) (rate : ℕ) (rows : List OutputRow) (os : List DueOutput) → AllZip (IsDueOutput e rate) rows os → AllByRecursion (IsFit rate) rows
fits_of e rate [] [] h = tt
fits_of e rate [] (o ∷ os) h = absurd h
fits_of e rate (r ∷ rs) [] h = absurd h
fits_of e rate (r ∷ rs) (o ∷ os) h = (fit_of e rate r o h.0, fits_of e rate rs os h.1)

pub all_fit : (e : TableRecord) (rated : List (ℕ × List OutputRow)) (gs : List DueGroup) → AllZip (IsDueGroup e) rated gs → AllByRecursion OutputsAreFit rated
all_fit e [] [] h = tt
all_fit e [] (g ∷ gs) h = absurd h
all_fit e (r ∷ rs) [] h = absurd h
all_fit e (r ∷ rs) (g ∷ gs) h = (fits_of e r.0 r.1 g.outputs.items h.0.outputs, all_fit e rs gs h.1)

-- the fault of a group, as that of the table
pub fault_in : (e : TableRecord) (rate g : ℕ) (none : NoVerdict) → option_map (λ row. row.rate) (slice_get e.groups g) ≡ Some rate → AllByRecursion OutputsAreFit (take g (rated_outputs e))
    → IsGroupUnfit e rate g none → IsNoVerdict e none
fault_in e rate g (judge.Unfit group o) rated earlier fault =
    let (same, found) = fault in
    let (rows, there, unfit) = found in
    record {
      rate = rate;
      rows = rows;
      there = ap (slice_get (rated_outputs e)) same ∙ rated_at e g rate rows rated there;
      unfit = unfit;
      earlier = subst (λ (k : ℕ). AllByRecursion OutputsAreFit (take k (rated_outputs e))) (sym same) earlier;
    }
fault_in e rate g judge.NoMemory rated earlier fault = tt
