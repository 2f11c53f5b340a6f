-- The rows of a group with what they ask.
use Rattle.std.proofs.Common.{◌≡◌, ℕ, zero, suc, ◌+◌, ◌<◌, ◌≤◌, ◌∷◌, [], ◌++◌, List, length, take, get_or, map, None, arith, sym, subst}
use Rattle.std.specs.Prelude.{Option, Some, IsSome, MatchOption, unwrap_or}
use Rattle.std.specs.List.{AllZip, AllByRecursion}
use Rattle.std.proofs.lemmas.List.{take_more}
use Rattle.std.proofs.lemmas.Slice.Zip.{all_zipped_more, AllZip-long}
use Rattle.std.proofs.lemmas.Option.{slice_get-get_or, none-some}
use Rattle.std.proofs.lemmas.Bool.{false≢true}
use Rattle.a429_word.proofs.Lists.{zipped_at}
use Rattle.a429_grid.specs.Grid.{HasNoGridPeriod}
use Rattle.a429_pack.specs.declared.demands.Demand.{Demand}
use Rattle.a429_pack.specs.Demands.{AreFit, demand_at, exponent_of}
use Rattle.a429_pack.specs.Demands as pack
use Rattle.a429_equipment.specs.declared.rows.OutputRow.{OutputRow}
use Rattle.a429_equipment.specs.declared.rows.SourceRow.{SourceRow}
use Rattle.a429_slots.specs.Asked.{IsAsked}
use Rattle.a429_slots.specs.Planned.{HasPeriod, IsFit, IsFirstUnfit}

-- the row that a read past the end gives
abbrev pub blank : OutputRow
blank = record { source = 0; min_us = 0; max_us = 0; hold = None }

-- the demand that a read past the end gives
abbrev pub unasked : Demand
unasked = record { period = None; label = 0; sdi = None }

pub all_below : {X : Type 0} (P : X → Type 0) (xs : List X) (i : ℕ) (d : X) → i < length xs → AllByRecursion P xs → P (get_or xs i d)
all_below P [] i d below all = absurd (omega arith)
all_below P (x ∷ xs) zero d below all = all.0
all_below P (x ∷ xs) (suc i) d below all = all_below P xs i d (omega arith) all.1

pub zipped_more : {A B : Type 0} (R : A → B → Type 0) (xs : List A) (ys : List B) (i : ℕ) (d : A) (y : B) → i < length xs → AllZip R (take i xs) ys → R (get_or xs i d) y → AllZip R (take (i + 1) xs) (ys ++ y ∷ [])
zipped_more {A} {B} R xs ys i d y h old new =
    subst (λ (zs : List A). AllZip R zs (ys ++ y ∷ [])) (sym (take_more xs i d h)) (all_zipped_more R (take i xs) ys (get_or xs i d) y old new)

-- ---- which outputs are fit

pub period_from : (o : Option ℕ) (P : Type 0) (Q : ℕ → Type 0) → MatchOption o P Q → IsSome o → Q (unwrap_or o 0)
period_from None P Q h some = absurd (false≢true some)
period_from (Some k) P Q h some = h

fit_from : (o : Option ℕ) (P : Type 0) (Q : ℕ → Type 0) → MatchOption o P Q → IsSome o → (k : ℕ) × Q k
fit_from o P Q h some = (unwrap_or o 0, period_from o P Q h some)

unfit_from : (o : Option ℕ) (P : Type 0) (Q : ℕ → Type 0) → MatchOption o P Q → o ≡ None → P
unfit_from None P Q h none = h
unfit_from (Some k) P Q h none = absurd (none-some k (sym none))

fit_before : (rate : ℕ) (sources : List SourceRow) (rows : List OutputRow) (ds : List Demand) (o : ℕ) → o ≤ length rows → AllZip (IsAsked rate sources) rows ds
    → ((j : ℕ) → j < o → IsSome (demand_at ds j).period) → AllByRecursion (IsFit rate) (take o rows)
fit_before rate sources rows ds zero few asked some = tt
fit_before rate sources [] ds (suc o) few asked some = absurd (omega arith)
fit_before rate sources (r ∷ rows) [] (suc o) few asked some = absurd asked
fit_before rate sources (r ∷ rows) (d ∷ ds) (suc o) few asked some = (
  fit_from d.period (HasNoGridPeriod r.min_us r.max_us rate) (HasPeriod rate r) asked.0.period (some 0 (omega arith)),
  fit_before rate sources rows ds o (omega arith) asked.1 (λ j less. some (suc j) (omega arith)),
)

pub first_unfit : (rate : ℕ) (sources : List SourceRow) (rows : List OutputRow) (ds : List Demand) (o : ℕ) → AllZip (IsAsked rate sources) rows ds → pack.IsFirstUnfitDemand ds o → IsFirstUnfit rate rows o
first_unfit rate sources rows ds o asked first =
    let same : length ds ≡ length rows = AllZip-long (IsAsked rate sources) rows ds asked in
    let below : o < length rows = omega (arith, first.there) in
    let here : IsAsked rate sources (get_or rows o blank) (demand_at ds o) = zipped_at (IsAsked rate sources) rows ds o blank unasked below asked in
    record {
      row = get_or rows o blank;
      there = slice_get-get_or rows o blank below;
      unfit = unfit_from (demand_at ds o).period (HasNoGridPeriod (get_or rows o blank).min_us (get_or rows o blank).max_us rate) (HasPeriod rate (get_or rows o blank)) here.period first.unfit;
      earlier = fit_before rate sources rows ds o (omega arith) asked first.earlier;
    }

-- the exponents that are asked for are those of the grid periods
pub have_periods : (rate : ℕ) (sources : List SourceRow) (rows : List OutputRow) (ds : List Demand) → AllZip (IsAsked rate sources) rows ds → AreFit ds → AllZip (HasPeriod rate) rows (map exponent_of ds)
have_periods rate sources [] [] asked fit = tt
have_periods rate sources [] (d ∷ ds) asked fit = absurd asked
have_periods rate sources (r ∷ rows) [] asked fit = absurd asked
have_periods rate sources (r ∷ rows) (d ∷ ds) asked fit = (
  period_from d.period (HasNoGridPeriod r.min_us r.max_us rate) (HasPeriod rate r) asked.0.period (fit 0 (omega arith)),
  have_periods rate sources rows ds asked.1 (λ i below. fit (suc i) (omega arith)),
)
