-- Days of the calendar.
use Rattle.std.proofs.Common.{◌≡◌, ◌+◌, ◌≤◌, ℕ, zero, suc, Bool, true, false, List, [], ◌∷◌, get_or, add-one, ap, refl, arith}
use Rattle.std.specs.Prelude.{nat_le}
use Rattle.std.specs.List.{list_all}
use Rattle.std.proofs.lemmas.Bool.{and_parts, leb-true}
use Rattle.a429_logs.specs.GregorianCalendar.{KnownDates, days_of_months, days_of_years, month_length, month_lengths, year_length}

all_at : (xs : List ℕ) (n : ℕ) → list_all (λ x. nat_le x 31) xs ≡ true → get_or xs n 0 ≤ 31
all_at [] n all = omega arith
all_at (x ∷ xs) zero all = leb-true x 31 (and_parts (nat_le x 31) (list_all (λ x. nat_le x 31) xs) all).0
all_at (x ∷ xs) (suc n) all = all_at xs n (and_parts (nat_le x 31) (list_all (λ x. nat_le x 31) xs) all).1

pub month_short : (leap : Bool) (n : ℕ) → month_length leap n ≤ 31
month_short true n = all_at (month_lengths true) n refl
month_short false n = all_at (month_lengths false) n refl

pub known_dates : KnownDates
unfolding days_of_months days_of_years
known_dates = record { common = refl; leap = refl; epoch = refl; centuries = refl; last = refl; march = refl; leap_march = refl }

pub months_next : (leap : Bool) (n : ℕ) → days_of_months leap (n + 1) ≡ days_of_months leap n + month_length leap n
unfolding days_of_months
months_next leap n = ap (λ (k : ℕ). days_of_months leap k) (add-one n)

pub years_next : (first n : ℕ) → days_of_years first (n + 1) ≡ days_of_years first n + year_length (first + n)
unfolding days_of_years
years_next first n = ap (λ (k : ℕ). days_of_years first k) (add-one n)
