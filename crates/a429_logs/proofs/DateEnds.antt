-- The last byte between a date and its time of day.
use Rattle.std.proofs.Common.{◌≡◌, ◌+◌, ◌<◌, ℕ, List, add-one, ap, get_or, refl}
use Rattle.std.specs.Prelude.{Bool, true, false, IfSome, Option}
use Rattle.a429_logs.specs.LateDates.{end_or, last_end}
use Rattle.a429_logs.specs.LogDates.{is_date_end}

pub end_next : (text : List ℕ) (n : ℕ) → last_end text (n + 1) ≡ end_or (get_or text n 0) n (last_end text n)
unfolding last_end
end_next text n = ap (λ (k : ℕ). last_end text k) (add-one n)

by_test : (b place limit : ℕ) (before : Option ℕ) (is : Bool) → is_date_end b ≡ is → place < limit → IfSome before (λ k. k < limit) → IfSome (end_or b place before) (λ k. k < limit)
by_test b place limit before true e here above = rw e here
by_test b place limit before false e here above = rw e above

pub end_within : (b place limit : ℕ) (before : Option ℕ) → place < limit → IfSome before (λ k. k < limit) → IfSome (end_or b place before) (λ k. k < limit)
end_within b place limit before here above = by_test b place limit before (is_date_end b) refl here above
