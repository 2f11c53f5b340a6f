-- The Gregorian calendar (ISO 8601): its years, and their months and days.
use Rattle.std.specs.Prelude.{◌≡◌, ◌==◌, ◌&&◌, ◌||◌, ◌+◌, ◌-◌, ◌*◌, ◌%◌, ◌∷◌, [], ℕ, Bool, true, false, List, get_or, if◌then◌else◌, not, suc, zero}

-- 4 divides a leap year; if 100 does, so does 400
abbrev pub is_leap : ℕ → Bool
is_leap year = year % 4 == 0 && (not (year % 100 == 0) || year % 400 == 0)

-- the days of each month, January first
abbrev pub month_lengths : Bool → List ℕ
month_lengths true = 31 ∷ 29 ∷ 31 ∷ 30 ∷ 31 ∷ 30 ∷ 31 ∷ 31 ∷ 30 ∷ 31 ∷ 30 ∷ 31 ∷ []
month_lengths false = 31 ∷ 28 ∷ 31 ∷ 30 ∷ 31 ∷ 30 ∷ 31 ∷ 31 ∷ 30 ∷ 31 ∷ 30 ∷ 31 ∷ []

-- the days of the month that comes after this number of months of a year
abbrev pub month_length : Bool → ℕ → ℕ
month_length leap passed = get_or (month_lengths leap) passed 0

-- the days of this number of months from January on
unfoldable pub days_of_months : Bool → ℕ → ℕ
days_of_months leap zero = 0
days_of_months leap (suc months) = days_of_months leap months + month_length leap months

abbrev pub year_length : ℕ → ℕ
year_length year = if is_leap year then 366 else 365

-- the days of this number of years from a first one on
unfoldable pub days_of_years : ℕ → ℕ → ℕ
days_of_years first zero = 0
days_of_years first (suc years) = days_of_years first years + year_length (first + years)

-- the days of a year before a day, by its month and its number in the month
abbrev pub days_before : ℕ → ℕ → ℕ → ℕ
days_before year month day = days_of_months (is_leap year) (month - 1) + (day - 1)

-- ---- examples

-- what calendars say
pub record KnownDates : Type 0 where
  -- a year has the days of its twelve months
  pub common : days_of_months false 12 ≡ 365
  pub leap : days_of_months true 12 ≡ 366
  -- 2000-03-01 is 11017 days after 1970-01-01
  pub epoch : days_of_years 1970 30 + days_before 2000 3 1 ≡ days_before 1970 1 1 + 11017
  -- the years 1900 and 2100 are no leap years
  pub centuries : days_of_years 1900 201 ≡ 201 * 365 + 49
  -- 2024-12-31 is day 366
  pub last : days_before 2024 12 31 + 1 ≡ 366
  -- 2026-03-01 comes after 2026-02-28, and 2024-03-01 two days after 2024-02-28
  pub march : days_before 2026 3 1 ≡ days_before 2026 2 28 + 1
  pub leap_march : days_before 2024 3 1 ≡ days_before 2024 2 28 + 2
