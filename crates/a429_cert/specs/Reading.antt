-- How a line of a plan text is read from left to right (profile: docs/FORMATS.md, Plan text).
use Rattle.std.specs.Prelude.{◌≡◌, ℕ, List, length, take, drop, codes, Option, Some, None, Bool, ◌==◌, nat_eq, if◌then◌else◌}
use Rattle.std.specs.List.{starts_with, position_or_len}
use Rattle.std.specs.Str.{bytes_eq}
use Rattle.a429_word.specs.Decimal.{decimal_number}
use Rattle.a429_cert.specs.Spelling.{Heading, Listing, Bounding, when, says_more, is_break as ends_word}

infixl 10 ◌>>=◌
abbrev pub ◌>>=◌ : {A B : Type 0} → Option A → (A → Option B) → Option B
(Some x) >>= f = f x
None >>= f = None

abbrev pub is_break : ℕ → Bool
is_break = ends_word

-- what follows a text at the front
unfoldable pub after : List ℕ → List ℕ → Option (List ℕ)
after text bytes = when (starts_with nat_eq bytes text) (drop (length text) bytes)

-- the word at the front, and the bytes after it
unfoldable pub word : List ℕ → Option (List ℕ × List ℕ)
word bytes =
    let end = position_or_len is_break bytes in
    if end == 0 then None else Some (take end bytes, drop end bytes)

-- the number at the front, and the bytes after it
unfoldable pub number : List ℕ → Option (ℕ × List ℕ)
number bytes = do
  w ← word bytes
  n ← decimal_number w.0
  Some (n, w.1)

-- the word after a text, and the bytes that follow the word
unfoldable pub word_after : List ℕ → List ℕ → Option (List ℕ × List ℕ)
word_after text bytes = after text bytes >>= word

-- the number after a text, and the bytes that follow the number
unfoldable pub number_after : List ℕ → List ℕ → Option (ℕ × List ℕ)
number_after text bytes = after text bytes >>= number

-- the limit that a word spells: a number, or that there is no limit
unfoldable pub limit_of : List ℕ → Option (Option ℕ)
limit_of w = if bytes_eq w (codes "none") then Some None else (decimal_number w >>= λ n. Some (Some n))

-- the limit at the front, and the bytes after it
unfoldable pub limit : List ℕ → Option (Option ℕ × List ℕ)
limit bytes = do
  w ← word bytes
  l ← limit_of w.0
  Some (l, w.1)

-- the end of a line
unfoldable pub is_end : List ℕ → Bool
is_end bytes = bytes_eq bytes (codes "\n")

-- a number after a text, and nothing else
unfoldable pub number_line : List ℕ → List ℕ → Option ℕ
number_line text line = do
  n ← number_after text line
  when (is_end n.1) n.0

abbrev pub plan_line : List ℕ → Option ℕ
plan_line line = number_line (codes "plan ") line

abbrev pub rate_line : List ℕ → Option ℕ
rate_line line = number_line (codes "rate ") line

-- ---- what only a text of version 2 says

unfoldable pub said_rate : List ℕ → Option (Option ℕ × List ℕ)
said_rate bytes = do
  rate ← number_after (codes " rate ") bytes
  Some (Some rate.0, rate.1)

-- the bit rate at the front, and the bytes after it
unfoldable pub rate_part : ℕ → List ℕ → Option (Option ℕ × List ℕ)
rate_part version bytes = if says_more version then said_rate bytes else Some (None, bytes)

unfoldable pub said_hold : List ℕ → Option (Option (Option ℕ) × List ℕ)
said_hold bytes = do
  rest ← after (codes " hold ") bytes
  hold ← limit rest
  Some (Some hold.0, hold.1)

-- the hold at the front, and the bytes after it
unfoldable pub hold_part : ℕ → List ℕ → Option (Option (Option ℕ) × List ℕ)
hold_part version bytes = if says_more version then said_hold bytes else Some (None, bytes)

-- ---- the lines of a group

unfoldable pub group_line : ℕ → List ℕ → Option Heading
group_line version line = do
  name ← word_after (codes "group ") line
  rate ← rate_part version name.1
  frame ← number_after (codes " frame ") rate.1
  buses ← number_after (codes " buses ") frame.1
  when (is_end buses.1) (record { name = name.0; rate = rate.0; frame = frame.0; buses = buses.0 })

unfoldable pub output_line : ℕ → List ℕ → Option Listing
output_line version line = do
  source ← word_after (codes "output ") line
  period ← number_after (codes " period ") source.1
  bus ← number_after (codes " bus ") period.1
  offset ← number_after (codes " offset ") bus.1
  hold ← hold_part version offset.1
  when (is_end hold.1) (record { source = source.0; period = period.0; bus = bus.0; offset = offset.0; hold = hold.0 })

unfoldable pub bound_line : List ℕ → Option Bounding
bound_line line = do
  demand ← number_after (codes "bound ") line
  full_buses ← number_after (codes " > ") demand.1
  frame ← number_after (codes " * ") full_buses.1
  when (is_end frame.1) (record { demand = demand.0; full_buses = full_buses.0; frame = frame.0 })

-- ---- what is read of a line, and how it is spelled

-- a line that is read is spelled so, and what it says fits
abbrev pub IsReadOnlyAs : {A : Type 0} → (List ℕ → Option A) → (A → List ℕ) → (A → Type 0) → Type 0
IsReadOnlyAs {A} read spelled Fits = (line : List ℕ) (said : A) → read line ≡ Some said → (line ≡ spelled said) × Fits said

-- what fits is read of the line that is spelled so
abbrev pub IsReadAs : {A : Type 0} → (List ℕ → Option A) → (A → List ℕ) → (A → Type 0) → Type 0
IsReadAs {A} read spelled Fits = (said : A) → Fits said → read (spelled said) ≡ Some said
