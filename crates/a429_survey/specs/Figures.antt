-- The figures of some words of a recording, oldest first (profile: docs/FORMATS.md, Output of `survey`).
use Rattle.std.specs.Prelude.{ℕ, ◌==◌, ◌-◌, ◌*◌, ◌/◌, ◌^◌, List, [], ◌∷◌, Bool, not, fold, if◌then◌else◌, length, map, max, min, nat_lt}
use Rattle.std.specs.Int.{div_ceil}
use Rattle.a429_text.specs.Fields.{Field, Number, Tenths, Absent}
use Rattle.a429_word.specs.Bits.{has_odd_parity, ssm_of}

-- a word of a recording: its time in microseconds, the name of its receiver or channel, and its 32 bits
pub record Noted : Type 0 where
  pub time : ℕ
  pub name : List ℕ
  pub raw : ℕ

abbrev pub times_of : List Noted → List ℕ
times_of words = map (λ w. w.time) words

-- an even number of the 32 bits are ones
abbrev pub is_even : Noted → Bool
is_even w = not (has_odd_parity w.raw)

-- a word has this SSM
abbrev pub has_ssm : ℕ → Noted → Bool
has_ssm ssm w = ssm_of w.raw == ssm

-- ---- the first and the last

-- the first of some numbers, or 0 if there is none
abbrev pub first_of : List ℕ → ℕ
first_of [] = 0
first_of (n ∷ ns) = n

-- the last of some numbers, or this one if there is none
abbrev pub last_after : ℕ → List ℕ → ℕ
last_after n [] = n
last_after n (m ∷ ms) = last_after m ms

abbrev pub last_of : List ℕ → ℕ
last_of ns = last_after 0 ns

-- the time from the first word to the last
abbrev pub span_of : List Noted → ℕ
span_of words = last_of (times_of words) - first_of (times_of words)

-- ---- intervals

-- the intervals from a time to the next, and from each of these to the one after it
abbrev pub intervals_after : ℕ → List ℕ → List ℕ
intervals_after t [] = []
intervals_after t (u ∷ us) = (u - t) ∷ intervals_after u us

-- the interval from each time to the next
abbrev pub intervals : List ℕ → List ℕ
intervals [] = []
intervals (t ∷ ts) = intervals_after t ts

-- the least and the greatest of some numbers; nothing is said if there is none
abbrev pub least_field : List ℕ → Field
least_field [] = Absent
least_field (n ∷ ns) = Number (fold min n ns)

abbrev pub greatest_field : List ℕ → Field
greatest_field [] = Absent
greatest_field (n ∷ ns) = Number (fold max n ns)

-- a number of tenths. From 2^64 - 1 on, this number is written.
abbrev pub tenths_field : ℕ → Field
tenths_field number = Tenths (min number (2 ^ 64 - 1))

-- The mean interval: the time from the first word to the last, divided by the number of intervals, rounded down to a
-- tenth. Nothing is said of one word.
abbrev pub mean_field : List Noted → Field
mean_field words =
    if nat_lt 1 (length words) then tenths_field (10 * span_of words / (length words - 1)) else Absent

-- ---- the load

-- How much of the time from the first word to the last is taken by words at a bit rate in bit/s, in percent, rounded up
-- to a tenth. Each word but the last takes 36 bit times, and a second has 1000000 microseconds. Nothing is said if there
-- is no time between the first word and the last, or if the bit rate is 0.
abbrev pub load_field : ℕ → List Noted → Field
load_field rate words =
    if nat_lt 0 (rate * span_of words) then tenths_field (div_ceil (36 * 1000000 * 1000 * (length words - 1)) (rate * span_of words)) else Absent
