-- What words say as BNR and as BCD (ARINC 429 Part 1; profile: docs/FORMATS.md, Output of `survey`, `--table`).
use Rattle.std.specs.Prelude.{ℕ, ℤ, pos, neg_ℤ, ◌+◌, ◌*◌, ◌==◌, List, [], ◌∷◌, None, Option, Some, filter_map, fold, if◌then◌else◌, option_and_then}
use Rattle.std.specs.Int.{int_max, int_min}
use Rattle.a429_text.specs.Fields.{Absent, Field, Signed}
use Rattle.a429_word.specs.Bits.{bcd_of, bnr_of, ssm_of}
use Rattle.a429_survey.specs.Figures.{Noted}

-- ---- the data of a word

-- Its data as BNR: bits 11 to 29 in two's complement, bit 29 the sign, if its SSM is 3. For BNR the SSM 3 says normal
-- operation; a word with another SSM has no data to use (ARINC 429 Part 1).
abbrev pub bnr_data : ℕ → Option ℤ
bnr_data raw = if ssm_of raw == 3 then Some (bnr_of 18 raw) else None

-- the number that decimal digits make, the highest first
abbrev pub number_of : List ℕ → ℕ
number_of digits = fold (λ number digit. 10 * number + digit) 0 digits

-- A number with the sign of an SSM. For BCD the SSM 0 says plus, and 3 says minus; a word with another SSM has no data to
-- use (ARINC 429 Part 1).
abbrev pub signed_by : ℕ → ℕ → Option ℤ
signed_by ssm number = if ssm == 0 then Some (pos number) else (if ssm == 3 then Some (neg_ℤ (pos number)) else None)

-- Its data as BCD: the number of its five digits with the sign of its SSM. A word with a digit above 9 has none (ARINC 429
-- Part 1).
abbrev pub bcd_data : ℕ → Option ℤ
bcd_data raw = option_and_then (λ digits. signed_by (ssm_of raw) (number_of digits)) (bcd_of raw)

-- ---- the data of some words, oldest first

-- what they say, without those that say nothing
abbrev pub said_by : (ℕ → Option ℤ) → List Noted → List ℤ
said_by reading words = filter_map (λ w. reading w.raw) words

-- the least and the greatest of some numbers; nothing is said if there is none
abbrev pub least_said : List ℤ → Field
least_said [] = Absent
least_said (n ∷ ns) = Signed (fold int_min n ns)

abbrev pub greatest_said : List ℤ → Field
greatest_said [] = Absent
greatest_said (n ∷ ns) = Signed (fold int_max n ns)

-- the least and the greatest of what they say as BNR, and of what they say as BCD (profile)
abbrev pub data_fields : List Noted → List Field
data_fields words =
    least_said (said_by bnr_data words) ∷ greatest_said (said_by bnr_data words) ∷ least_said (said_by bcd_data words) ∷ greatest_said (said_by bcd_data words) ∷ []

-- nothing is said of the data of all words of a name, and of words that are missing (profile)
abbrev pub no_data_fields : List Field
no_data_fields = Absent ∷ Absent ∷ Absent ∷ Absent ∷ []
