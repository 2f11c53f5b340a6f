-- Words and their fields, as calls from C give them (ARINC 429 Part 1, word format; profile: docs/C.md, The calls).
use Rattle.std.specs.Prelude.{◌≡◌, ◌<◌, ◌&&◌, ◌^◌, IsTrue, ℕ, Bool, Option, None, Some, Result, Ok, Err, if◌then◌else◌, nat_lt}
use Rattle.a429_word.specs.Bits.{bit, data_of, has_odd_parity, label_of, sdi_of, ssm_of}
use Rattle.a429_c.specs.declared.statuses.Status.{Status}
use Rattle.a429_c.specs.declared.statuses.Status.TheVariants.{Field, Parity}
use Rattle.a429_c.specs.declared.words.WordFields.{WordFields}

-- an SDI and an SSM have 2 bits, data has 19 (ARINC 429 Part 1, word format)
abbrev pub fields_fit : ℕ → ℕ → ℕ → Bool
fields_fit sdi value ssm = nat_lt sdi 4 && nat_lt value (2 ^ 19) && nat_lt ssm 4

-- why fields give no word
abbrev pub field_refusal : ℕ → ℕ → ℕ → Option Status
field_refusal sdi value ssm = if fields_fit sdi value ssm then None else Some Field

-- a word of odd parity has this label, SDI, data and SSM
abbrev pub IsWordOf : ℕ → ℕ → ℕ → ℕ → ℕ → Type 0
IsWordOf label sdi value ssm word =
    IsTrue (has_odd_parity word) × (label_of word ≡ label) × (sdi_of word ≡ sdi) × (data_of word ≡ value) × (ssm_of word ≡ ssm)

-- the fields of a word, with its parity bit (ARINC 429 Part 1, word format)
abbrev pub fields_of : ℕ → WordFields
fields_of word = record { value = data_of word; label = label_of word; sdi = sdi_of word; ssm = ssm_of word; parity = bit 32 word }

-- what is decoded of a word: its fields, if its parity is odd
abbrev pub decoded : ℕ → Result WordFields Status
decoded word = if has_odd_parity word then Ok (fields_of word) else Err Parity

-- the fields of which a word was encoded are those that are decoded of it
abbrev pub EncodedWordsAreDecoded : Type 0
EncodedWordsAreDecoded =
    (label sdi value ssm word : ℕ) → IsWordOf label sdi value ssm word
    → decoded word ≡ Ok (record { value = value; label = label; sdi = sdi; ssm = ssm; parity = bit 32 word })

-- a word that is encoded of the fields of another word is that word
abbrev pub DecodedWordsAreEncoded : Type 0
DecodedWordsAreEncoded =
    (v w : ℕ) → v < 2 ^ 32 → w < 2 ^ 32 → IsTrue (has_odd_parity v) → IsWordOf (label_of v) (sdi_of v) (data_of v) (ssm_of v) w → w ≡ v
