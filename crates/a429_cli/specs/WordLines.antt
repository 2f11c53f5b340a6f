-- The command `word`: what it writes of a word, and its status (profile: output).
use Rattle.std.specs.Prelude.{◌≡◌, ◌++◌, ◌∷◌, [], ℕ, List, Option, Some, None, codes, true, false}
use Rattle.std.specs.List.{flat_map}
use Rattle.std.specs.Fmt.{decimal, signed_decimal}
use Rattle.a429_word.specs.Bits.{label_of, sdi_of, ssm_of, data_of, bnr_of, bcd_of, has_odd_parity}
use Rattle.a429_word.specs.Texts.{octal}
use Rattle.a429_word.specs.Meanings.{two_bits, bnr_meaning, bnr_text, bcd_meaning, bcd_text}
use Rattle.a429_word.specs.Hexadecimal.{data_digits, raw_word}
use Rattle.a429_text.specs.declared.sheets.SheetForm.{SheetForm}
use Rattle.a429_cli.specs.WordRows.{told_word}
use Rattle.a429_console.specs.declared.refusals.CommandRefusal.{CommandRefusal}
use Rattle.a429_console.specs.declared.refusals.CommandRefusal.TheVariants as refused

-- three octal digits and a decimal one
abbrev pub name_text : ℕ → ℕ → List ℕ
name_text label sdi = codes "label " ++ octal label ++ codes " sdi " ++ decimal sdi

-- two binary digits
abbrev pub status_text : ℕ → List ℕ
status_text ssm = codes " ssm " ++ two_bits ssm ++ codes " data "

abbrev pub data_text : ℕ → List ℕ
data_text value = data_digits value ++ 10 ∷ []

abbrev pub fields_line : ℕ → List ℕ
fields_line raw = name_text (label_of raw) (sdi_of raw) ++ status_text (ssm_of raw) ++ data_text (data_of raw)

-- 18 data bits and the sign (ARINC 429 Part 1, data formats)
abbrev pub bnr_line : ℕ → List ℕ
bnr_line raw = codes "bnr " ++ signed_decimal (bnr_of 18 raw) ++ codes " " ++ bnr_text (bnr_meaning (ssm_of raw)) ++ 10 ∷ []

-- the five digits, if each field is one (ARINC 429 Part 1, data formats)
abbrev pub bcd_digits : Option (List ℕ) → List ℕ
bcd_digits None = codes "none"
bcd_digits (Some ds) = flat_map decimal ds

-- the end of the line
abbrev pub meaning_text : List ℕ → List ℕ
meaning_text meaning = codes " " ++ meaning ++ 10 ∷ []

abbrev pub bcd_line : ℕ → List ℕ
bcd_line raw = codes "bcd " ++ bcd_digits (bcd_of raw) ++ meaning_text (bcd_text (bcd_meaning (ssm_of raw)))

abbrev pub word_lines : ℕ → List ℕ
word_lines raw = fields_line raw ++ bnr_line raw ++ bcd_line raw

-- what the word of eight hexadecimal digits says, with status 0
abbrev pub IsWordOf : List ℕ → SheetForm → ℕ → List ℕ → Type 0
IsWordOf text form status bytes =
    (raw : ℕ) × (raw_word text ≡ Some raw) × (has_odd_parity raw ≡ true) × (bytes ≡ told_word form (word_lines raw) raw) × (status ≡ 0)

-- why there is none: the text is none of eight hexadecimal digits, or the word has even parity
abbrev pub IsNoWord : List ℕ → CommandRefusal → Type 0
IsNoWord text refused.WordText = raw_word text ≡ None
IsNoWord text refused.Parity = (raw : ℕ) × (raw_word text ≡ Some raw) × (has_odd_parity raw ≡ false)
IsNoWord text _ = ⊥
