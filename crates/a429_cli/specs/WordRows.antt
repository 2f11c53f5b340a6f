-- A word as a sheet of one row: what `word` and `encode` print with `--csv` and `--json` (profile: docs/FORMATS.md, Output of `word`).
use Rattle.std.specs.Prelude.{◌∷◌, [], ◌++◌, ℕ, List, Option, Some, None, codes}
use Rattle.std.specs.List.{flat_map}
use Rattle.std.specs.Fmt.{decimal}
use Rattle.a429_word.specs.Bits.{label_of, sdi_of, ssm_of, data_of, bnr_of, bcd_of}
use Rattle.a429_word.specs.Texts.{octal}
use Rattle.a429_word.specs.Meanings.{two_bits, bnr_meaning, bnr_text, bcd_meaning, bcd_text}
use Rattle.a429_word.specs.Hexadecimal.{data_digits, hex}
use Rattle.a429_text.specs.Fields.{Field, Text, Signed, Absent}
use Rattle.a429_text.specs.Sheets.{sheet_text}
use Rattle.a429_text.specs.declared.sheets.SheetForm.{SheetForm}
use Rattle.a429_text.specs.declared.sheets.SheetForm.TheVariants.{Columns}

-- the word and its fields, its data as BNR and as BCD, and what its SSM says of each
abbrev pub word_columns : List (List ℕ)
word_columns =
    codes "word" ∷ codes "label" ∷ codes "sdi" ∷ codes "ssm" ∷ codes "data" ∷ codes "bnr" ∷ codes "bnr_meaning" ∷ codes "bcd" ∷ codes "bcd_meaning" ∷ []

-- the five digits, if each field is one (ARINC 429 Part 1, data formats)
abbrev pub bcd_field : Option (List ℕ) → Field
bcd_field None = Absent
bcd_field (Some ds) = Text (flat_map decimal ds)

-- eight hexadecimal digits, three octal ones, a decimal one, two binary ones and five hexadecimal ones
abbrev pub bit_fields : ℕ → List Field
bit_fields raw =
    Text (hex raw) ∷ Text (octal (label_of raw)) ∷ Text (decimal (sdi_of raw)) ∷ Text (two_bits (ssm_of raw)) ∷ Text (data_digits (data_of raw)) ∷ []

-- a number of 18 bits and the sign, and five digits (ARINC 429 Part 1, data formats)
abbrev pub data_fields : ℕ → List Field
data_fields raw =
    Signed (bnr_of 18 raw) ∷ Text (bnr_text (bnr_meaning (ssm_of raw))) ∷ bcd_field (bcd_of raw) ∷ Text (bcd_text (bcd_meaning (ssm_of raw))) ∷ []

abbrev pub word_row : ℕ → List Field
word_row raw = bit_fields raw ++ data_fields raw

-- what is printed of a word: this text, or with `--csv` or `--json` its sheet
abbrev pub told_word : SheetForm → List ℕ → ℕ → List ℕ
told_word Columns plain raw = plain
told_word form plain raw = sheet_text form word_columns (word_row raw ∷ [])
