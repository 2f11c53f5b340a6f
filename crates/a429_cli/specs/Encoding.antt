-- The command `encode`: the word of a label, an SDI, an SSM and data, or why there is none (ARINC 429 Part 1, word format; profile: output).
use Rattle.std.specs.Prelude.{◌≡◌, ◌<◌, ◌≤◌, ◌^◌, ◌-◌, ◌*◌, ◌==◌, ◌&&◌, ◌++◌, ◌∷◌, [], ◌⊎◌, ℕ, ℤ, pos, neg_ℤ, ◌<ℤ◌, ◌≤ℤ◌, Bool, List, Option, Some, None, MatchOption, ⊤, true, false, if◌then◌else◌, is_some, length, map, nat_le, option_map, slice_index, unwrap_or}
use Rattle.std.specs.List.{list_all}
use Rattle.std.specs.Char.{is_ascii_digit}
use Rattle.a429_word.specs.Bits.{label_of, sdi_of, ssm_of, data_of, number_from, bnr_of, bcd_of, has_odd_parity}
use Rattle.a429_word.specs.Texts.{label_value}
use Rattle.a429_word.specs.Hexadecimal.{hex, hex_number, raw_word}
use Rattle.a429_word.specs.Decimal.{decimal_number}
use Rattle.a429_arguments.specs.Given.{Given, number_given, text_given}
use Rattle.a429_arguments.specs.declared.options.OptionName.TheVariants as option
use Rattle.a429_text.specs.declared.sheets.SheetForm.{SheetForm}
use Rattle.a429_text.specs.declared.sheets.SheetForm.TheVariants.{Columns}
use Rattle.a429_cli.specs.WordRows.{told_word}
use Rattle.a429_cli.specs.declared.encode.FieldOptions.{FieldOptions}
use Rattle.a429_console.specs.declared.refusals.CommandRefusal.{CommandRefusal}
use Rattle.a429_console.specs.declared.refusals.CommandRefusal.TheVariants as refused

-- ---- what the texts of data state

-- a whole number: a number, with a minus before it or none
abbrev pub whole_number : List ℕ → Option ℤ
whole_number [] = None
whole_number (c ∷ cs) =
    if c == 45 then option_map (λ n. neg_ℤ (pos n)) (decimal_number cs)
    else option_map pos (decimal_number (c ∷ cs))

-- five decimal digits
abbrev pub five_digits : List ℕ → Option (List ℕ)
five_digits text = if length text == 5 && list_all is_ascii_digit text then Some (map (λ c. c - 48) text) else None

-- ---- data of a word (ARINC 429 Part 1, data formats)

-- as a number of 19 bits
abbrev pub HasHex : List ℕ → ℕ → Type 0
HasHex text raw = hex_number text ≡ Some (data_of raw)

-- a BNR number has 1 to 18 bits below its sign
abbrev pub is_bit_count : ℕ → Bool
is_bit_count bits = nat_le 1 bits && nat_le bits 18

-- as the BNR number of the sign and this number of bits below it, with zeros in the bits below those
pub record HasBnr (bits : ℕ) (text : List ℕ) (raw : ℕ) : Type 0 where
  pub count : is_bit_count bits ≡ true
  pub number : whole_number text ≡ Some (bnr_of bits raw)
  pub below : number_from 11 (18 - bits) raw ≡ 0

-- as five BCD digits
abbrev pub HasBcd : List ℕ → ℕ → Type 0
HasBcd text raw = (digits : List ℕ) × (five_digits text ≡ Some digits) × (bcd_of raw ≡ Some digits)

-- ---- why a text is that of no data

-- not of one to five hexadecimal digits, or above 19 bits
abbrev pub IsNoHex : List ℕ → Type 0
IsNoHex text = MatchOption (hex_number text) ⊤ (λ n. 2 ^ 19 ≤ n)

-- below or above what a sign and this number of bits below it state in two's complement
abbrev pub IsBeyond : ℕ → ℤ → Type 0
IsBeyond bits n = (n <ℤ neg_ℤ (pos (2 ^ bits))) ⊎ (pos (2 ^ bits) ≤ℤ n)

-- no whole number, or one that the bits cannot state
abbrev pub IsNoBnr : ℕ → List ℕ → Type 0
IsNoBnr bits text = (is_bit_count bits ≡ false) ⊎ MatchOption (whole_number text) ⊤ (IsBeyond bits)

-- not five decimal digits, or the first above its three bits
abbrev pub IsNoBcd : List ℕ → Type 0
IsNoBcd text = MatchOption (five_digits text) ⊤ (λ digits. 7 < slice_index digits 0)

-- ---- what is given

-- what is given of the fields of a word: an SDI and an SSM, and the data: in hexadecimal, as a BNR number with its bits below the sign, or as BCD digits
pub record FieldBytes : Type 0 where
  pub sdi : Option ℕ
  pub ssm : Option ℕ
  pub hex : Option (List ℕ)
  pub bnr : Option (List ℕ)
  pub bits : Option ℕ
  pub bcd : Option (List ℕ)

-- with the options of a request
abbrev pub fields_given : Given → FieldBytes
fields_given given = record {
  sdi = number_given given option.Sdi;
  ssm = number_given given option.Ssm;
  hex = text_given given option.Data;
  bnr = text_given given option.Bnr;
  bits = number_given given option.Bits;
  bcd = text_given given option.Bcd;
}

-- by the bytes of their texts
abbrev pub fields_of : FieldOptions → FieldBytes
fields_of f = record {
  sdi = f.sdi;
  ssm = f.ssm;
  hex = option_map (λ t. t.now) f.hex;
  bnr = option_map (λ t. t.now) f.bnr;
  bits = f.bits;
  bcd = option_map (λ t. t.now) f.bcd;
}

abbrev pub given_sdi : FieldBytes → ℕ
given_sdi f = unwrap_or f.sdi 0

-- with a BNR number normal operation, otherwise 0, which is plus of BCD digits
abbrev pub given_ssm : FieldBytes → ℕ
given_ssm f = unwrap_or f.ssm (if is_some f.bnr then 3 else 0)

abbrev pub given_bits : FieldBytes → ℕ
given_bits f = unwrap_or f.bits 18

-- what is said of the text of the data, as hexadecimal, BNR or BCD; or if none is given
abbrev pub OfData : FieldBytes → (List ℕ → Type 0) → (List ℕ → Type 0) → (List ℕ → Type 0) → Type 0 → Type 0
OfData f Hex Bnr Bcd Nothing = MatchOption f.hex (MatchOption f.bnr (MatchOption f.bcd Nothing Bcd) Bnr) Hex

-- the word has the data that is given
abbrev pub HasData : FieldBytes → ℕ → Type 0
HasData f raw = OfData f (λ text. HasHex text raw) (λ text. HasBnr (given_bits f) text raw) (λ text. HasBcd text raw) ⊥

-- no word has that data
abbrev pub NoWordHasData : FieldBytes → Type 0
NoWordHasData f = OfData f IsNoHex (IsNoBnr (given_bits f)) IsNoBcd ⊤

-- no word has what is given of one of its fields: the SDI, the SSM or the data
abbrev pub NoWordHasFields : FieldBytes → Type 0
NoWordHasFields f = (3 < given_sdi f) ⊎ ((3 < given_ssm f) ⊎ NoWordHasData f)

-- ---- what is answered

-- the word of this label's text and of these fields, of odd parity
pub record IsWordWith (label : List ℕ) (f : FieldBytes) (raw : ℕ) : Type 0 where
  pub small : raw < 2 ^ 32
  pub odd : has_odd_parity raw ≡ true
  pub label_is : label_value label ≡ Some (label_of raw)
  pub sdi_is : sdi_of raw ≡ given_sdi f
  pub ssm_is : ssm_of raw ≡ given_ssm f
  pub data_is : HasData f raw

-- its eight hexadecimal digits on a line, or its sheet, with status 0
abbrev pub IsEncoded : List ℕ → FieldBytes → SheetForm → ℕ → List ℕ → Type 0
IsEncoded label f form status bytes = (raw : ℕ) × IsWordWith label f raw × (bytes ≡ told_word form (hex raw ++ 10 ∷ []) raw) × (status ≡ 0)

-- why there is none: the text of the label is none, which is asked first, or no word has the fields
abbrev pub IsNotEncoded : List ℕ → FieldBytes → CommandRefusal → Type 0
IsNotEncoded label f refused.LabelText = label_value label ≡ None
IsNotEncoded label f refused.DataText = (value : ℕ) × (label_value label ≡ Some value) × NoWordHasFields f
IsNotEncoded label f _ = ⊥

-- ---- the steps

-- a number as data, in this number of bits below the sign; zeros are below it
abbrev pub in_place : ℕ → ℕ → ℕ
in_place bits n = n * 2 ^ (18 - bits)

-- words with this number as their data have the data that is meant
pub record GivesData (HasIt : ℕ → Type 0) (value : ℕ) : Type 0 where
  pub small : value < 2 ^ 19
  pub has : (raw : ℕ) → data_of raw ≡ value → HasIt raw

-- a word of this label has the fields that are given
pub record HasFields (label : ℕ) (f : FieldBytes) (raw : ℕ) : Type 0 where
  pub label_is : label_of raw ≡ label
  pub sdi_is : sdi_of raw ≡ given_sdi f
  pub ssm_is : ssm_of raw ≡ given_ssm f
  pub data_is : HasData f raw

-- ---- what follows

-- what is printed is the digits of the word, by which it is read
abbrev pub EncodedWordsAreRead : Type 0
EncodedWordsAreRead =
    (label : List ℕ) (f : FieldBytes) (status : ℕ) (bytes : List ℕ) → IsEncoded label f Columns status bytes
    → (digits : List ℕ) × (raw : ℕ) × (bytes ≡ digits ++ 10 ∷ []) × (raw_word digits ≡ Some raw) × IsWordWith label f raw
