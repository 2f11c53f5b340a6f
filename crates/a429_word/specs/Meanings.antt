-- What the SSM says of a word's data, and how it is printed (profile: SSM, bits 31 and 30).
use Rattle.std.specs.Prelude.{ℕ, List, [], ◌∷◌, ◌+◌, ◌/◌, ◌%◌, codes, zero, suc}
use Rattle.a429_word.specs.declared.meanings.BnrMeaning.{BnrMeaning}
use Rattle.a429_word.specs.declared.meanings.BnrMeaning.TheVariants as bnr
use Rattle.a429_word.specs.declared.meanings.BcdMeaning.{BcdMeaning}
use Rattle.a429_word.specs.declared.meanings.BcdMeaning.TheVariants as bcd

-- of BNR data: 0, 1, 2 and 3
abbrev pub bnr_meaning : ℕ → BnrMeaning
bnr_meaning zero = bnr.FailureWarning
bnr_meaning (suc zero) = bnr.NoComputedData
bnr_meaning (suc (suc zero)) = bnr.FunctionalTest
bnr_meaning (suc (suc (suc n))) = bnr.NormalOperation

-- of BCD data
abbrev pub bcd_meaning : ℕ → BcdMeaning
bcd_meaning zero = bcd.Plus
bcd_meaning (suc zero) = bcd.NoComputedData
bcd_meaning (suc (suc zero)) = bcd.FunctionalTest
bcd_meaning (suc (suc (suc n))) = bcd.Minus

abbrev pub bnr_text : BnrMeaning → List ℕ
bnr_text bnr.FailureWarning = codes "failure warning"
bnr_text bnr.NoComputedData = codes "no computed data"
bnr_text bnr.FunctionalTest = codes "functional test"
bnr_text bnr.NormalOperation = codes "normal operation"

abbrev pub bcd_text : BcdMeaning → List ℕ
bcd_text bcd.Plus = codes "plus"
bcd_text bcd.NoComputedData = codes "no computed data"
bcd_text bcd.FunctionalTest = codes "functional test"
bcd_text bcd.Minus = codes "minus"

-- bits 31 and 30 as two binary digits
abbrev pub two_bits : ℕ → List ℕ
two_bits ssm = (48 + ssm / 2) ∷ (48 + ssm % 2) ∷ []
