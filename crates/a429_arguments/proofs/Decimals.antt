-- A number in decimal digits, as an argument.
use Rattle.std.proofs.Common.{◌≡◌, ◌∙◌, ◌≤◌, ◌<◌, ◌^◌, ℕ, List, [], ◌∷◌, true, ap, inl, inr, refl, sym, subst, arith}
use Rattle.std.specs.Prelude.{Some, None}
use Rattle.std.specs.Char.{digit_value}
use Rattle.std.specs.Fmt.{decimal}
use Rattle.std.specs.Str.Parse.{AllDigits, IsNumeral, digits_value, without_leading_plus}
use Rattle.std.proofs.lemmas.Bool.{cases_Bool}
use Rattle.std.proofs.lemmas.Fmt.{decimal_is_IsNumeral}
use Rattle.std.proofs.lemmas.Str.Parse.{without_leading_plus_none}
use Rattle.clap.specs.ValueTests.{is_unsigned_in}
use Rattle.clap.specs.Words.{Text}
use Rattle.clap.specs.declared.builder.value_parser.ValueParser.TheVariants as reads
use Rattle.clap.proofs.ValueTestLemmas.{Accepts-accepts, accepts-Accepts}
use Rattle.a429_arguments.specs.Requests.{IsName}
use Rattle.a429_arguments.specs.CommandLine.{number_up_to}

digits_are_name : (ds : List ℕ) → AllDigits 10 ds → IsName ds
digits_are_name [] all = tt
digits_are_name (c ∷ cs) all = λ minus. let bad : digit_value 45 < 10 = subst (λ (x : ℕ). digit_value x < 10) minus all.0 in omega arith

digits_have_no_plus : (ds : List ℕ) → AllDigits 10 ds → without_leading_plus ds ≡ ds
digits_have_no_plus [] all = refl
digits_have_no_plus (c ∷ cs) all =
    without_leading_plus_none (c ∷ cs) (λ plus. let bad : digit_value 43 < 10 = subst (λ (x : ℕ). digit_value x < 10) plus all.0 in omega arith)

pub decimal_is_name : (n : ℕ) → n < 2 ^ 64 → IsName (decimal n)
decimal_is_name n small = digits_are_name (decimal n) (decimal_is_IsNumeral n small).0.1

-- ---- the number of any text

-- a numeral whose number is at most the most
pub numeral_up_to : (most : ℕ) (t : Text) → IsNumeral 10 (without_leading_plus t) → digits_value 10 (without_leading_plus t) < 2 ^ 64 → digits_value 10 (without_leading_plus t) ≤ most
    → number_up_to most t ≡ Some (digits_value 10 (without_leading_plus t))
unfolding number_up_to
numeral_up_to most t numeral small few = rw (Accepts-accepts true (reads.Unsigned 0 most) t (numeral, small, omega arith, few)) refl

-- a number in decimal digits
pub decimal_up_to : (most n : ℕ) → n ≤ most → n < 2 ^ 64 → number_up_to most (decimal n) ≡ Some n
decimal_up_to most n few small =
    let same = digits_have_no_plus (decimal n) (decimal_is_IsNumeral n small).0.1 in
    let value : digits_value 10 (without_leading_plus (decimal n)) ≡ n = ap (digits_value 10) same ∙ (decimal_is_IsNumeral n small).1 in
    let numeral = subst (λ (ds : List ℕ). IsNumeral 10 ds) (sym same) (decimal_is_IsNumeral n small).0 in
    numeral_up_to most (decimal n) numeral (omega (arith, value)) (omega (arith, value)) ∙ ap Some value

-- any other text
pub none_up_to : (most : ℕ) (t : Text) → (IsNumeral 10 (without_leading_plus t) → digits_value 10 (without_leading_plus t) < 2 ^ 64 → digits_value 10 (without_leading_plus t) ≤ most → ⊥)
    → number_up_to most t ≡ None
unfolding number_up_to
none_up_to most t none = elim (cases_Bool (is_unsigned_in 0 most t)) [
  | inl is ↦ let (numeral, small, above, few) = accepts-Accepts true (reads.Unsigned 0 most) t is in absurd (none numeral small few)
  | inr is ↦ rw is refl
]
