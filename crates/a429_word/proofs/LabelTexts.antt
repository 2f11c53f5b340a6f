-- A text states a label if and only if it is the label's three octal digits.
use Rattle.std.proofs.Common.{◌≡◌, ℕ, ◌+◌, ◌*◌, ◌-◌, ◌/◌, ◌%◌, ◌<◌, ◌≤◌, Bool, true, List, [], ◌∷◌, Option, Some, None, refl, ap, ◌∙◌, arith}
use Rattle.std.specs.Prelude.{◌&&◌, if◌then◌else◌, nat_le, unwrap_or}
use Rattle.std.proofs.lemmas.Bool.{le-leb, leb-true, and_from, and_parts}
use Rattle.std.proofs.lemmas.Option.{cond_some}
use Rattle.a429_word.specs.Texts.{is_octal, label_value, octal, octal_number}

-- what three digits with a value are
pub record AreDigits (a b c v : ℕ) : Type 0 where
  pub high : (48 ≤ a) × (a ≤ 51)
  pub middle : (48 ≤ b) × (b ≤ 55)
  pub low : (48 ≤ c) × (c ≤ 55)
  pub value : 64 * (a - 48) + 8 * (b - 48) + (c - 48) ≡ v

octal_digit : (b : ℕ) → is_octal b ≡ true → (48 ≤ b) × (b ≤ 55)
octal_digit b h = let p = and_parts _ _ h in (leb-true 48 b p.0, leb-true b 55 p.1)

digits_are : (a b c v : ℕ) → label_value (a ∷ b ∷ c ∷ []) ≡ Some v → AreDigits a b c v
unfolding label_value
digits_are a b c v h =
    let (passes, value) = cond_some _ _ _ h in
    let (first, others) = and_parts _ _ passes in
    let (high, few) = and_parts _ _ first in
    let (middle, low) = and_parts _ _ others in
    let (least, _) = octal_digit a high in
    record { high = (least, leb-true a 51 few); middle = octal_digit b middle; low = octal_digit c low; value = value }

-- the digits of a text with a value
pub record IsLabel (text : List ℕ) (v : ℕ) : Type 0 where
  pub a : ℕ
  pub b : ℕ
  pub c : ℕ
  pub is : text ≡ a ∷ b ∷ c ∷ []
  pub digits : AreDigits a b c v

pub label_is : (text : List ℕ) (v : ℕ) → label_value text ≡ Some v → IsLabel text v
unfolding label_value
label_is [] v h = cc
label_is (a ∷ []) v h = cc
label_is (a ∷ b ∷ []) v h = cc
label_is (a ∷ b ∷ c ∷ []) v h = record { a = a; b = b; c = c; is = refl; digits = digits_are a b c v h }
label_is (a ∷ b ∷ c ∷ d ∷ ds) v h = cc

-- two texts of one label are equal
pub one_label : (s t : List ℕ) (v : ℕ) → label_value s ≡ Some v → label_value t ≡ Some v → s ≡ t
one_label s t v h i =
    let x = label_is s v h in
    let y = label_is t v i in
    let d = x.digits in
    let e = y.digits in
    let high : x.a ≡ y.a = omega arith in
    let middle : x.b ≡ y.b = omega arith in
    let low : x.c ≡ y.c = omega arith in
    let written : s ≡ x.a ∷ x.b ∷ x.c ∷ [] = x.is in
    let other : t ≡ y.a ∷ y.b ∷ y.c ∷ [] = y.is in
    cc

-- a text with a value is how the value is written
pub written : (text : List ℕ) (v : ℕ) → label_value text ≡ Some v → (v < 256) × (text ≡ octal v)
written text v h =
    let x = label_is text v h in
    let d = x.digits in
    let high : x.a ≡ 48 + v / 64 = omega arith in
    let middle : x.b ≡ 48 + v / 8 % 8 = omega arith in
    let low : x.c ≡ 48 + v % 8 = omega arith in
    (omega arith, x.is ∙ (λ i. high i ∷ middle i ∷ low i ∷ []))

digit : (b : ℕ) → 48 ≤ b → b ≤ 55 → is_octal b ≡ true
digit b low high = and_from (nat_le 48 b) (nat_le b 55) (le-leb 48 b low) (le-leb b 55 high)

-- what is written so has the value
pub value_of_written : (v : ℕ) → v < 256 → label_value (octal v) ≡ Some v
unfolding label_value
value_of_written v small =
    let a : ℕ = 48 + v / 64 in
    let b : ℕ = 48 + v / 8 % 8 in
    let c : ℕ = 48 + v % 8 in
    let tests : ((is_octal a && nat_le a 51) && (is_octal b && is_octal c)) ≡ true =
    and_from (is_octal a && nat_le a 51) (is_octal b && is_octal c)
    (and_from (is_octal a) (nat_le a 51) (digit a (omega arith) (omega arith)) (le-leb a 51 (omega arith)))
    (and_from (is_octal b) (is_octal c) (digit b (omega arith) (omega arith)) (digit c (omega arith) (omega arith))) in
    let value : 64 * (a - 48) + 8 * (b - 48) + (c - 48) ≡ v = omega arith in
    ap (λ (t : Bool). if t then Some (64 * (a - 48) + 8 * (b - 48) + (c - 48)) else None) tests ∙ ap (λ (n : ℕ). Some n) value

none_where : (text : List ℕ) → ((v : ℕ) → label_value text ≡ Some v → ⊥) → label_value text ≡ None
none_where text never = go (label_value text) refl
  where
    go : (o : Option ℕ) → label_value text ≡ o → label_value text ≡ None
    go None e = e
    go (Some v) e = absurd (never v e)

-- a text that no value is written as states no label
pub none_of_others : (text : List ℕ) → ((v : ℕ) → v < 256 → text ≡ octal v → ⊥) → label_value text ≡ None
none_of_others text never = none_where text (λ v h. let w = written text v h in never v w.0 w.1)

below : (text : List ℕ) (o : Option ℕ) → label_value text ≡ o → unwrap_or o 0 < 256
below text None e = omega arith
below text (Some v) e = (written text v e).0

pub octal_number-below : (text : List ℕ) → octal_number text < 256
unfolding octal_number
octal_number-below text = below text (label_value text) refl
