-- The order of names.
use Rattle.std.proofs.Common.{◌≡◌, ℕ, List, true, false, refl, sym, ap, ◌∙◌}
use Rattle.std.specs.Prelude.{bytes_eq}
use Rattle.std.specs.Cmp.Lexicographic.{slice_cmp}
use Rattle.std.specs.Ordering.{is_eq, is_lt, nat_cmp, ordering_reverse}
use Rattle.std.specs.declared.cmp.Ordering.{Ordering}
use Rattle.std.specs.declared.cmp.Ordering.TheVariants.{Less, Equal, Greater}
use Rattle.std.proofs.lemmas.Cmp.{nat_list_cmp_total}
use Rattle.std.proofs.lemmas.Map.Text.{is_eq-slice_cmp}
use Rattle.std.proofs.lemmas.Slice.Eq.{bytes_eq-Decides}
use Rattle.a429_word.proofs.Lists.{clash, false_unless}
use Rattle.a429_survey.specs.Kept.{is_before}

abbrev pub by_bytes : List ℕ → List ℕ → Ordering
by_bytes = slice_cmp nat_cmp

less_is : (o : Ordering) → is_lt o ≡ true → o ≡ Less
less_is Less h = refl
less_is Equal h = absurd (clash h)
less_is Greater h = absurd (clash h)

greater_is : (o : Ordering) → is_lt o ≡ false → is_eq o ≡ false → o ≡ Greater
greater_is Less h k = absurd (clash (sym h))
greater_is Equal h k = absurd (clash (sym k))
greater_is Greater h k = refl

pub before_on : (a b c : List ℕ) → is_before a b ≡ true → is_before b c ≡ true → is_before a c ≡ true
before_on a b c ab bc =
    ap is_lt (nat_list_cmp_total.trans a b c (less_is (by_bytes a b) ab) (less_is (by_bytes b c) bc))

-- a name that is neither before another nor equal to it is after it
pub after_is : (a b : List ℕ) → is_before a b ≡ false → is_eq (by_bytes a b) ≡ false → is_before b a ≡ true
after_is a b less equal =
    ap is_lt (nat_list_cmp_total.antisymm b a ∙ ap ordering_reverse (greater_is (by_bytes a b) less equal))

pub equal_is : (a b : List ℕ) → is_eq (by_bytes a b) ≡ true → a ≡ b
equal_is a b h = (bytes_eq-Decides a b).0 (sym (is_eq-slice_cmp a b) ∙ h)

pub equal_self : (a : List ℕ) → is_eq (by_bytes a a) ≡ true
equal_self a = is_eq-slice_cmp a a ∙ (bytes_eq-Decides a a).1 refl

not_less : (o : Ordering) → is_eq o ≡ true → is_lt o ≡ false
not_less Less h = absurd (clash h)
not_less Equal h = refl
not_less Greater h = absurd (clash h)

pub before_self : (a : List ℕ) → is_before a a ≡ false
before_self a = not_less (by_bytes a a) (equal_self a)

pub before_differs : (a b : List ℕ) → is_before a b ≡ true → a ≡ b → ⊥
before_differs a b h same = clash (sym (before_self a) ∙ ap (is_before a) same ∙ h)

pub before_unequal : (a b : List ℕ) → is_before a b ≡ true → bytes_eq a b ≡ false
before_unequal a b h = false_unless (bytes_eq a b) (λ e. before_differs a b h ((bytes_eq-Decides a b).0 e))

pub after_unequal : (a b : List ℕ) → is_before b a ≡ true → bytes_eq a b ≡ false
after_unequal a b h = false_unless (bytes_eq a b) (λ e. before_differs b a h (sym ((bytes_eq-Decides a b).0 e)))
