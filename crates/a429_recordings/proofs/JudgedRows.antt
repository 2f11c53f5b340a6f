-- Rows that are added one after another, and whether something is found.
use Rattle.std.proofs.Common.{◌≡◌, ◌∙◌, ◌+◌, ℕ, suc, arith, Bool, true, false, List, [], ◌∷◌, ◌++◌, ap, refl, sym}
use Rattle.std.specs.Prelude.{◌||◌}
use Rattle.std.specs.List.{fold, list_any, range_with_len}
use Rattle.std.proofs.lemmas.List.Sums.{fold-append}
use Rattle.a429_word.proofs.Lists.{range_next}

range_more : (n : ℕ) → range_with_len 0 (n + 1) ≡ range_with_len 0 n ++ n ∷ []
range_more n =
    let e : n + 1 ≡ suc n = omega arith in
    let f : 0 + n ≡ n = omega arith in
    ap (range_with_len 0) e ∙ range_next 0 n ∙ ap (λ (x : ℕ). range_with_len 0 n ++ x ∷ []) f

or_false : (b : Bool) → (b || false) ≡ b
or_false true = refl
or_false false = refl

or_next : (b c d e : Bool) → c ≡ (d || e) → (b || c) ≡ ((b || d) || e)
or_next true c d e same = refl
or_next false c d e same = same

any_more : (p : ℕ → Bool) (xs : List ℕ) (x : ℕ) → list_any p (xs ++ x ∷ []) ≡ (list_any p xs || p x)
any_more p [] x = or_false (p x)
any_more p (y ∷ ys) x = or_next (p y) (list_any p (ys ++ x ∷ [])) (list_any p ys) (p x) (any_more p ys x)

-- one more of which something may be found
pub found_more : (p : ℕ → Bool) (n : ℕ) (found next : Bool) → found ≡ list_any p (range_with_len 0 n) → next ≡ (found || p n) → next ≡ list_any p (range_with_len 0 (n + 1))
found_more p n found next so now =
    now ∙ (ap (λ (b : Bool). b || p n) so ∙ (sym (any_more p (range_with_len 0 n) n) ∙ ap (list_any p) (sym (range_more n))))

-- one more number that is folded
pub folded_more : (f : ℕ → ℕ → ℕ) (a n : ℕ) → fold f a (range_with_len 0 (n + 1)) ≡ f (fold f a (range_with_len 0 n)) n
folded_more f a n = ap (fold f a) (range_more n) ∙ fold-append f a (range_with_len 0 n) (n ∷ [])
