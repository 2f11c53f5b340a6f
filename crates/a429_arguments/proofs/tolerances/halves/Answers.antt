use Rattle.std.proofs.Common.{◌≡◌, ◌∙◌, ◌+◌, ◌-◌, ◌<◌, ℕ, zero, suc, List, ap, arith, drop, eq-eqb, get_or, get_or-drop, length, length-drop, ne_eqb, refl, sym, take, ⊎_elim}
use Rattle.std.proofs.lemmas.Bool.{cases_eq, cond-false, cond-true}
use Rattle.std.proofs.lemmas.Str.Pattern.{NoCharPasses-char}
use Rattle.std.proofs.lemmas.Str.{len_utf8_ascii}
use Rattle.std.specs.Borrow.{Bor}
use Rattle.std.specs.Path.{rfind_below, rsplit_once}
use Rattle.std.specs.Prelude.{MatchOption, None, Option, Some, option_map, ◌≤◌}
use Rattle.std.specs.Str.Pattern.{RFindsChar}
use Rattle.a429_arguments.proofs.tolerances.halves.Goals as goal

-- the place of the last c among the first n bytes
rfind_below-none : (c : ℕ) (text : List ℕ) (n : ℕ) → ((i : ℕ) → i < n → get_or text i 0 ≡ c → ⊥) → rfind_below c text n ≡ None
rfind_below-none c text zero none = refl
rfind_below-none c text (suc n) none = cond-false _ _ _ (ne_eqb _ c (none n (omega arith))) ∙ rfind_below-none c text n (λ i below. none i (omega arith))

rfind_below-last : (c : ℕ) (text : List ℕ) (k n : ℕ) → k < n → get_or text k 0 ≡ c → ((i : ℕ) → k < i → i < n → get_or text i 0 ≡ c → ⊥) → rfind_below c text n ≡ Some k
rfind_below-last c text k zero below at later = absurd (omega arith)
rfind_below-last c text k (suc n) below at later =
    ⊎_elim (λ here. cond-true _ _ _ (eq-eqb _ c (ap (λ j. get_or text j 0) (sym here) ∙ at)) ∙ ap (λ j. Some j) (sym here))
    (λ other. cond-false _ _ _ (ne_eqb _ c (later n (omega arith) (omega arith))) ∙ rfind_below-last c text k n (omega arith) at (λ i after before. later i after (omega arith)))
    (cases_eq k n)

-- the clause of `rsplit_once` at a character
split_at_last : (c : ℕ) (text : List ℕ) (r : Option (Bor (List ℕ) × Bor (List ℕ)))
    → MatchOption r (RFindsChar c text None) (λ x. (i : ℕ) × (j : ℕ) × RFindsChar c text (Some (i, j)) × (x.0.now ≡ take i text) × (x.1.now ≡ drop j text) × (i ≤ j) × (length x.0.now ≡ i) × (length x.1.now + j ≡ length text))
    → c < 128 → option_map (λ x. (x.0.now, x.1.now)) r ≡ rsplit_once c text
unfolding rsplit_once
split_at_last c text None none low = sym (ap (option_map (λ i. (take i text, drop (i + 1) text))) (rfind_below-none c text (length text) (λ i. NoCharPasses-char c text i none low)))
split_at_last c text (Some x) h low =
    let i = h.0 in
    let j = h.1 in
    let next : j ≡ i + 1 = omega (arith, h.2.1.ends, len_utf8_ascii c low) in
    let later : (k : ℕ) → i < k → k < length text → get_or text k 0 ≡ c → ⊥ = λ k after before at.
    let back : j + (k - j) ≡ k = omega arith in
    NoCharPasses-char c (drop j text) (k - j) h.2.0 low (omega (arith, length-drop j text)) (get_or-drop j text (k - j) 0 ∙ ap (λ n. get_or text n 0) back ∙ at) in
    let found = rfind_below-last c text i (length text) (omega (arith, h.7)) (h.2.1.byte low) later in
    let second = h.4 ∙ ap (λ n. drop n text) next in
    (λ t. Some (h.3 t, second t)) ∙ sym (ap (option_map (λ k. (take k text, drop (k + 1) text))) found)

pub returns : goal.returns
returns c = split_at_last 61 c.args.text.now c.rsplit_once.result c.rsplit_once.ensures.cases (omega arith)
