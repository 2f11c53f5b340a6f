-- Sends of a right box that a log has from some slot on.
use Rattle.std.proofs.Common.{◌≡◌, ◌∙◌, ℕ, zero, suc, ◌<◌, ◌≤◌, Bool, true, false, true≢false, List, [], ◌∷◌, ◌++◌, drop, get_or, length, map, sym, ap, subst, refl, arith, append-nil}
use Rattle.std.specs.Prelude.{Option, ◌==◌, ◌||◌, filter, if◌then◌else◌}
use Rattle.std.proofs.Math.ListN.{drop_of_length-le, get_or-append}
use Rattle.std.proofs.lemmas.List.{length_push}
use Rattle.std.proofs.lemmas.List.Elements.{filter-append}
use Rattle.a429_word.proofs.Lists.{false_unless}
use Rattle.a429_judge.specs.Machine.{SlotSend, is_used_up, no_send, send_at, slot_sends}
use Rattle.a429_judge.proofs.SlotSends.{are_sends}

filter_none : {A : Type 0} (p : A → Bool) (xs : List A) (d : A) → ((k : ℕ) → k < length xs → p (get_or xs k d) ≡ false) → filter p xs ≡ []
filter_none p [] d fails = refl
filter_none {A} p (x ∷ xs) d fails =
    ap (λ (b : Bool). if b then x ∷ filter p xs else filter p xs) (fails 0 (omega arith)) ∙ filter_none p xs d (λ k lt. fails (suc k) (omega (arith, lt)))

pub filter_mapped : {A B : Type 0} (p : B → Bool) (f : A → B) (xs : List A) → filter p (map f xs) ≡ map f (filter (λ x. p (f x)) xs)
filter_mapped p f [] = refl
filter_mapped {A} {B} p f (x ∷ xs) = by_test (p (f x)) (filter_mapped p f xs)
  where
    by_test : (b : Bool) → filter p (map f xs) ≡ map f (filter (λ x. p (f x)) xs) → (if b then f x ∷ filter p (map f xs) else filter p (map f xs)) ≡ map f (if b then x ∷ filter (λ x. p (f x)) xs else filter (λ x. p (f x)) xs)
    by_test true rest = ap (λ (ys : List B). f x ∷ ys) rest
    by_test false rest = rest

drop_push : {A : Type 0} (k : ℕ) (xs : List A) (x : A) → k ≤ length xs → drop k (xs ++ x ∷ []) ≡ drop k xs ++ x ∷ []
drop_push zero xs x few = refl
drop_push (suc k) [] x few = absurd (omega (arith, few))
drop_push (suc k) (y ∷ xs) x few = drop_push k xs x (omega (arith, few))

-- the first sends fail a test of slots, and the others pass it
pub record IsSkipped (t : ℕ → Bool) (M : List SlotSend) : Type 0 where
  pub skipped : ℕ
  pub most : skipped ≤ length M
  pub rest : filter (λ s. t s.slot) M ≡ drop skipped M
  pub before : (k : ℕ) → k < skipped → t (send_at M k).slot ≡ false

abbrev pub StaysTrue : (ℕ → Bool) → Type 0
StaysTrue t = (m n : ℕ) → m ≤ n → t m ≡ true → t n ≡ true

one_more : (t : ℕ → Bool) (M : List SlotSend) (n count : ℕ) (b : Bool) → t n ≡ true → IsSkipped t M → IsSkipped t (M ++ (if b then [] else record { slot = n; count = count } ∷ []))
one_more t M n count true passes U = subst (IsSkipped t) (sym (append-nil M)) U
one_more t M n count false passes U =
    let x : SlotSend = record { slot = n; count = count } in
    let k : ℕ = U.skipped in
    let few : k ≤ length M = U.most in
    record {
      skipped = k;
      most = omega (arith, few, length_push M x);
      rest = filter-append (λ s. t s.slot) M (x ∷ []) ∙ (ap (λ (ys : List SlotSend). ys ++ filter (λ s. t s.slot) (x ∷ [])) U.rest
          ∙ (ap (λ (b : Bool). drop k M ++ (if b then x ∷ [] else [])) passes ∙ sym (drop_push k M x few)));
      before = λ i lt. ap (λ (s : SlotSend). t s.slot) (get_or-append M (x ∷ []) no_send i (omega (arith, lt, few))) ∙ U.before i lt;
    }

-- if the test stays true from some slot on
pub skips : (hold : Option ℕ) (known : ℕ → ℕ) (t : ℕ → Bool) → StaysTrue t → (n : ℕ) → IsSkipped t (slot_sends hold known n)
skips hold known t stays zero = record { skipped = 0; most = omega arith; rest = refl; before = λ k lt. absurd (omega (arith, lt)) }
skips hold known t stays (suc n) = by_test (t n) refl (skips hold known t stays n)
  where
    by_test : (b : Bool) → t n ≡ b → IsSkipped t (slot_sends hold known n) → IsSkipped t (slot_sends hold known (suc n))
    by_test true h U = one_more t (slot_sends hold known n) n (known n) (known n == 0 || is_used_up hold (slot_sends hold known n) (known n)) h U
    by_test false h U =
        let M = slot_sends hold known (suc n) in
        let R = are_sends hold known (suc n) in
        let fails : (k : ℕ) → k < length M → t (send_at M k).slot ≡ false = λ k lt.
        let before = R.before k lt in
        false_unless (t (send_at M k).slot) (λ passes. true≢false (sym (stays (send_at M k).slot n (omega (arith, before)) passes) ∙ h)) in
        record {
          skipped = length M;
          most = omega arith;
          rest = filter_none (λ s. t s.slot) M no_send fails ∙ sym (drop_of_length-le M (omega arith));
          before = fails;
        }
