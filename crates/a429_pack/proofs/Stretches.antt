-- Consecutive stretches of places: which slots stand for them.
use Rattle.std.proofs.Common.{◌≡◌, ℕ, zero, suc, ◌+◌, ◌-◌, ◌*◌, ◌/◌, ◌%◌, ◌^◌, ◌<◌, ◌≤◌, cond, Option, Some, None, leb, ltb, refl, sym, ap, ◌∙◌, subst, arith, inl, inr}
use Rattle.std.specs.Prelude.{◌↔◌}
use Rattle.std.proofs.lemmas.Bool.{cases_lt, cases_eq}
use Rattle.std.proofs.lemmas.Bool.Decides.{nat_tests}
use Rattle.std.proofs.lemmas.Nat.{pow-add, mod-mul-add, mod_below, div-add-mod'}
use Rattle.std.proofs.lemmas.Option.{same_Some, none-some}
use Rattle.a429_grid.specs.Reversal.{reversed}
use Rattle.a429_grid.specs.Blocks.{HasPeriodicBlocks, place_in}

-- n consecutive stretches, of powers of two that fall, none above 2 ^ h
pub record Stretches (h n : ℕ) (k s : ℕ → ℕ) : Type 0 where
  pub begins : s 0 ≡ 0
  pub follows : (i : ℕ) → i < n → s (i + 1) ≡ s i + 2 ^ k i
  pub falling : (i : ℕ) → i + 1 < n → k (i + 1) ≤ k i
  pub within : (i : ℕ) → i < n → k i ≤ h
  pub blocks : HasPeriodicBlocks h

-- the stretch that holds a place
pub holder : (ℕ → ℕ) → ℕ → ℕ → Option ℕ
holder s zero x = None
holder s (suc n) x = cond (leb (s n) x) (cond (ltb x (s (n + 1))) (Some n) None) (holder s n x)

-- each begins at a multiple of its length
pub aligned : (h n : ℕ) (k s : ℕ → ℕ) → Stretches h n k s → (i : ℕ) → i < n → (q : ℕ) × (s i ≡ q * 2 ^ k i)
aligned h n k s laid zero below = (0, laid.begins ∙ omega arith)
aligned h n k s laid (suc i) below =
    let next : suc i ≡ i + 1 = omega arith in
    let before : (q : ℕ) × (s i ≡ q * 2 ^ k i) = aligned h n k s laid i (omega arith) in
    let falls : k (i + 1) ≤ k i = laid.falling i (omega arith) in
    let d : ℕ = k i - k (i + 1) in
    let parts : d + k (i + 1) ≡ k i = omega arith in
    let powers : 2 ^ k i ≡ 2 ^ d * 2 ^ k (i + 1) = ap (λ z. 2 ^ z) (sym parts) ∙ pow-add 2 d (k (i + 1)) in
    let one : s (i + 1) ≡ s i + 2 ^ k i = laid.follows i (omega arith) in
    let whole : s i + 2 ^ k i ≡ (before.0 + 1) * 2 ^ k i = omega (arith, before.1) in
    let split : (before.0 + 1) * 2 ^ k i ≡ (before.0 + 1) * 2 ^ d * 2 ^ k (i + 1) = ap (λ z. (before.0 + 1) * z) powers ∙ omega arith in
    ((before.0 + 1) * 2 ^ d, subst (λ (j : ℕ). s j ≡ (before.0 + 1) * 2 ^ d * 2 ^ k j) (sym next) (one ∙ whole ∙ split))

abbrev pub IsIn : ℕ → ℕ → ℕ → ℕ → ℕ → Type 0
IsIn h start k bus slot = (start ≤ place_in h bus slot) × (place_in h bus slot < start + 2 ^ k)

-- a stretch has exactly the slots of one remainder on one bus
pub stands : (h n : ℕ) (k s : ℕ → ℕ) → Stretches h n k s → (i : ℕ) → i < n → (bus slot : ℕ)
    → IsIn h (s i) (k i) bus slot ↔ ((bus ≡ s i / 2 ^ h) × (slot % 2 ^ (h - k i) ≡ reversed h (s i % 2 ^ h)))
stands h n k s laid i below bus slot =
    let (q, start) = aligned h n k s laid i below in
    subst (λ (z : ℕ). IsIn h z (k i) bus slot ↔ ((bus ≡ z / 2 ^ h) × (slot % 2 ^ (h - k i) ≡ reversed h (z % 2 ^ h)))) (sym start)
    (laid.blocks.slots (k i) q bus slot (laid.within i below))

-- the offset is below the period
pub offset_below : (h n : ℕ) (k s : ℕ → ℕ) → Stretches h n k s → (i : ℕ) → i < n → reversed h (s i % 2 ^ h) < 2 ^ (h - k i)
offset_below h n k s laid i below =
    let (q, start) = aligned h n k s laid i below in
    subst (λ (z : ℕ). reversed h (z % 2 ^ h) < 2 ^ (h - k i)) (sym start) (laid.blocks.offset (k i) q (laid.within i below))

-- the starts rise
pub rises : (h n : ℕ) (k s : ℕ → ℕ) → Stretches h n k s → (i d : ℕ) → i + d ≤ n → s i ≤ s (i + d)
rises h n k s laid i zero below = let same : i + 0 ≡ i = omega arith in omega (arith, ap s same)
rises h n k s laid i (suc d) below =
    let more : i + suc d ≡ (i + d) + 1 = omega arith in
    omega (arith, rises h n k s laid i d (omega arith), laid.follows (i + d) (omega arith), ap s more)

-- a slot at an offset within any period's slots
pub slot_at : (period offset from : ℕ) → offset < period → (slot : ℕ) × (from ≤ slot) × (slot < from + period) × (slot % period ≡ offset)
slot_at period offset from h =
    let parts : from / period * period + from % period ≡ from = div-add-mod' from period in
    let rest : from % period < period = mod_below from period (omega arith) in
    let here : (from / period * period + offset) % period ≡ offset = mod-mul-add (from / period) period offset h in
    let next : ((from / period + 1) * period + offset) % period ≡ offset = mod-mul-add (from / period + 1) period offset h in
    elim (cases_lt offset (from % period)) [
      | inl below ↦ ((from / period + 1) * period + offset, omega arith, omega arith, next)
      | inr above ↦ (from / period * period + offset, omega arith, omega arith, here)
    ]

holder-zero : (s : ℕ → ℕ) (x : ℕ) → holder s zero x ≡ None
unfolding holder
holder-zero s x = refl

holder-suc : (s : ℕ → ℕ) (n x : ℕ) → holder s (suc n) x ≡ cond (leb (s n) x) (cond (ltb x (s (n + 1))) (Some n) None) (holder s n x)
unfolding holder
holder-suc s n x = refl

cond_here : (a b x : ℕ) (y z : Option ℕ) → a ≤ x → x < b → cond (leb a x) (cond (ltb x b) y None) z ≡ y
cond_here a b x y z low high = grind (arith, nat_tests)

cond_past : (a b x : ℕ) (y z : Option ℕ) → a ≤ x → b ≤ x → cond (leb a x) (cond (ltb x b) y None) z ≡ None
cond_past a b x y z low high = grind (arith, nat_tests)

cond_before : (a b x : ℕ) (y z : Option ℕ) → x < a → cond (leb a x) y z ≡ z
cond_before a b x y z low = grind (arith, nat_tests)

pub holder_at : (h n : ℕ) (k s : ℕ → ℕ) → Stretches h n k s → (j i x : ℕ) → j ≤ n → i < j → s i ≤ x → x < s (i + 1) → holder s j x ≡ Some i
holder_at h n k s laid zero i x few below low high = absurd (omega arith)
holder_at h n k s laid (suc j) i x few below low high =
    holder-suc s j x ∙ elim (cases_eq i j) [
      | inl same ↦
          let starts : s i ≡ s j = ap s same in
          let ends : s (i + 1) ≡ s (j + 1) = ap (λ m. s (m + 1)) same in
          cond_here (s j) (s (j + 1)) x (Some j) (holder s j x) (omega arith) (omega arith) ∙ ap Some (sym same)
      | inr other ↦
          let gap : i + 1 + (j - (i + 1)) ≡ j = omega arith in
          let up : s (i + 1) ≤ s (i + 1 + (j - (i + 1))) = rises h n k s laid (i + 1) (j - (i + 1)) (omega arith) in
          let past : x < s j = omega (arith, ap s gap) in
          cond_before (s j) (s (j + 1)) x (cond (ltb x (s (j + 1))) (Some j) None) (holder s j x) past
          ∙ holder_at h n k s laid j i x (omega arith) (omega arith) low high
    ]

pub holder_is : (s : ℕ → ℕ) (j i x : ℕ) → holder s j x ≡ Some i → (i < j) × (s i ≤ x) × (x < s (i + 1))
holder_is s zero i x is = absurd (none-some i (sym (holder-zero s x) ∙ is))
holder_is s (suc j) i x is =
    let opened : cond (leb (s j) x) (cond (ltb x (s (j + 1))) (Some j) None) (holder s j x) ≡ Some i = sym (holder-suc s j x) ∙ is in
    elim (cases_lt x (s j)) [
      | inl before ↦
          let (below, low, high) = holder_is s j i x (sym (cond_before (s j) (s (j + 1)) x (cond (ltb x (s (j + 1))) (Some j) None) (holder s j x) before) ∙ opened) in
          (omega arith, low, high)
      | inr from ↦ elim (cases_lt x (s (j + 1))) [
        | inl within ↦
            let same : j ≡ i = same_Some j i (sym (cond_here (s j) (s (j + 1)) x (Some j) (holder s j x) from within) ∙ opened) in
            (omega arith, omega (arith, ap s same), omega (arith, ap (λ m. s (m + 1)) same))
        | inr past ↦ absurd (none-some i (sym (cond_past (s j) (s (j + 1)) x (Some j) (holder s j x) from past) ∙ opened))
      ]
    ]
