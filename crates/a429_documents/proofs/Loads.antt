-- The loads of buses, and their sum.
use Rattle.std.proofs.Common.{◌≡◌, ℕ, zero, suc, ◌+◌, ◌*◌, ◌<◌, ◌≤◌, List, [], ◌∷◌, ◌++◌, length, map, sum, refl, sym, ap, ◌∙◌, arith, inl, inr}
use Rattle.std.specs.Prelude.{◌==◌, ◌⊎◌, if◌then◌else◌}
use Rattle.std.specs.List.{AllByRecursion}
use Rattle.std.proofs.lemmas.Bool.{cases_lt, cases_eq}
use Rattle.std.proofs.lemmas.Bool.Decides.{nat_tests}
use Rattle.std.proofs.lemmas.List.Sums.{sum_by-cons}
use Rattle.a429_documents.specs.Limits.{load_on, if_from}

-- ---- sums over the buses

-- the sum of f below n
abbrev pub total : ℕ → (ℕ → ℕ) → ℕ
total zero f = 0
total (suc n) f = total n f + f n

pub total_most : (n c : ℕ) (f : ℕ → ℕ) → ((b : ℕ) → b < n → f b ≤ c) → total n f ≤ n * c
total_most zero c f most = omega arith
total_most (suc n) c f most =
    let before : total n f ≤ n * c = total_most n c f (λ b below. most b (omega arith)) in
    let last : f n ≤ c = most n (omega arith) in
    omega arith

pub total_least : (n c : ℕ) (f : ℕ → ℕ) → ((b : ℕ) → b < n → c ≤ f b) → n * c ≤ total n f
total_least zero c f least = omega arith
total_least (suc n) c f least =
    let before : n * c ≤ total n f = total_least n c f (λ b below. least b (omega arith)) in
    let last : c ≤ f n = least n (omega arith) in
    omega arith

total-zero : (n : ℕ) → total n (λ b. 0) ≡ 0
total-zero zero = refl
total-zero (suc n) = let before : total n (λ b. 0) ≡ 0 = total-zero n in omega arith

pub total-add : (n : ℕ) (f g : ℕ → ℕ) → total n (λ b. f b + g b) ≡ total n f + total n g
total-add zero f g = refl
total-add (suc n) f g = let before : total n (λ b. f b + g b) ≡ total n f + total n g = total-add n f g in omega arith

here : (place d : ℕ) → (if place == place then d else 0) ≡ d
here place d = grind (arith, nat_tests)

elsewhere : (place bus d : ℕ) → (place ≡ bus → ⊥) → (if place == bus then d else 0) ≡ 0
elsewhere place bus d other = grind (arith, nat_tests)

total-none : (n place d : ℕ) → n ≤ place → total n (λ bus. if place == bus then d else 0) ≡ 0
total-none zero place d above = refl
total-none (suc n) place d above =
    let before : total n (λ bus. if place == bus then d else 0) ≡ 0 = total-none n place d (omega arith) in
    let last : (if place == n then d else 0) ≡ 0 = elsewhere place n d (λ same. omega arith) in
    omega arith

total-one : (n place d : ℕ) → place < n → total n (λ bus. if place == bus then d else 0) ≡ d
total-one zero place d below = absurd (omega arith)
total-one (suc n) place d below = elim (cases_eq place n) [
  | inl same ↦
      let before : total n (λ bus. if place == bus then d else 0) ≡ 0 = total-none n place d (omega arith) in
      let last : (if place == n then d else 0) ≡ d = ap (λ b. if place == b then d else 0) (sym same) ∙ here place d in
      omega arith
  | inr other ↦
      let before : total n (λ bus. if place == bus then d else 0) ≡ d = total-one n place d (omega arith) in
      let last : (if place == n then d else 0) ≡ 0 = elsewhere place n d other in
      omega arith
]

-- the loads of all buses together are the demands
pub total-load : (n : ℕ) (demands places : List ℕ) → length places ≡ length demands → AllByRecursion (λ place. place < n) places
    → total n (λ bus. load_on bus demands places) ≡ sum demands
total-load n [] places each known = total-zero n
total-load n (d ∷ demands) [] each known = absurd (omega arith)
total-load n (d ∷ demands) (place ∷ places) each known =
    let rest : total n (λ bus. load_on bus demands places) ≡ sum demands = total-load n demands places (omega arith) known.1 in
    let one : total n (λ bus. if place == bus then d else 0) ≡ d = total-one n place d known.0 in
    total-add n (λ bus. if place == bus then d else 0) (λ bus. load_on bus demands places)
    ∙ ap (λ x. x + total n (λ bus. load_on bus demands places)) one ∙ ap (λ x. d + x) rest
    ∙ sym (sum_by-cons (λ x. x) d demands)

-- ---- the load of one bus

pub load-append : (bus : ℕ) (front demands before places : List ℕ) → length before ≡ length front
    → load_on bus (front ++ demands) (before ++ places) ≡ load_on bus front before + load_on bus demands places
load-append bus [] demands [] places each = omega arith
load-append bus [] demands (p ∷ before) places each = absurd (omega arith)
load-append bus (d ∷ front) demands [] places each = absurd (omega arith)
load-append bus (d ∷ front) demands (p ∷ before) places each =
    let rest : load_on bus (front ++ demands) (before ++ places) ≡ load_on bus front before + load_on bus demands places = load-append bus front demands before places (omega arith) in
    omega arith

-- if each demand is a multiple of a number, so is the load
pub load_multiple : (s bus : ℕ) (demands places : List ℕ) → AllByRecursion (λ d. (q : ℕ) × (d ≡ q * s)) demands → (q : ℕ) × (load_on bus demands places ≡ q * s)
load_multiple s bus [] places all = (0, omega arith)
load_multiple s bus (d ∷ demands) [] all = (0, omega arith)
load_multiple s bus (d ∷ demands) (place ∷ places) all =
    let (q, rest) = load_multiple s bus demands places all.1 in
    let (p, first) = all.0 in
    elim (cases_eq place bus) [
      | inl same ↦
          let whole : (if place == bus then d else 0) ≡ d = ap (λ b. if place == b then d else 0) (sym same) ∙ here place d in
          let both : p * s + q * s ≡ (p + q) * s = omega arith in
          (p + q, omega arith)
      | inr other ↦
          let none : (if place == bus then d else 0) ≡ 0 = elsewhere place bus d other in
          (q, omega arith)
    ]

-- ---- the demands of a size

pub if_from_is : (size d : ℕ) → ((size ≤ d) × (if_from size d ≡ d)) ⊎ ((d < size) × (if_from size d ≡ 0))
if_from_is size d = elim (cases_lt d size) [
  | inl less ↦ inr (less, grind (arith, nat_tests))
  | inr most ↦ inl (most, grind (arith, nat_tests))
]

if_from_le : (size d : ℕ) → if_from size d ≤ d
if_from_le size d = elim (if_from_is size d) [ inl whole ↦ omega (arith, whole.1) | inr none ↦ omega (arith, none.1) ]

choice_le : (place bus x d : ℕ) → x ≤ d → (if place == bus then x else 0) ≤ (if place == bus then d else 0)
choice_le place bus x d less = grind (arith, nat_tests)

pub load_from_le : (size bus : ℕ) (demands places : List ℕ) → load_on bus (map (if_from size) demands) places ≤ load_on bus demands places
load_from_le size bus [] places = omega arith
load_from_le size bus (d ∷ demands) [] = omega arith
load_from_le size bus (d ∷ demands) (place ∷ places) =
    let rest : load_on bus (map (if_from size) demands) places ≤ load_on bus demands places = load_from_le size bus demands places in
    let first : (if place == bus then if_from size d else 0) ≤ (if place == bus then d else 0) = choice_le place bus (if_from size d) d (if_from_le size d) in
    omega arith
