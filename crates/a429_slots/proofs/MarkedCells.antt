-- The numbers of a frame's cells, written output by output.
use Rattle.std.proofs.Common.{◌≡◌, ◌⊎◌, ◌∙◌, ℕ, suc, ◌+◌, ◌*◌, ◌/◌, ◌%◌, ◌^◌, ◌<◌, ◌≤◌, List, length, get_or, refl, ap, sym, arith, inl, inr, ⊎_elim, mul-le-mul_right, div-add-mod'}
use Rattle.std.specs.Prelude.{Option, Some, None, if◌then◌else◌, nat_lt}
use Rattle.std.proofs.Math.ListN.{set}
use Rattle.std.proofs.lemmas.Bool.{cases_eq, cases_lt, lt-ltb, le-ltb}
use Rattle.std.proofs.lemmas.List.{get_or-set_same, get_or-set_other}
use Rattle.std.proofs.lemmas.Nat.{div_below, mod-mul-add, div-mul-add}
use Rattle.std.proofs.lemmas.Option.{none-some, same_Some}
use native.Mathlib.Nat.{add-mul-mod_self_right}
use Rattle.a429_slots.specs.Tables.{SlotTable, cell_at}
use Rattle.a429_slots.specs.Kept.{StandsJustAt}
use Rattle.a429_slots.specs.Cached.{AreCached, IsCellOf, cached}
use Rattle.a429_slots.specs.declared.group_plan.SlotPlace.{SlotPlace}
use Rattle.a429_slots.proofs.Cells.{cell_known}

-- ---- the numbers of a frame

-- what is in a cell, if only the outputs below k are there
abbrev pub below : ℕ → Option ℕ → Option ℕ
below k None = None
below k (Some o) = if nat_lt o k then Some o else None

-- each number states that
abbrev pub AreCachedBelow : SlotTable → ℕ → List ℕ → Type 0
AreCachedBelow t k cells = (i : ℕ) → i < length cells → get_or cells i 0 ≡ cached (below k (cell_at t (i % 16) (i / 16)))

none_below : (c : Option ℕ) → below 0 c ≡ None
none_below None = refl
none_below (Some o) = rw (le-ltb o 0 (omega arith)) refl

pub empty_cached : (t : SlotTable) (cells : List ℕ) → ((i : ℕ) → get_or cells i 0 ≡ 0) → AreCachedBelow t 0 cells
empty_cached t cells empty i inside = empty i ∙ sym (ap cached (none_below (cell_at t (i % 16) (i / 16))))

all_below : (n : ℕ) (c : Option ℕ) → ((o : ℕ) → c ≡ Some o → o < n) → below n c ≡ c
all_below n None known = refl
all_below n (Some o) known = rw (lt-ltb o n (known o refl)) refl

-- if all outputs are there, the numbers are those of the frame
pub all_cached : (t : SlotTable) (k : ℕ) (cells : List ℕ) → length t.outputs ≤ k → AreCachedBelow t k cells → AreCached t cells
all_cached t k cells all kept i inside =
    kept i inside
    ∙ ap cached (all_below k (cell_at t (i % 16) (i / 16)) (λ o is. let known = cell_known t (i % 16) (i / 16) o is in omega (arith, known, all)))

same_below : (k o : ℕ) → (o ≡ k → ⊥) → below k (Some o) ≡ below (k + 1) (Some o)
same_below k o other = elim (cases_lt o k) [
  | inl less ↦ rw (lt-ltb o k less, lt-ltb o (k + 1) (omega arith)) refl
  | inr past ↦ elim (cases_eq o k) [
    | inl same ↦ absurd (other same)
    | inr more ↦ rw (le-ltb o k past, le-ltb o (k + 1) (omega (arith, more))) refl
  ]
]

one_more : (k number old : ℕ) (c : Option ℕ) → (c ≡ Some k → number ≡ k + 1) → ((c ≡ Some k → ⊥) → number ≡ old) → old ≡ cached (below k c) → number ≡ cached (below (k + 1) c)
one_more k number old None its others is = others (none-some k) ∙ is
one_more k number old (Some o) its others is = elim (cases_eq o k) [
  | inl same ↦ its (ap (λ z. Some z) same) ∙ rw (lt-ltb o (k + 1) (omega (arith, same))) (ap (λ z. z + 1) (sym same))
  | inr other ↦ others (λ also. other (same_Some o k also)) ∙ is ∙ ap cached (same_below k o other)
]

-- the cells of one output more are marked
pub more_cached : (t : SlotTable) (k slots : ℕ) (p : SlotPlace) (xs ys : List ℕ) → StandsJustAt t k p.bus p.offset (2 ^ p.period)
    → length xs ≡ slots * 16 → length ys ≡ slots * 16
    → ((i : ℕ) → i / 16 < slots → IsCellOf p (i % 16) (i / 16) → get_or ys i 0 ≡ k + 1)
    → ((i : ℕ) → (IsCellOf p (i % 16) (i / 16) → ⊥) → get_or ys i 0 ≡ get_or xs i 0)
    → AreCachedBelow t k xs → AreCachedBelow t (k + 1) ys
more_cached t k slots p xs ys stands before after marked others kept i inside =
    let slot : i / 16 < slots = div_below i 16 slots (omega arith) (omega (arith, inside, after)) in
    one_more k (get_or ys i 0) (get_or xs i 0) (cell_at t (i % 16) (i / 16))
    (λ there. marked i slot ((stands.cells (i % 16) (i / 16)).0 there))
    (λ nowhere. others i (λ here. nowhere ((stands.cells (i % 16) (i / 16)).1 here)))
    (kept i (omega (arith, inside, before, after)))

-- ---- the cells of one place

-- slots that leave the same remainder are a period apart
same_slot : (p slot x : ℕ) → slot ≤ x → x < slot + p → x % p ≡ slot % p → x ≡ slot
same_slot p slot x from to same =
    let here : slot / p * p + slot % p ≡ slot = div-add-mod' slot p in
    let there : x / p * p + x % p ≡ x = div-add-mod' x p in
    elim (cases_lt (slot / p) (x / p)) [
      | inl more ↦
          let far : suc (slot / p) * p ≤ x / p * p = mul-le-mul_right {m = suc (slot / p)} {n = x / p} p more in
          let next : suc (slot / p) * p ≡ slot / p * p + p = omega arith in
          absurd (omega (arith, here, there, far, next, same, to))
      | inr few ↦
          let near : x / p * p ≤ slot / p * p = mul-le-mul_right {m = x / p} {n = slot / p} p few in
          omega (arith, here, there, near, same, from)
    ]

pub bus_at : (slot bus : ℕ) → bus < 16 → (slot * 16 + bus) % 16 ≡ bus
bus_at slot bus below = mod-mul-add slot 16 bus below

pub slot_at : (slot bus : ℕ) → bus < 16 → (slot * 16 + bus) / 16 ≡ slot
slot_at slot bus below = div-mul-add slot 16 bus below

-- a cell of the place before the next slot is that of this slot, or is before it
next_cell_of : (p : SlotPlace) (slot i : ℕ) → slot % 2 ^ p.period ≡ p.offset → i / 16 < slot + 2 ^ p.period → IsCellOf p (i % 16) (i / 16) → (i ≡ slot * 16 + p.bus) ⊎ (i / 16 < slot)
next_cell_of p slot i on next here = elim (cases_lt (i / 16) slot) [
  | inl before ↦ inr before
  | inr past ↦
      let same : i / 16 ≡ slot = same_slot (2 ^ p.period) slot (i / 16) past next (here.1 ∙ sym on) in
      let is : i / 16 * 16 + i % 16 ≡ i = div-add-mod' i 16 in
      inl (omega (arith, same, is, here.0))
]

-- this cell is marked too
pub marked_next : (p : SlotPlace) (slot byte : ℕ) (xs : List ℕ) → slot % 2 ^ p.period ≡ p.offset → slot * 16 + p.bus < length xs
    → ((i : ℕ) → i / 16 < slot → IsCellOf p (i % 16) (i / 16) → get_or xs i 0 ≡ byte)
    → (i : ℕ) → i / 16 < slot + 2 ^ p.period → IsCellOf p (i % 16) (i / 16) → get_or (set xs (slot * 16 + p.bus) byte) i 0 ≡ byte
marked_next p slot byte xs on inside marked i next here = elim (cases_eq i (slot * 16 + p.bus)) [
  | inl same ↦ ap (λ z. get_or (set xs (slot * 16 + p.bus) byte) z 0) same ∙ get_or-set_same xs (slot * 16 + p.bus) byte 0 inside
  | inr other ↦
      let before : i / 16 < slot = ⊎_elim (λ same. absurd (other same)) (λ less. less) (next_cell_of p slot i on next here) in
      get_or-set_other xs (slot * 16 + p.bus) i byte 0 other ∙ marked i before here
]

-- the cells of other places stay
pub others_stay : (p : SlotPlace) (slot byte : ℕ) (xs : List ℕ) → slot % 2 ^ p.period ≡ p.offset → p.bus < 16
    → (i : ℕ) → (IsCellOf p (i % 16) (i / 16) → ⊥) → get_or (set xs (slot * 16 + p.bus) byte) i 0 ≡ get_or xs i 0
others_stay p slot byte xs on below i other =
    get_or-set_other xs (slot * 16 + p.bus) i byte 0 (λ same. other (
      ap (λ z. z % 16) same ∙ bus_at slot p.bus below,
      ap (λ z. z / 16 % 2 ^ p.period) same ∙ ap (λ z. z % 2 ^ p.period) (slot_at slot p.bus below) ∙ on,
    ))

-- the next slot of the place
pub next_on : (slot p offset : ℕ) → slot % p ≡ offset → (slot + p) % p ≡ offset
next_on slot p offset on = ap (λ z. (slot + z) % p) (omega arith) ∙ add-mul-mod_self_right slot 1 p ∙ on
