-- The first and the last slot of an output in a frame.
use Rattle.std.proofs.Common.{◌≡◌, ℕ, zero, suc, ◌+◌, ◌-◌, ◌*◌, ◌%◌, ◌^◌, ◌<◌, ◌≤◌, arith, ap, ◌∙◌, refl, sym, inl, inr}
use Rattle.std.proofs.lemmas.Bool.{cases_lt}
use Rattle.std.proofs.lemmas.Nat.{pow-add, pow_pos, pow_below, mod-mul-add}
use Rattle.std.proofs.Math.Nat.{mod-eq_of_lt}
use Rattle.a429_slots.specs.Tables.{SlotTable, frame_of}
use Rattle.a429_slots.specs.Kept.{StandsJustAt}
use Rattle.a429_slots.specs.Changes.{IsFirstSlot, IsLastSlot, IsGap}

one_less : (q p : ℕ) → 1 ≤ q → (m : ℕ) × (q * p ≡ m * p + p)
one_less zero p some = absurd (omega arith)
one_less (suc m) p some = (m, omega arith)

-- a power is some multiple of a lower one, and once that
multiple : (h e : ℕ) → e ≤ h → (m : ℕ) × (2 ^ h ≡ m * 2 ^ e + 2 ^ e)
multiple h e few =
    let digits : (h - e) + e ≡ h = omega arith in
    let (m, is) = one_less (2 ^ (h - e)) (2 ^ e) (pow_pos (h - e)) in
    (m, ap (λ z. 2 ^ z) (sym digits) ∙ pow-add 2 (h - e) e ∙ is)

exponents : (e h : ℕ) → 2 ^ e ≤ 2 ^ h → e ≤ h
exponents e h few = elim (cases_lt h e) [ inl above ↦ absurd (omega (arith, pow_below h e above)) | inr below ↦ below ]

-- the first slot of an output
first_is : (t : SlotTable) (o bus offset e : ℕ) → StandsJustAt t o bus offset (2 ^ e) → 2 ^ e ≤ frame_of t → IsFirstSlot t o offset
first_is t o bus offset e at few = record {
  within = omega (arith, at.within);
  stands = (bus, (at.cells bus offset).1 (refl, mod-eq_of_lt {n = offset} {m = 2 ^ e} at.within));
  first = λ earlier less (row, there).
      let both = (at.cells row earlier).0 there in
      let same : earlier % 2 ^ e ≡ earlier = mod-eq_of_lt {n = earlier} {m = 2 ^ e} (omega (arith, at.within)) in
      omega (arith, both.1);
}

-- the last slot of it
last_is : (t : SlotTable) (o bus offset e : ℕ) → StandsJustAt t o bus offset (2 ^ e) → 2 ^ e ≤ frame_of t → IsLastSlot t o (frame_of t - 2 ^ e + offset)
last_is t o bus offset e at few =
    let (m, whole) = multiple t.frame e (exponents e t.frame few) in
    let back : frame_of t - 2 ^ e + offset ≡ m * 2 ^ e + offset = omega (arith, whole) in
    record {
      within = omega (arith, at.within);
      stands = (bus, (at.cells bus (frame_of t - 2 ^ e + offset)).1 (refl, ap (λ z. z % 2 ^ e) back ∙ mod-mul-add m (2 ^ e) offset at.within));
      last = λ later after inside (row, there).
          let both = (at.cells row later).0 there in
          let more : ℕ = later - m * 2 ^ e in
          let split : later ≡ m * 2 ^ e + more = omega (arith, whole, back) in
          let below : more < 2 ^ e = omega (arith, whole, back) in
          let same : later % 2 ^ e ≡ more = ap (λ z. z % 2 ^ e) split ∙ mod-mul-add m (2 ^ e) more below in
          omega (arith, both.1, same, split, back);
    }

pub gap_is : (t u : SlotTable) (o p bus row x y d e gap : ℕ) → StandsJustAt t o bus x (2 ^ d) → 2 ^ d ≤ frame_of t → StandsJustAt u p row y (2 ^ e) → 2 ^ e ≤ frame_of u
    → gap ≡ 2 ^ d - x + y → IsGap t o u p gap
gap_is t u o p bus row x y d e gap old few new less is = record {
  from = frame_of t - 2 ^ d + x;
  to = y;
  last = last_is t o bus x d old few;
  first = first_is u p row y e new less;
  apart = omega (arith, old.within, is);
}
