-- What the rows of `diff` are made of.
use Rattle.std.proofs.Common.{◌≡◌, ℕ, zero, suc, ◌+◌, Bool, true, false, List, [], ◌∷◌, length, take, Some, None, ◌≤◌, ap, inl, inr, refl, arith, ◌∙◌}
use Rattle.std.specs.Prelude.{Option, option_and_then, option_map, position, slice_get}
use Rattle.std.specs.Option.{option_map_or}
use Rattle.std.specs.List.{AllByRecursion, position_or_len}
use Rattle.std.proofs.lemmas.Bool.{le-ltb, lt-ltb}
use Rattle.std.proofs.lemmas.Option.{none-some, same_Some, slice_get_within}
use Rattle.a429_equipment.specs.Sound.{IsRate}
use Rattle.a429_equipment.specs.declared.rows.GroupRow.{GroupRow}
use Rattle.a429_slots.specs.Proposed.{Proposed}
use Rattle.a429_documents.specs.Diff.{Both, both_of, number_named, rate_in, sent_by}

-- ---- the first that passes a test

first_at : {X : Type 0} (p : X → Bool) (xs : List X) (i : ℕ) (x : X) → AllByRecursion (λ y. p y ≡ false) (take i xs) → slice_get xs i ≡ Some x → p x ≡ true → position_or_len p xs ≡ i
first_at p [] i x none there passes = absurd (none-some x there)
first_at p (y ∷ ys) zero x none there passes = rw (ap p (same_Some y x there) ∙ passes) refl
first_at p (y ∷ ys) (suc i) x none there passes = rw none.0 (ap (λ n. 1 + n) (first_at p ys i x none.1 there passes) ∙ omega arith)

pub position_first : {X : Type 0} (p : X → Bool) (xs : List X) (i : ℕ) (x : X) → AllByRecursion (λ y. p y ≡ false) (take i xs) → slice_get xs i ≡ Some x → p x ≡ true → position p xs ≡ Some i
position_first p xs i x none there passes = rw (first_at p xs i x none there passes, lt-ltb i (length xs) (slice_get_within xs i x there)) refl

nowhere : {X : Type 0} (p : X → Bool) (xs : List X) → AllByRecursion (λ y. p y ≡ false) xs → position_or_len p xs ≡ length xs
nowhere p [] none = refl
nowhere p (y ∷ ys) none = rw none.0 (ap (λ n. 1 + n) (nowhere p ys none.1) ∙ omega arith)

pub position_nowhere : {X : Type 0} (p : X → Bool) (xs : List X) → AllByRecursion (λ y. p y ≡ false) xs → position p xs ≡ None
position_nowhere p xs none = rw (nowhere p xs none, le-ltb (length xs) (length xs) (omega arith)) refl

-- ---- a group that both have

pub both_is : (a b : Proposed) (g h : ℕ) (row : GroupRow) → slice_get a.station.groups g ≡ Some row → number_named (λ (h : GroupRow). h.name) b.station.groups row.name ≡ Some h
    → both_of a b g ≡ Some (record { name = row.name; rate = rate_in a g; new_rate = rate_in b h; first = sent_by a g; second = sent_by b h })
both_is a b g h row here named =
    let both : GroupRow → Option ℕ → Option Both = λ row n. option_map (λ h. record { name = row.name; rate = rate_in a g; new_rate = rate_in b h; first = sent_by a g; second = sent_by b h }) n in
    ap (λ (r : Option GroupRow). option_and_then (λ (row : GroupRow). both row (number_named (λ (h : GroupRow). h.name) b.station.groups row.name)) r) here ∙ ap (both row) named

-- ---- the bit rate of a group

pub rated : (o : Option GroupRow) (r : ℕ) → option_map (λ (g : GroupRow). g.rate) o ≡ Some r → (option_map_or (λ (g : GroupRow). g.rate) o 0 ≡ r) × (row : GroupRow) × (o ≡ Some row) × (row.rate ≡ r)
rated None r h = absurd (none-some r h)
rated (Some row) r h = (same_Some row.rate r h, row, refl, same_Some row.rate r h)

pub some_rate : (rate : ℕ) → IsRate rate → 1 ≤ rate
some_rate rate (inl fast) = omega (arith, fast)
some_rate rate (inr slow) = omega (arith, slow.0)
