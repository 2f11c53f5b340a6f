-- Rows of an equipment table, served by the periods that a plan has for them.
use Rattle.std.proofs.Common.{inl, inr, ◌≡◌, ◌∙◌, ℕ, zero, suc, ◌<◌, ◌≤◌, ◌^◌, List, [], ◌∷◌, length, get_or, map, refl, sym, subst, ap, arith}
use Rattle.std.specs.Prelude.{Some, max, slice_get}
use Rattle.std.specs.List.{AllZip, zip}
use Rattle.std.proofs.lemmas.Bool.{cases_lt}
use Rattle.std.proofs.lemmas.List.{get_or-map, length-map}
use Rattle.std.proofs.lemmas.Option.{none-some, same_Some}
use Rattle.std.proofs.lemmas.Slice.Zip.{AllZip-long}
use Rattle.a429_pack.specs.Demands.{greatest}
use Rattle.a429_pack.specs.Schedules.{Schedule, NamesBelow, RecursWithin, Serves}
use Rattle.a429_equipment.specs.declared.rows.GroupRow.{GroupRow}
use Rattle.a429_equipment.specs.declared.rows.OutputRow.{OutputRow}
use Rattle.a429_slots.specs.Planned.{AreFewestBusesFor, HasPeriod}
use Rattle.a429_callers.specs.Serving.{HasGridPeriod, NoneHasFewer, ServesRows}

-- the period at a place is that of the row there
row_at : (rate : ℕ) (rows : List OutputRow) (exps : List ℕ) → AllZip (HasPeriod rate) rows exps → (o : ℕ) → o < length exps → HasGridPeriod rate rows o (2 ^ get_or exps o 0)
row_at rate [] [] fit o below = absurd (omega (arith, below))
row_at rate [] (k ∷ exps) fit o below = absurd fit
row_at rate (r ∷ rows) [] fit o below = absurd fit
row_at rate (r ∷ rows) (k ∷ exps) fit zero below = (r, refl, fit.0)
row_at rate (r ∷ rows) (k ∷ exps) fit (suc o) below = row_at rate rows exps fit.1 o (omega (arith, below))

larger : (a b n : ℕ) → 2 ^ a ≤ n → 2 ^ b ≤ n → 2 ^ max a b ≤ n
larger a b n first second =
    elim (cases_lt a b) [
      | inl lt ↦
          let most : max a b ≡ b = omega (arith, lt) in
          rw most second
      | inr ge ↦
          let most : max a b ≡ a = omega (arith, ge) in
          rw most first
    ]

-- as long as each of the periods is as long as the greatest
long_enough : (exps : List ℕ) (n : ℕ) → 1 ≤ n → ((o : ℕ) → o < length exps → 2 ^ get_or exps o 0 ≤ n) → 2 ^ greatest exps ≤ n
long_enough [] n some each = some
long_enough (k ∷ exps) n some each =
    larger k (greatest exps) n (each 0 (omega arith)) (long_enough exps n some (λ o below. each (suc o) (omega (arith, below))))

serves : (rate : ℕ) (rows : List OutputRow) (exps : List ℕ) (s : Schedule) → AllZip (HasPeriod rate) rows exps → ServesRows rate rows s
    → Serves (2 ^ greatest exps) (map (λ k. 2 ^ k) exps) s
serves rate rows exps s fit S =
    let periods : length (map (λ k. 2 ^ k) exps) ≡ length exps = length-map exps (λ k. 2 ^ k) in
    record {
      names = subst (λ (n : ℕ). NamesBelow n s) (sym (periods ∙ AllZip-long (HasPeriod rate) rows exps fit)) S.names;
      long = long_enough exps s.slots S.some (λ o below. S.long o (2 ^ get_or exps o 0) (row_at rate rows exps fit o below));
      recurs = λ o below.
          let inside : o < length exps = omega (arith, below, periods) in
          subst (λ (p : ℕ). RecursWithin p o s) (sym (get_or-map (λ k. 2 ^ k) exps o 0 0 inside)) (S.recurs o (2 ^ get_or exps o 0) (row_at rate rows exps fit o inside));
    }

pub none_fewer : (rate : ℕ) (rows : List OutputRow) (buses : ℕ) → AreFewestBusesFor rate rows buses → NoneHasFewer rate rows buses
none_fewer rate rows buses F s S = F.fewest.least s (serves rate rows F.exponents s F.fit S)

-- ---- groups and what is paired with them

-- an element of the second list is paired with one of the first
pub record Beside {A B : Type 0} (R : A → B → Type 0) (xs : List A) (i : ℕ) (y : B) : Type 0 where
  pub x : A
  pub there : slice_get xs i ≡ Some x
  pub pair : R x y

pub beside : {A B : Type 0} (R : A → B → Type 0) (xs : List A) (ys : List B) (i : ℕ) (y : B) → AllZip R xs ys → slice_get ys i ≡ Some y → Beside R xs i y
beside R [] [] i y all h = absurd (none-some y h)
beside R [] (z ∷ ys) i y all h = absurd all
beside R (x ∷ xs) [] i y all h = absurd all
beside R (x ∷ xs) (z ∷ ys) zero y all h = record { x = x; there = refl; pair = subst (R x) (same_Some z y h) all.0 }
beside R (x ∷ xs) (z ∷ ys) (suc i) y all h =
    let p : Beside R xs i y = beside R xs ys i y all.1 h in
    record { x = p.x; there = p.there; pair = p.pair }

-- rows paired with the bit rate of their group
pub record IsRated (groups : List GroupRow) (outputs : List (List OutputRow)) (i : ℕ) (rated : ℕ × List OutputRow) : Type 0 where
  pub row : GroupRow
  pub here : slice_get groups i ≡ Some row
  pub there : slice_get outputs i ≡ Some rated.1
  pub rate : rated.0 ≡ row.rate

pub rated_at : (groups : List GroupRow) (outputs : List (List OutputRow)) (i : ℕ) (rated : ℕ × List OutputRow) → slice_get (zip (map (λ g. g.rate) groups) outputs) i ≡ Some rated
    → IsRated groups outputs i rated
rated_at [] outputs i rated h = absurd (none-some rated h)
rated_at (g ∷ groups) [] i rated h = absurd (none-some rated h)
rated_at (g ∷ groups) (rows ∷ outputs) zero rated h =
    let same : (g.rate, rows) ≡ rated = same_Some (g.rate, rows) rated h in
    record { row = g; here = refl; there = ap (λ (x : ℕ × List OutputRow). Some x.1) same; rate = ap (λ (x : ℕ × List OutputRow). x.0) (sym same) }
rated_at (g ∷ groups) (rows ∷ outputs) (suc i) rated h =
    let r : IsRated groups outputs i rated = rated_at groups outputs i rated h in
    record { row = r.row; here = r.here; there = r.there; rate = r.rate }
