-- A checked plan uses the fewest buses.
use Rattle.std.proofs.Common.{◌≡◌, ◌≢◌, ℕ, zero, suc, ◌-◌, ◌*◌, ◌/◌, ◌^◌, ◌<◌, ◌≤◌, max, List, [], ◌∷◌, length, get_or, map, sum, refl, sym, ap, subst, ◌∙◌, arith, inl, inr}
use Rattle.std.specs.Prelude.{Contains, Some, slice_get}
use Rattle.std.specs.List.{AllZip, AllByRecursion, remove, sum_by, zip}
use Rattle.std.specs.List.Sorted.{IsPermutation}
use Rattle.std.proofs.Math.Nat.{pow-le-pow_right}
use Rattle.std.proofs.lemmas.Bool.{cases_lt}
use Rattle.std.proofs.lemmas.List.Elements.{All-from_recursion, recursion_from_All}
use Rattle.std.proofs.lemmas.List.Sorted.{All-permutation, Contains-permutation, IsPermutation-cons, IsPermutation-refl, IsPermutation-remove, IsPermutation-sym, IsPermutation-trans, length_permutation, sum_by-IsPermutation}
use Rattle.std.proofs.lemmas.List.Sums.{sum_by-cons}
use Rattle.std.proofs.lemmas.Option.{same_Some}
use Rattle.std.proofs.lemmas.Slice.Zip.{AllZip-long}
use Rattle.a429_equipment.specs.TableRecord.{TableRecord}
use Rattle.a429_equipment.specs.declared.rows.GroupRow.{GroupRow}
use Rattle.a429_equipment.specs.declared.rows.OutputRow.{OutputRow}
use Rattle.a429_equipment.specs.declared.rows.SourceRow.{SourceRow}
use Rattle.a429_grid.specs.Grid.{IsGridPeriod}
use Rattle.a429_pack.specs.Demanded.{demand_of}
use Rattle.a429_pack.specs.Demands.{greatest}
use Rattle.a429_slots.specs.Planned.{AreFewestBusesFor, HasPeriod, IsFit}
use Rattle.a429_cert.specs.Spelling.{Listing}
use Rattle.a429_cert.specs.Checked.{EachPair, IsChecked, IsGreatestPeriod, IsPlaced, Stated, stated_demand}
use Rattle.a429_cert.proofs.DueOutputs.{grid_same}
use Rattle.a429_cert.proofs.OnGrid.{FewestByDemand, period_some}

-- ---- lines that name as many things as there are, each its own, name them all

-- the thing that a line names
abbrev Names : {X : Type 0} → (X → Listing → Type 0) → List X → Listing → Type 0
Names {X} R xs l = (x : X) × Contains xs x × R x l

record IsMatched {X : Type 0} (R : X → Listing → Type 0) (xs : List X) (ls : List Listing) : Type 0 where
  pub ordered : List X
  pub moved : IsPermutation xs ordered
  pub each : AllZip R ordered ls

still_named : {X : Type 0} (R : X → Listing → Type 0) → ((x : X) (k l : Listing) → R x k → R x l → k.source ≡ l.source) → (xs rest : List X) (x : X) (k : Listing) (ls : List Listing)
    → IsPermutation xs (x ∷ rest) → R x k → AllByRecursion (λ l. k.source ≢ l.source) ls → AllByRecursion (Names R xs) ls → AllByRecursion (Names R rest) ls
still_named R own xs rest x k [] moved here apart named = tt
still_named {X} R own xs rest x k (l ∷ ls) moved here apart named =
    let (y, there, related) = named.0 in
    (left (Contains-permutation xs (x ∷ rest) y moved there) related, still_named R own xs rest x k ls moved here apart.1 named.1)
  where
    left : {y : X} → Contains (x ∷ rest) y → R y l → Names R rest l
    left {y} (zero, below, at) related = absurd (apart.0 (own y k l (subst (λ (z : X). R z k) at here) related))
    left {y} (suc j, below, at) related = (y, (j, omega arith, at), related)

matched : {X : Type 0} (R : X → Listing → Type 0) → ((x : X) (k l : Listing) → R x k → R x l → k.source ≡ l.source) → (xs : List X) (ls : List Listing) → length ls ≡ length xs
    → AllByRecursion (Names R xs) ls → EachPair (λ k l. k.source ≢ l.source) ls → IsMatched R xs ls
matched R own [] [] many named once = record { ordered = []; moved = IsPermutation-refl []; each = tt }
matched R own (x ∷ xs) [] many named once = absurd (omega arith)
matched {X} R own xs (l ∷ ls) many named once =
    let (x, (k, below, at), related) = named.0 in
    let first : IsPermutation xs (x ∷ remove xs k) = IsPermutation-remove xs k x below (sym at) in
    let long : suc (length (remove xs k)) ≡ length xs = length_permutation xs (x ∷ remove xs k) first in
    let r : IsMatched R (remove xs k) ls = matched R own (remove xs k) ls (omega (arith, many, long)) (still_named R own xs (remove xs k) x l ls first related once.0 named.1) once.1 in
    record {
      ordered = x ∷ r.ordered;
      moved = IsPermutation-trans xs (x ∷ remove xs k) (x ∷ r.ordered) first (IsPermutation-cons x (remove xs k) r.ordered r.moved);
      each = (related, r.each);
    }

-- ---- the rows that the lines name

-- the line names the source of the row, with the row's grid period
record IsOfRow (e : TableRecord) (rate : ℕ) (row : OutputRow) (l : Listing) : Type 0 where
  pub source : SourceRow
  pub there : slice_get e.sources row.source ≡ Some source
  pub name : l.source ≡ source.name
  pub period : IsGridPeriod row.min_us row.max_us rate l.period

one_name : (e : TableRecord) (rate : ℕ) (row : OutputRow) (k l : Listing) → IsOfRow e rate row k → IsOfRow e rate row l → k.source ≡ l.source
one_name e rate row k l h g =
    let same : h.source ≡ g.source = same_Some h.source g.source (sym h.there ∙ g.there) in
    h.name ∙ ap (λ (s : SourceRow). s.name) same ∙ sym g.name

named_rows : (e : TableRecord) (rate : ℕ) (rows : List OutputRow) (buses : ℕ) (ls : List Listing) → AllByRecursion (IsPlaced e rate rows buses) ls → AllByRecursion (Names (IsOfRow e rate) rows) ls
named_rows e rate rows buses [] placed = tt
named_rows e rate rows buses (l ∷ ls) placed =
    let p = placed.0 in
    ((p.row, p.there, record { source = p.source; there = p.its_source; name = p.name; period = p.period }), named_rows e rate rows buses ls placed.1)

-- each row has a grid period
fit_of : (e : TableRecord) (rate : ℕ) (row : OutputRow) (l : Listing) → IsOfRow e rate row l → IsFit rate row
fit_of e rate row l h = let p = h.period.0 in (p.0, subst (IsGridPeriod row.min_us row.max_us rate) p.2 h.period)

fits_of : (e : TableRecord) (rate : ℕ) (rows : List OutputRow) (ls : List Listing) → AllZip (IsOfRow e rate) rows ls → AllByRecursion (IsFit rate) rows
fits_of e rate [] ls each = tt
fits_of e rate (row ∷ rows) [] each = absurd each
fits_of e rate (row ∷ rows) (l ∷ ls) each = (fit_of e rate row l each.0, fits_of e rate rows ls each.1)

abbrev exponents_of : (rate : ℕ) (rows : List OutputRow) → AllByRecursion (IsFit rate) rows → List ℕ
exponents_of rate [] fit = []
exponents_of rate (row ∷ rows) fit = fit.0.0 ∷ exponents_of rate rows fit.1

exponents_fit : (rate : ℕ) (rows : List OutputRow) (fit : AllByRecursion (IsFit rate) rows) → AllZip (HasPeriod rate) rows (exponents_of rate rows fit)
exponents_fit rate [] fit = tt
exponents_fit rate (row ∷ rows) fit = (fit.0.1, exponents_fit rate rows fit.1)

-- ---- with their exponents

abbrev IsOfPair : TableRecord → ℕ → OutputRow × ℕ → Listing → Type 0
IsOfPair e rate pair l = IsOfRow e rate pair.0 l × HasPeriod rate pair.0 pair.1

-- the pair of a row
paired : (rate : ℕ) (rows : List OutputRow) (ks : List ℕ) (row : OutputRow) → AllZip (HasPeriod rate) rows ks → (i : ℕ) → i < length rows → get_or rows i row ≡ row
    → (k : ℕ) × Contains (zip rows ks) (row, k) × HasPeriod rate row k
paired rate [] ks row fit i below at = absurd (omega arith)
paired rate (r ∷ rows) [] row fit i below at = absurd fit
paired rate (r ∷ rows) (k ∷ ks) row fit zero below at =
    (k, (0, omega arith, ap (λ (z : OutputRow). (z, k)) at), subst (λ (z : OutputRow). HasPeriod rate z k) at fit.0)
paired rate (r ∷ rows) (k ∷ ks) row fit (suc i) below at =
    let (j, (p, inside, same), has) = paired rate rows ks row fit.1 i (omega arith) at in
    (j, (suc p, omega arith, same), has)

named_pairs : (e : TableRecord) (rate : ℕ) (rows : List OutputRow) (ks : List ℕ) (ls : List Listing) → AllZip (HasPeriod rate) rows ks → AllByRecursion (Names (IsOfRow e rate) rows) ls
    → AllByRecursion (Names (IsOfPair e rate) (zip rows ks)) ls
named_pairs e rate rows ks [] fit named = tt
named_pairs e rate rows ks (l ∷ ls) fit named =
    let (row, (i, below, at), related) = named.0 in
    let (k, there, has) = paired rate rows ks row fit i below at in
    (((row, k), there, (related, has)), named_pairs e rate rows ks ls fit named.1)

length_zipped : (rate : ℕ) (rows : List OutputRow) (ks : List ℕ) → AllZip (HasPeriod rate) rows ks → length (zip rows ks) ≡ length rows
length_zipped rate [] ks fit = refl
length_zipped rate (r ∷ rows) [] fit = absurd fit
length_zipped rate (r ∷ rows) (k ∷ ks) fit = ap suc (length_zipped rate rows ks fit.1)

pair_cells : (h rate : ℕ) (rows : List OutputRow) (ks : List ℕ) → AllZip (HasPeriod rate) rows ks → sum_by (λ (p : OutputRow × ℕ). h / 2 ^ p.1) (zip rows ks) ≡ sum (map (λ k. h / 2 ^ k) ks)
pair_cells h rate [] [] fit = refl
pair_cells h rate [] (k ∷ ks) fit = absurd fit
pair_cells h rate (r ∷ rows) [] fit = absurd fit
pair_cells h rate (r ∷ rows) (k ∷ ks) fit =
    omega (arith, sum_by-cons (λ (p : OutputRow × ℕ). h / 2 ^ p.1) (r, k) (zip rows ks), sum_by-cons (λ (x : ℕ). x) (h / 2 ^ k) (map (λ k. h / 2 ^ k) ks), pair_cells h rate rows ks fit.1)

line_cells : (h : ℕ) (e : TableRecord) (rate : ℕ) (pairs : List (OutputRow × ℕ)) (ls : List Listing) → AllZip (IsOfPair e rate) pairs ls
    → sum_by (λ (p : OutputRow × ℕ). h / 2 ^ p.1) pairs ≡ sum_by (λ l. h / l.period) ls
line_cells h e rate [] [] each = refl
line_cells h e rate [] (l ∷ ls) each = absurd each
line_cells h e rate (p ∷ ps) [] each = absurd each
line_cells h e rate (p ∷ ps) (l ∷ ls) each =
    let same : 2 ^ p.1 ≡ l.period = grid_same p.0.min_us p.0.max_us rate (2 ^ p.1) l.period each.0.1 each.0.0.period in
    let here : h / 2 ^ p.1 ≡ h / l.period = ap (λ (n : ℕ). h / n) same in
    omega (arith, here, sum_by-cons (λ (p : OutputRow × ℕ). h / 2 ^ p.1) p ps, sum_by-cons (λ (l : Listing). h / l.period) l ls, line_cells h e rate ps ls each.1)

-- ---- the greatest period

-- no exponent is above one that no row's is above
most : (rate h : ℕ) (rows : List OutputRow) (ks : List ℕ) → AllZip (HasPeriod rate) rows ks → ((row : OutputRow) (p : ℕ) → Contains rows row → IsGridPeriod row.min_us row.max_us rate p → p ≤ h) → 1 ≤ h → 2 ^ greatest ks ≤ h
most rate h rows [] fit above some = omega arith
most rate h [] (k ∷ ks) fit above some = absurd fit
most rate h (row ∷ rows) (k ∷ ks) fit above some =
    let here : 2 ^ k ≤ h = above row (2 ^ k) (0, omega arith, refl) fit.0 in
    let rest : 2 ^ greatest ks ≤ h = most rate h rows ks fit.1 (λ r p there has. above r p (suc there.0, omega (arith, there.1), there.2) has) some in
    elim (cases_lt k (greatest ks)) [
      | inl less ↦ let is : max k (greatest ks) ≡ greatest ks = omega (arith, less) in subst (λ (n : ℕ). 2 ^ n ≤ h) (sym is) rest
      | inr more ↦ let is : max k (greatest ks) ≡ k = omega (arith, more) in subst (λ (n : ℕ). 2 ^ n ≤ h) (sym is) here
    ]

least : (rate h : ℕ) (row : OutputRow) (rows : List OutputRow) (ks : List ℕ) (i : ℕ) → AllZip (HasPeriod rate) rows ks → i < length rows → get_or rows i row ≡ row → IsGridPeriod row.min_us row.max_us rate h → h ≤ 2 ^ greatest ks
least rate h row [] ks i fit below at has = absurd (omega arith)
least rate h row (r ∷ rows) [] i fit below at has = absurd fit
least rate h row (r ∷ rows) (k ∷ ks) zero fit below at has =
    let two : 0 < 2 = omega arith in
    let same : 2 ^ k ≡ h = grid_same row.min_us row.max_us rate (2 ^ k) h (subst (λ (z : OutputRow). HasPeriod rate z k) at fit.0) has in
    let up = pow-le-pow_right {n = 2} two {i = k} {j = max k (greatest ks)} (omega arith) in
    omega (arith, same, up)
least rate h row (r ∷ rows) (k ∷ ks) (suc i) fit below at has =
    let two : 0 < 2 = omega arith in
    let rest = least rate h row rows ks i fit.1 (omega arith) at has in
    let up = pow-le-pow_right {n = 2} two {i = greatest ks} {j = max k (greatest ks)} (omega arith) in
    omega (arith, rest, up)

-- ---- the group

pub checked_is_fewest : FewestByDemand → (e : TableRecord) (group : GroupRow) (rows : List OutputRow) (s : Stated) → IsChecked e group rows s → AreFewestBusesFor group.rate rows s.heading.buses
checked_is_fewest by_demand e group rows s c =
    let rate : ℕ = group.rate in
    let h : ℕ = s.heading.frame in
    let buses : ℕ = s.heading.buses in
    let named = named_rows e rate rows buses s.outputs c.placed in
    let m : IsMatched (IsOfRow e rate) rows s.outputs = matched (IsOfRow e rate) (one_name e rate) rows s.outputs c.count named c.once in
    let fit : AllByRecursion (IsFit rate) rows =
    recursion_from_All (IsFit rate) rows (All-permutation (IsFit rate) m.ordered rows (IsPermutation-sym rows m.ordered m.moved) (All-from_recursion (IsFit rate) m.ordered (fits_of e rate m.ordered s.outputs m.each))) in
    let ks : List ℕ = exponents_of rate rows fit in
    let each : AllZip (HasPeriod rate) rows ks = exponents_fit rate rows fit in
    let p : IsMatched (IsOfPair e rate) (zip rows ks) s.outputs =
    matched (IsOfPair e rate) (λ pair k l a b. one_name e rate pair.0 k l a.0 b.0) (zip rows ks) s.outputs (c.count ∙ sym (length_zipped rate rows ks each)) (named_pairs e rate rows ks s.outputs each named) c.once in
    let cells : sum (map (λ k. h / 2 ^ k) ks) ≡ stated_demand s
    = sym (pair_cells h rate rows ks each) ∙ sym (sum_by-IsPermutation (λ (q : OutputRow × ℕ). h / 2 ^ q.1) (zip rows ks) p.ordered p.moved) ∙ line_cells h e rate p.ordered s.outputs p.each in
    let g : IsGreatestPeriod rate rows h = c.greatest in
    let some : 1 ≤ length rows = omega (arith, g.there.1) in
    let low : h ≤ 2 ^ greatest ks = least rate h g.row rows ks g.there.0 each g.there.1 g.there.2 g.has in
    let positive : 1 ≤ h = period_some h g.has.0 in
    let high : 2 ^ greatest ks ≤ h = most rate h rows ks each g.none_above positive in
    let frame : h ≡ 2 ^ greatest ks = omega (arith, low, high) in
    let total : stated_demand s ≡ demand_of ks = sym cells ∙ ap (λ (f : ℕ). sum (map (λ k. f / 2 ^ k) ks)) frame in
    record {
      exponents = ks;
      fit = each;
      fewest = by_demand ks buses (omega (arith, some, AllZip-long (HasPeriod rate) rows ks each)) (record {
        within = subst (λ (f : ℕ). demand_of ks ≤ buses * f) frame (subst (λ (d : ℕ). d ≤ buses * h) total c.within);
        above = subst (λ (f : ℕ). (buses - 1) * f < demand_of ks) frame (subst (λ (d : ℕ). (buses - 1) * h < d) total c.above);
      });
    }
