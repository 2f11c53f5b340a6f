-- Two faults of a table are the same.
use Rattle.std.proofs.Common.{◌≡◌, ℕ, zero, suc, ◌^◌, ◌<◌, List, [], ◌∷◌, take, refl, sym, ap, ap₂, ◌∙◌, subst, arith, inl, inr}
use Rattle.std.specs.Prelude.{Some, slice_get}
use Rattle.std.specs.List.{AllByRecursion}
use Rattle.std.proofs.lemmas.Bool.{cases_lt}
use Rattle.std.proofs.lemmas.Option.{none-some, same_Some}
use Rattle.a429_word.proofs.Lists.{partner}
use Rattle.a429_equipment.specs.TableRecord.{TableRecord}
use Rattle.a429_equipment.specs.declared.rows.OutputRow.{OutputRow}
use Rattle.a429_pack.specs.Demanded.{AreFewestBuses}
use Rattle.a429_slots.specs.declared.planner.PlanFault.TheVariants.{Unfit, TooManyBuses, NoMemory}
use Rattle.a429_slots.specs.OnePlan.{FaultsAreUnique, PlansHaveNoFault}
use Rattle.a429_slots.specs.Planned.{AreFewestBusesFor, CanBePlanned, CanBePlannedAt, HasPeriod, IsFit, IsFirstFaulty, IsFirstUnfit, IsPlanOf, IsPlannedAt, NeedsTooMany, rated_outputs}
use Rattle.a429_slots.specs.Tables.{PlanTable, groups_of}
use Rattle.a429_slots.proofs.OnePlan.{OneCount, same_exponents}
use Rattle.a429_slots.proofs.Planning.{could_be}

-- ---- elements of lists

all_taken : {X : Type 0} (P : X → Type 0) (xs : List X) (i j : ℕ) (x : X) → i < j → slice_get xs i ≡ Some x → AllByRecursion P (take j xs) → P x
all_taken P [] i j x less there all = absurd (none-some x there)
all_taken P (y ∷ ys) i zero x less there all = absurd (omega arith)
all_taken P (y ∷ ys) zero (suc j) x less there all = subst P (same_Some y x there) all.0
all_taken P (y ∷ ys) (suc i) (suc j) x less there all = all_taken P ys i j x (omega arith) there all.1

-- ---- one group

-- no group with this fault can be planned
abbrev Refutes : (ℕ → List OutputRow → Type 0) → Type 0
Refutes F = (rate : ℕ) (rows : List OutputRow) → F rate rows → CanBePlanned rate rows → ⊥

-- one whose rows have grid periods has no unfit row
all_fit : (rate : ℕ) (rows : List OutputRow) (buses o : ℕ) → AreFewestBusesFor rate rows buses → IsFirstUnfit rate rows o → ⊥
all_fit rate rows buses o few first =
    let (k, fit) = partner (HasPeriod rate) rows few.exponents o first.row few.fit first.there in
    first.unfit (2 ^ k) fit.0 fit.1

one_number : OneCount → (rate : ℕ) (rows : List OutputRow) (m n : ℕ) → AreFewestBusesFor rate rows m → AreFewestBusesFor rate rows n → m ≡ n
one_number count rate rows m n f s =
    count s.exponents m n (subst (λ (ks : List ℕ). AreFewestBuses ks m) (same_exponents rate rows f.exponents s.exponents f.fit s.fit) f.fewest) s.fewest

unfit_refutes : (o : ℕ) → Refutes (λ rate rows. IsFirstUnfit rate rows o)
unfit_refutes o rate rows first could = all_fit rate rows could.0 o could.1 first

many_refutes : OneCount → (n : ℕ) → Refutes (λ rate rows. NeedsTooMany rate rows n)
many_refutes count n rate rows many could = let same : n ≡ could.0 = one_number count rate rows n could.0 many.0 could.1 in omega (arith, same, many.1, could.2)

-- the first unfit row of a group
fit_row : (rate : ℕ) (rows : List OutputRow) (i j : ℕ) → i < j → IsFirstUnfit rate rows i → IsFirstUnfit rate rows j → ⊥
fit_row rate rows i j less first later =
    let (k, fit) = all_taken (IsFit rate) rows i j first.row less first.there later.earlier in
    first.unfit (2 ^ k) fit.0 fit.1

one_unfit : (rate : ℕ) (rows : List OutputRow) (i j : ℕ) → IsFirstUnfit rate rows i → IsFirstUnfit rate rows j → i ≡ j
one_unfit rate rows i j first second = elim (cases_lt i j) [
  | inl less ↦ absurd (fit_row rate rows i j less first second)
  | inr most ↦ elim (cases_lt j i) [
    | inl more ↦ absurd (fit_row rate rows j i more second first)
    | inr equal ↦ omega (arith, most, equal)
  ]
]

-- ---- the first group

record AreSame (e : TableRecord) (g h : ℕ) (F G : ℕ → List OutputRow → Type 0) : Type 0 where
  pub group : g ≡ h
  pub rate : ℕ
  pub rows : List OutputRow
  pub first : F rate rows
  pub second : G rate rows

earlier_none : (e : TableRecord) (g h : ℕ) (F G : ℕ → List OutputRow → Type 0) → Refutes F → g < h → IsFirstFaulty e g F → IsFirstFaulty e h G → ⊥
earlier_none e g h F G never less first second =
    never first.rate first.rows first.fault (all_taken CanBePlannedAt (rated_outputs e) g h (first.rate, first.rows) less first.there second.earlier)

in_same : (e : TableRecord) (g h : ℕ) (F G : ℕ → List OutputRow → Type 0) → g ≡ h → IsFirstFaulty e g F → IsFirstFaulty e h G → AreSame e g h F G
in_same e g h F G same first second =
    let pair : (second.rate, second.rows) ≡ (first.rate, first.rows)
    = same_Some (second.rate, second.rows) (first.rate, first.rows) (sym second.there ∙ ap (λ (k : ℕ). slice_get (rated_outputs e) k) (sym same) ∙ first.there) in
    record { group = same; rate = first.rate; rows = first.rows; first = first.fault; second = subst (λ (r : ℕ × List OutputRow). G r.0 r.1) pair second.fault }

one_group : (e : TableRecord) (g h : ℕ) (F G : ℕ → List OutputRow → Type 0) → Refutes F → Refutes G → IsFirstFaulty e g F → IsFirstFaulty e h G → AreSame e g h F G
one_group e g h F G never none first second = elim (cases_lt g h) [
  | inl less ↦ absurd (earlier_none e g h F G never less first second)
  | inr most ↦ elim (cases_lt h g) [
    | inl more ↦ absurd (earlier_none e h g G F none more second first)
    | inr equal ↦ let same : g ≡ h = omega (arith, most, equal) in in_same e g h F G same first second
  ]
]

pub one_fault : OneCount → FaultsAreUnique
one_fault count e (Unfit g o) (Unfit h p) first second some other =
    let s = one_group e g h (λ rate rows. IsFirstUnfit rate rows o) (λ rate rows. IsFirstUnfit rate rows p) (unfit_refutes o) (unfit_refutes p) first second in
    ap₂ (λ group output. Unfit group output) s.group (one_unfit s.rate s.rows o p s.first s.second)
one_fault count e (Unfit g o) (TooManyBuses h n) first second some other =
    let s = one_group e g h (λ rate rows. IsFirstUnfit rate rows o) (λ rate rows. NeedsTooMany rate rows n) (unfit_refutes o) (many_refutes count n) first second in
    absurd (all_fit s.rate s.rows n o s.second.0 s.first)
one_fault count e (TooManyBuses g m) (Unfit h p) first second some other =
    let s = one_group e g h (λ rate rows. NeedsTooMany rate rows m) (λ rate rows. IsFirstUnfit rate rows p) (many_refutes count m) (unfit_refutes p) first second in
    absurd (all_fit s.rate s.rows m p s.first.0 s.second)
one_fault count e (TooManyBuses g m) (TooManyBuses h n) first second some other =
    let s = one_group e g h (λ rate rows. NeedsTooMany rate rows m) (λ rate rows. NeedsTooMany rate rows n) (many_refutes count m) (many_refutes count n) first second in
    ap₂ (λ group needed. TooManyBuses group needed) s.group (one_number count s.rate s.rows m n s.first.0 s.second.0)
one_fault count e NoMemory g first second some other = absurd (some refl)
one_fault count e (Unfit g o) NoMemory first second some other = absurd (other refl)
one_fault count e (TooManyBuses g m) NoMemory first second some other = absurd (other refl)

-- ---- a table with a plan

planned_not : (e : TableRecord) (p : PlanTable) (g : ℕ) (F : ℕ → List OutputRow → Type 0) → Refutes F → IsPlanOf e p → IsFirstFaulty e g F → ⊥
planned_not e p g F never plan first =
    let (t, planned) = partner (IsPlannedAt e.sources) (rated_outputs e) (groups_of p) g (first.rate, first.rows) plan.groups first.there in
    never first.rate first.rows first.fault (could_be first.rate e.sources first.rows t planned)

pub no_fault : OneCount → PlansHaveNoFault
no_fault count e p (Unfit g o) plan fault = absurd (planned_not e p g (λ rate rows. IsFirstUnfit rate rows o) (unfit_refutes o) plan fault)
no_fault count e p (TooManyBuses g n) plan fault = absurd (planned_not e p g (λ rate rows. NeedsTooMany rate rows n) (many_refutes count n) plan fault)
no_fault count e p NoMemory plan fault = refl
