-- The slot tables of plans that are published with their own tables.
use Rattle.std.proofs.Common.{◌≡◌, ◌++◌, ◌∷◌, [], ℕ, zero, suc, List, take, drop, ◌∙◌, sym, ap, subst, inl, inr, append_assoc}
use Rattle.std.specs.Prelude.{Option, Some, None, slice_get, unwrap_or}
use Rattle.std.specs.List.{zip}
use Rattle.std.proofs.lemmas.List.{take-append-drop}
use Rattle.std.proofs.lemmas.Option.{none-some, slice_get_cases}
use Rattle.a429_word.proofs.Lists.{all_at}
use Rattle.a429_equipment.specs.Sound.{HaveOwnSources}
use Rattle.a429_slots.specs.Tables.{SlotTable, groups_of}
use Rattle.a429_slots.specs.Planned.{IsPlannedAt, rated_outputs}
use Rattle.a429_slots.specs.Proposed.{Proposed}
use Rattle.a429_slots.specs.Events.{Event, Publish}
use Rattle.a429_slots.specs.History.{Opening, OpensWith}
use Rattle.a429_slots.specs.Spacing.{IsSpacedTable, IsOwnPlan, HaveOwnPlans, HasSpacedTable}
use Rattle.a429_slots.proofs.Published.{came_from}
use Rattle.a429_slots.proofs.SpacedTables.{NoneAbove, row_of, spaced_table}

abbrev second_of : {X Y : Type 0} → Option (X × Y) → Y → Y
second_of None y = y
second_of (Some p) y = p.1

second_at : {X Y : Type 0} (xs : List X) (ys : List Y) (i : ℕ) (x : X) (y : Y) → slice_get (zip xs ys) i ≡ Some (x, y) → slice_get ys i ≡ Some y
second_at [] ys i x y h = absurd (none-some (x, y) h)
second_at (a ∷ xs) [] i x y h = absurd (none-some (x, y) h)
second_at {X} {Y} (a ∷ xs) (b ∷ ys) zero x y h = ap (λ (o : Option (X × Y)). Some (second_of o b)) h
second_at (a ∷ xs) (b ∷ ys) (suc i) x y h = second_at xs ys i x y h

-- a table of a plan that is a proposal's own
own_table : NoneAbove → (q : Proposed) (g : ℕ) (t : SlotTable) → IsOwnPlan q → slice_get (groups_of q.plan) g ≡ Some t → IsSpacedTable t
own_table above q g t Q h =
    let R = row_of (IsPlannedAt q.station.sources) (rated_outputs q.station) (groups_of q.plan) g t Q.plan.groups h in
    let there : slice_get q.station.outputs g ≡ Some R.row.1 = second_at _ q.station.outputs g R.row.0 R.row.1 R.there in
    spaced_table above R.row.0 q.station.sources R.row.1 t R.related (all_at HaveOwnSources q.station.outputs g R.row.1 Q.own there)

-- the group's table of such a plan, or another such table
own_or : NoneAbove → (q : Proposed) (g : ℕ) (p : SlotTable) → IsOwnPlan q → IsSpacedTable p → IsSpacedTable (unwrap_or (slice_get (groups_of q.plan) g) p)
own_or above q g p Q P =
    elim (slice_get_cases (groups_of q.plan) g).1 [
      | inl there ↦ subst (λ (o : Option SlotTable). IsSpacedTable (unwrap_or o p)) (sym there.2) (own_table above q g there.0 Q there.2)
      | inr none ↦ subst (λ (o : Option SlotTable). IsSpacedTable (unwrap_or o p)) (sym none.1) P
    ]

-- at every place
pub in_force : NoneAbove → (o : Opening) (g : ℕ) (p : SlotTable) (E : List Event) (k : ℕ) → OpensWith o g p → HaveOwnPlans o E → HasSpacedTable o g p E k
in_force above o g p E k opens H =
    let first : IsSpacedTable p = own_table above o.proposal g p H.opening opens in
    elim (came_from o g p (take k E) opens) [
      | inl opening ↦ subst IsSpacedTable (sym opening.table) first
      | inr came ↦
          let P = came.published in
          let split : E ≡ P.before ++ Publish came.proposal ∷ (P.after ++ drop k E) =
          sym (take-append-drop k E) ∙ (ap (λ (xs : List Event). xs ++ drop k E) P.split ∙ append_assoc P.before (Publish came.proposal ∷ P.after) (drop k E)) in
          subst IsSpacedTable (sym came.table) (own_or above came.proposal g p (H.published P.before (P.after ++ drop k E) came.proposal split) first)
    ]
