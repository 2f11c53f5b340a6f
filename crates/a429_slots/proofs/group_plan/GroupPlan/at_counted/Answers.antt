use borrow.Author.Rules.{scaled_Fits}
use Rattle.std.proofs.Common.{◌≡◌, ◌+◌, ◌*◌, ◌%◌, ◌^◌, ◌<◌, ◌≤◌, ◌∙◌, ℕ, List, None, Some, Bool, true, false, ap, arith, get_or, length, sym, subst, zero-le}
use Rattle.std.specs.Prelude.{Option, IfSome, IsTrue, ◌↔◌}
use Rattle.std.proofs.lemmas.Option.{none-some, same_Some}
use Rattle.a429_grid.specs.Reversal.{reversed}
use Rattle.a429_pack.specs.Sums.{Holds}
use Rattle.a429_slots.specs.declared.group_plan.GroupPlan.TheInside.{Inside}
use Rattle.a429_slots.specs.Columns.{AreColumns, table_in}
use Rattle.a429_slots.specs.Tables.{SlotTable, cell_at, frame_of, outputs_of, placed_at, stands_in}
use Rattle.a429_slots.specs.Kept.{HoldsCell, IsTable, begin_of, end_of, stretches_of}
use Rattle.std.specs.Bool.{then_some}
use Rattle.a429_word.proofs.Lists.{clash}
use Rattle.a429_slots.proofs.Cells.{HasEach, cell_found, cell_empty, cell_outside, held_by, stands_if}
use Rattle.a429_slots.proofs.Columns.{count_kept, laid_kept, length-table, sums_kept}
use Rattle.a429_slots.specs.declared.group_plan.LaidOutput.{LaidOutput}
use Rattle.a429_slots.proofs.group_plan.GroupPlan.at_counted.Goals as goal
use Rattle.a429_slots.proofs.group_plan.GroupPlan.at_counted.Goals.{After-new-output, Start}

pub place_of_cell-cell-requires : goal.place_of_cell-cell-requires
place_of_cell-cell-requires g c =
    let few : c.self.inside.buses ≤ 16 = c.self.invariant.table.few in
    let below : c.args.bus < c.self.inside.buses = c.if-bus-self.false in omega arith

held_at : (sums : List ℕ) (x k : ℕ) (r : Option ℕ) → r ≡ Some k → IfSome r (Holds sums x) → Holds sums x k
held_at sums x k r is held = subst (λ (r : Option ℕ). IfSome r (Holds sums x)) is held

pub bounds-self-inside-place : goal.bounds-self-inside-place
bounds-self-inside-place g c =
    let held : Holds c.self.inside.sums c.place_of_cell-cell.result c.in-Some.place =
    held_at c.self.inside.sums c.place_of_cell-cell.result c.in-Some.place c.find_counted-found.result.0 c.in-Some.is c.find_counted-found.ensures.found in
    omega (arith, held.0, c.self.invariant.table.room, length-table c.self.inside)

-- the array takes less than half of the addresses, as the table that it is a part of
room : (g : _) → Start g → g.row.N * 16 < 2 ^ 63
room g c = omega arith

pub offset_bounds-self-inside-place : goal.offset_bounds-self-inside-place
offset_bounds-self-inside-place g c = scaled_Fits _ g.row.N _ (bounds-self-inside-place g c) (room g c.before.before.before.before.before.before.before.before)

-- ---- a bus outside the plan

pub returns-then-bus-self-clause-cell : goal.returns-then-bus-self-clause-cell
returns-then-bus-self-clause-cell g c =
    subst (λ (u : SlotTable). None ≡ cell_at u c.args.bus c.args.slot) c.self.view_is
    (sym (cell_outside g.row.N (table_in c.self.inside) c.self.invariant.table c.args.bus c.args.slot c.if-bus-self.true))

pub returns-then-bus-self-clause-known : goal.returns-then-bus-self-clause-known
returns-then-bus-self-clause-known g c = tt

pub returns-then-bus-self-clause-probes : goal.returns-then-bus-self-clause-probes
returns-then-bus-self-clause-probes g c digits few = zero-le

pub returns-then-bus-self-clause-least : goal.returns-then-bus-self-clause-least
returns-then-bus-self-clause-least g c = tt

-- ---- a bus of the plan

-- an output that is in the cell is the one at the place that was found
only : {n : ℕ} (p : Inside n) (w : AreColumns n p) → HasEach (table_in p) → (r : Option ℕ) (x bus slot : ℕ) → x ≡ bus * 2 ^ p.frame + reversed p.frame (slot % 2 ^ p.frame)
    → ((k : ℕ) → Holds p.sums x k → r ≡ Some k) → (o : ℕ) → o < length (table_in p).outputs → stands_in bus slot (placed_at (table_in p) o) ≡ true
    → (k : ℕ) × (get_or (table_in p).order k 0 ≡ o) × (r ≡ Some k)
only {n} p w each r x bus slot place found o below there =
    let t : SlotTable = table_in p in
    let (k, is, held) = held_by n t w.table each o bus slot below there in (
      k,
      is,
      found k
          (subst (λ (y : ℕ). Holds p.sums y k) (sym place)
          (subst (λ (ds : List ℕ). Holds ds (bus * frame_of t + reversed t.frame (slot % frame_of t)) k) (sym (sums_kept p w)) held)),
    )

pub returns-in-None-clause-cell : goal.returns-in-None-clause-cell
returns-in-None-clause-cell g c =
    let t : SlotTable = table_in c.self.inside in
    let each : HasEach t = c.orders_name_each_once.ensures (length t.outputs) t.order c.self.invariant.table.order in
    subst (λ (u : SlotTable). None ≡ cell_at u c.args.bus c.args.slot) c.self.view_is
    (sym (cell_empty t c.args.bus c.args.slot (λ o below there.
    let (k, is, found) =
    only c.self.inside c.self.invariant each c.find_counted-found.result.0 c.place_of_cell-cell.result c.args.bus c.args.slot c.place_of_cell-cell.ensures c.find_counted-found.ensures.only o below there in
    none-some k (sym c.in-None.is ∙ found))))

-- the output at the place that was found
below : (g : _) (c : After-new-output g) → c.in-Some.place < length c.self.inside.sums
below g c = (held_at c.self.inside.sums c.place_of_cell-cell.result c.in-Some.place c.find_counted-found.result.0 c.in-Some.is c.find_counted-found.ensures.found).0

read : (g : _) (c : After-new-output g) → c.new-output.result ≡ get_or (table_in c.self.inside).order c.in-Some.place 0
read g c =
    let t : SlotTable = table_in c.self.inside in
    let each : HasEach t = c.orders_name_each_once.ensures (length t.outputs) t.order c.self.invariant.table.order in
    c.new-output.ensures ∙ ap (λ (x : LaidOutput). x.output) (laid_kept c.self.inside c.self.invariant c.in-Some.place (omega (arith, below g c, each.length, length-table c.self.inside)))

known : (g : _) (c : After-new-output g) → c.new-output.result < length (outputs_of (table_in c.self.inside))
known g c =
    let t : SlotTable = table_in c.self.inside in
    let each : HasEach t = c.orders_name_each_once.ensures (length t.outputs) t.order c.self.invariant.table.order in
    omega (arith, read g c, each.below c.in-Some.place (omega (arith, below g c, length-table c.self.inside)))

pub has_cell-there-requires : goal.has_cell-there-requires
has_cell-there-requires g c =
    let t : SlotTable = table_in c.self.inside in
    let held : Holds c.self.inside.sums c.place_of_cell-cell.result c.in-Some.place =
    held_at c.self.inside.sums c.place_of_cell-cell.result c.in-Some.place c.find_counted-found.result.0 c.in-Some.is c.find_counted-found.ensures.found in
    let at : Holds (stretches_of t) c.place_of_cell-cell.result c.in-Some.place =
    subst (λ (ds : List ℕ). Holds ds c.place_of_cell-cell.result c.in-Some.place) (sums_kept c.self.inside c.self.invariant) held in
    (assumption, subst (λ (u : SlotTable). Holds (stretches_of u) c.place_of_cell-cell.result c.in-Some.place) c.self.view_is at)

-- it is in the cell, or none is
found_or_none : (t : SlotTable) (bus slot o : ℕ) (there : Bool) → there ≡ stands_in bus slot (placed_at t o) → (stands_in bus slot (placed_at t o) ≡ true → cell_at t bus slot ≡ Some o)
    → (stands_in bus slot (placed_at t o) ≡ false → cell_at t bus slot ≡ None) → then_some there o ≡ cell_at t bus slot
found_or_none t bus slot o true is found empty = sym (found (sym is))
found_or_none t bus slot o false is found empty = sym (empty (sym is))

pub returns-in-Some-clause-cell : goal.returns-in-Some-clause-cell
returns-in-Some-clause-cell g c =
    let t : SlotTable = table_in c.self.inside in
    let w : IsTable g.row.N t = c.self.invariant.table in
    let each : HasEach t = c.orders_name_each_once.ensures (length t.outputs) t.order w.order in
    let o : ℕ = c.new-output.result in
    let has : IsTrue c.has_cell-there.result ↔ HoldsCell t o c.args.bus c.args.slot =
    subst (λ (i : ℕ). IsTrue c.has_cell-there.result ↔ HoldsCell t i c.args.bus c.args.slot) (sym (read g c.before.before))
    (subst (λ (x : ℕ). IsTrue c.has_cell-there.result ↔ ((begin_of t (get_or t.order c.in-Some.place 0) ≤ x) × (x < end_of t (get_or t.order c.in-Some.place 0)))) c.place_of_cell-cell.ensures
    (subst (λ (u : SlotTable). IsTrue c.has_cell-there.result ↔ ((begin_of u (get_or u.order c.in-Some.place 0) ≤ c.place_of_cell-cell.result) × (c.place_of_cell-cell.result < end_of u (get_or u.order c.in-Some.place 0)))) (sym c.self.view_is) c.has_cell-there.ensures)) in
    let there : c.has_cell-there.result ≡ stands_in c.args.bus c.args.slot (placed_at t o) =
    stands_if t o c.args.bus c.args.slot c.has_cell-there.result (w.periodic o (known g c.before.before)) has in
    subst (λ (u : SlotTable). c.then_some.result ≡ cell_at u c.args.bus c.args.slot) c.self.view_is
    (c.then_some.ensures
    ∙ found_or_none t c.args.bus c.args.slot o c.has_cell-there.result there
    (λ stands. cell_found g.row.N t w each (c.stretches_are_apart.ensures.apart (stretches_of t)) o c.args.bus c.args.slot (known g c.before.before) stands)
    (λ not. cell_empty t c.args.bus c.args.slot (λ other inside stands.
    let (k, is, found) =
    only c.self.inside c.self.invariant each c.find_counted-found.result.0 c.place_of_cell-cell.result c.args.bus c.args.slot c.place_of_cell-cell.ensures c.find_counted-found.ensures.only other inside stands in
    let place : k ≡ c.in-Some.place = same_Some k c.in-Some.place (sym found ∙ c.in-Some.is) in
    let same : other ≡ o = sym is ∙ ap (λ (i : ℕ). get_or t.order i 0) place ∙ sym (read g c.before.before) in
    clash (sym (ap (λ (i : ℕ). stands_in c.args.bus c.args.slot (placed_at t i)) same ∙ not) ∙ stands))))

if_there : (there : Bool) (o n : ℕ) → o < n → IfSome (then_some there o) (λ x. x < n)
if_there true o n inside = inside
if_there false o n inside = tt

pub returns-in-Some-clause-known : goal.returns-in-Some-clause-known
returns-in-Some-clause-known g c =
    subst (λ (r : Option ℕ). IfSome r (λ x. x < length (outputs_of c.args.self.now))) (sym c.then_some.ensures)
    (if_there c.has_cell-there.result c.new-output.result (length (outputs_of c.args.self.now))
    (subst (λ (u : SlotTable). c.new-output.result < length (outputs_of u)) c.self.view_is (known g c.before.before)))

pub returns-in-Some-clause-probes : goal.returns-in-Some-clause-probes
returns-in-Some-clause-probes g c digits few =
    c.find_counted-found.ensures.probes digits (omega (arith, count_kept c.self.inside c.args.self.now c.self.view_is, few))

if_any : (r : Option ℕ) (P : Type 0) → P → IfSome r (λ _. P)
if_any None P p = tt
if_any (Some x) P p = p

pub returns-in-Some-clause-least : goal.returns-in-Some-clause-least
returns-in-Some-clause-least g c =
    let least : length c.self.inside.sums < 2 ^ (c.find_counted-found.result.1 + 1) =
    subst (λ (r : Option ℕ). IfSome r (λ _. length c.self.inside.sums < 2 ^ (c.find_counted-found.result.1 + 1))) c.in-Some.is c.find_counted-found.ensures.least in
    if_any c.then_some.result (length (outputs_of c.args.self.now) < 2 ^ (c.find_counted-found.result.1 + 1)) (omega (arith, least, count_kept c.self.inside c.args.self.now c.self.view_is))

pub returns-in-None-clause-probes : goal.returns-in-None-clause-probes
returns-in-None-clause-probes g c digits few =
    c.find_counted-found.ensures.probes digits (omega (arith, count_kept c.self.inside c.args.self.now c.self.view_is, few))

pub returns-in-None-clause-known : goal.returns-in-None-clause-known
returns-in-None-clause-known g c = tt

pub returns-in-None-clause-least : goal.returns-in-None-clause-least
returns-in-None-clause-least g c = tt
