use borrow.Author.Rules.{scaled_Fits}
use Rattle.std.proofs.Common.{◌≡◌, ◌*◌, ◌^◌, ◌<◌, ◌∙◌, ℕ, ap, arith, get_or, length, lt_of_lt_of_le, sym, subst}
use Rattle.std.specs.Prelude.{Some, slice_get}
use Rattle.std.proofs.lemmas.Option.{slice_get-get_or}
use Rattle.a429_slots.specs.Columns.{table_in}
use Rattle.a429_slots.specs.Tables.{SlotTable, outputs_of, order_of}
use Rattle.a429_slots.proofs.Cells.{HasEach}
use Rattle.a429_slots.proofs.Columns.{count_kept, laid_kept, length-table}
use Rattle.a429_slots.specs.declared.group_plan.LaidOutput.{LaidOutput}
use Rattle.a429_slots.proofs.group_plan.GroupPlan.output_at_place.Goals as goal
use Rattle.a429_slots.proofs.group_plan.GroupPlan.output_at_place.Goals.{Start}

pub prove-unreachable-requires : goal.prove-unreachable-requires
prove-unreachable-requires g c = omega (arith, count_kept c.self.inside c.args.self.now c.self.view_is, c.requires, c.len.ensures.value, c.if-prove.true)

-- the array takes less than half of the addresses, as the table that it is a part of
room : (g : _) → Start g → g.row.N * 16 < 2 ^ 63
room g c = omega arith

pub offset_bounds-self-inside-k : goal.offset_bounds-self-inside-k
offset_bounds-self-inside-k g c = scaled_Fits _ _ _ (lt_of_lt_of_le c.if-prove.false c.len.ensures.few) (room g c.before.before.before.before)

below : (g : _) (c : goal.After-new g) → c.args.k < length c.self.inside.sums
below g c = omega (arith, c.len.ensures.value, c.if-prove.false)

each : (g : _) (c : goal.After-new g) → HasEach (table_in c.self.inside)
each g c = c.orders_name_each_once.ensures (length (table_in c.self.inside).outputs) (table_in c.self.inside).order c.self.invariant.table.order

read : (g : _) (c : goal.After-new g) → get_or (table_in c.self.inside).order c.args.k 0 ≡ c.new.result
read g c =
    sym (c.new.ensures ∙ ap (λ (x : LaidOutput). x.output) (laid_kept c.self.inside c.self.invariant c.args.k (omega (arith, below g c, (each g c).length, length-table c.self.inside))))

pub returns-clause-value : goal.returns-clause-value
returns-clause-value g c =
    let many : length (table_in c.self.inside).order ≡ length c.self.inside.sums = (each g c).length ∙ length-table c.self.inside in
    subst (λ (t : SlotTable). slice_get (order_of t) c.args.k ≡ Some c.new.result) c.self.view_is
    (slice_get-get_or (table_in c.self.inside).order c.args.k 0 (omega (arith, many, below g c)) ∙ ap (λ (o : ℕ). Some o) (read g c))

pub returns-clause-known : goal.returns-clause-known
returns-clause-known g c =
    let inside : c.new.result < length (outputs_of (table_in c.self.inside)) =
    omega (arith, read g c, (each g c).below c.args.k (omega (arith, length-table c.self.inside, below g c))) in
    subst (λ (t : SlotTable). c.new.result < length (outputs_of t)) c.self.view_is inside
