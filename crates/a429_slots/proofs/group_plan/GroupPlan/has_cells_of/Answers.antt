use mathlib.Core.List.{not-mem-nil}
use prog.Memory.{size}
use denote.Param.{layout, number, param}
use Rattle.std.proofs.Common.{◌^◌, ◌*◌, ◌<◌, ap, arith, sym, ◌∙◌}
use Rattle.a429_pack.specs.contracts.sums.SumTable.{the_row}
use Rattle.a429_slots.specs.Tables.{SlotTable, cell_at}
use Rattle.a429_slots.proofs.CachedCells.{same_cells, arrays_same, arrays_not_other}
use Rattle.a429_slots.proofs.group_plan.GroupPlan.has_cells_of.Goals as goal
use Rattle.a429_slots.proofs.group_plan.GroupPlan.has_cells_of.Goals.{Start}

pub returns : goal.returns
returns g c bus slot is =
    let a = c.self.inside in
    let b = c.other.inside in
    sym (ap (λ (t : SlotTable). cell_at t bus slot) c.self.view_is)
    ∙ same_cells a b (record {
      count = omega (arith, c.if-len.false, c.len.ensures.value, c.len-2.ensures.value);
      on_bus = arrays_not_other a.on_bus b.on_bus c.ne.result c.ne.ensures c.if-ne.false;
      offsets = arrays_not_other a.offsets b.offsets c.ne-2.result c.ne-2.ensures c.if-ne-2.false;
      periods = arrays_same a.periods b.periods c.eq.result c.eq.ensures is;
    }) bus slot
    ∙ ap (λ (t : SlotTable). cell_at t bus slot) c.other.view_is

-- the running sums, and a column of a word to each output, take less than half of the addresses
sums_fit : (g : _) → Start g → size (layout (the_row (param 0 (number g.row.N)))) < 2 ^ 63
sums_fit g c = omega arith

room : (g : _) → Start g → g.row.N * 4 < 2 ^ 63
room g c = omega arith

start : (g : _) → goal.Else-len g → Start g
start g c = c.before.before.before.before.before

pub len-requires : goal.len-requires
len-requires g c = sums_fit g c.before

pub len-requires-2 : goal.len-requires-2
len-requires-2 g c = sums_fit g c.before.before.before

pub ne-requires : goal.ne-requires
ne-requires g c κs = ((room g (start g c), tt), (λ a none. absurd (not-mem-nil none)))

pub ne-requires-2 : goal.ne-requires-2
ne-requires-2 g c κs = ((room g (start g c.before.before), tt), (λ a none. absurd (not-mem-nil none)))
