use prog.Memory.{size}
use denote.Param.{layout, number, param}
use Rattle.a429_pack.specs.contracts.sums.SumTable.{the_row}
use Rattle.std.proofs.Common.{◌≡◌, ◌∙◌, ◌*◌, ◌^◌, ◌<◌, ◌≤◌, ℕ, ap, arith, length, map, subst, sum, sym}
use Rattle.a429_pack.specs.Demands.{exponent_of}
use Rattle.a429_slots.specs.declared.group_plan.GroupPlan.TheInside.{Inside}
use Rattle.a429_slots.specs.Columns.{AreColumns, table_in}
use Rattle.a429_slots.specs.Asked.{IsTableOf}
use Rattle.a429_slots.proofs.Tabled.{AreFilled, are_columns, is_table_of, laid_in}
use Rattle.a429_slots.proofs.group_plan.GroupPlan.of.Goals as goal
use Rattle.a429_slots.proofs.group_plan.GroupPlan.of.Goals.{After-spacings_are_least, Start}

abbrev columns : (g : _) (c : goal.After-limits_in g) → Inside g.row.N
columns g c = record {
  frame = c.frame.result;
  buses = c.buses.result;
  sums = c.sums.result.now;
  filled = c.total.result;
  laid = c.laid_outputs.result;
  sources = c.sources_in.result;
  on_bus = c.places_in-on_bus.result.0;
  offsets = c.places_in-on_bus.result.1;
  periods = c.periods_in.result;
  limits = c.limits_in.result;
}

are_filled : (g : _) (c : goal.After-limits_in g) → AreFilled g.row.N c.args.packed.now c.args.outputs.now c.args.demands.now (columns g c)
are_filled g c = record {
  rate = c.args.rate;
  room = omega arith;
  laid = c.frame.ensures.laid_out;
  each = c.orders_name_each_once.ensures (length c.args.packed.now.demands) c.args.packed.now.inputs c.frame.ensures.laid_out.inputs;
  within = c.stretches_are_apart.ensures.within c.args.packed.now.demands;
  longest = c.none_is_above_the_greatest.ensures (map exponent_of c.args.demands.now);
  rows_long = c.requires.outputs;
  asked_long = c.requires.asked;
  greatest = c.requires.frame;
  shares = c.requires.demands;
  laid_out = c.laid_outputs.ensures;
  sources = c.sources_in.ensures;
  periods = c.periods_in.ensures;
  limits = c.limits_in.ensures;
  least = c.spacings_are_least.ensures.least;
  intervals = c.requires.intervals;
  some_rate = c.requires.rate.0;
  bus = c.places_in-on_bus.ensures.bus;
  offset = c.places_in-on_bus.ensures.offset;
  bus_rest = c.places_in-on_bus.ensures.bus_rest;
  offset_rest = c.places_in-on_bus.ensures.offset_rest;
}

parts : (g : _) (c : goal.After-limits_in g) → laid_in c.args.packed.now (columns g c) ≡ columns g c
parts g c = λ i. record (columns g c) { frame = sym c.frame.ensures.value i; buses = sym c.buses.ensures.value i; sums = sym c.sums.ensures.value i; filled = (ap sum (sym c.sums-2.ensures.value) ∙ sym c.total.ensures) i }

pub invariant_of-result : goal.invariant_of-result
invariant_of-result g c =
    subst (AreColumns g.row.N) (parts g c) (are_columns g.row.N c.args.packed.now c.args.outputs.now c.args.demands.now (columns g c) (are_filled g c))

pub returns-clause-table : goal.returns-clause-table
unfolding are_filled
returns-clause-table g c =
    subst (λ (p : Inside g.row.N). IsTableOf c.args.rate c.args.packed.now c.args.outputs.now c.args.demands.now (table_in p)) (parts g c)
    (is_table_of g.row.N c.args.packed.now c.args.outputs.now c.args.demands.now (columns g c) (are_filled g c))

pub returns-clause-sound : goal.returns-clause-sound
returns-clause-sound g c = (invariant_of-result g c).table

pub none_is_above_the_greatest-requires : goal.none_is_above_the_greatest-requires
none_is_above_the_greatest-requires g c = tt

pub orders_name_each_once-requires : goal.orders_name_each_once-requires
orders_name_each_once-requires g c = tt

pub stretches_are_apart-requires : goal.stretches_are_apart-requires
stretches_are_apart-requires g c = tt

pub spacings_are_least-requires : goal.spacings_are_least-requires
spacings_are_least-requires g c = tt

-- the widest column takes less than half of the addresses, and so does each
wide : (g : _) → Start g → g.row.N * 16 < 2 ^ 63
wide g c = omega arith

twelve : (n : ℕ) → n * 16 < 2 ^ 63 → n * 12 < 2 ^ 63
twelve n all = omega arith

eight : (n : ℕ) → n * 16 < 2 ^ 63 → n * 8 < 2 ^ 63
eight n all = omega arith

four : (n : ℕ) → n * 16 < 2 ^ 63 → n * 4 < 2 ^ 63
four n all = omega arith

start : (g : _) → After-spacings_are_least g → Start g
start g c = c.before.before.before.before

pub places_in-on_bus-requires : goal.places_in-on_bus-requires
places_in-on_bus-requires g c = (assumption, four g.row.N (wide g (start g c)))

pub frame-requires : goal.frame-requires
frame-requires g c = assumption

pub buses-requires : goal.buses-requires
buses-requires g c = assumption

-- the running sums take less than half of the addresses, as the layout that they are a part of
sums_fit : (g : _) → Start g → size (layout (the_row (param 0 (number g.row.N)))) < 2 ^ 63
sums_fit g c = omega arith

pub sums-requires : goal.sums-requires
sums-requires g c = (assumption, sums_fit g (start g c.before.before.before))

pub laid_outputs-requires : goal.laid_outputs-requires
laid_outputs-requires g c = (assumption, (wide g (start g c.before.before.before.before.before.before.before)))

pub sources_in-requires : goal.sources_in-requires
sources_in-requires g c = (eight g.row.N (wide g (start g c.before.before.before.before.before.before.before.before)), c.requires.room)

pub periods_in-requires : goal.periods_in-requires
periods_in-requires g c =
    (four g.row.N (wide g (start g c.before.before.before.before.before.before.before.before.before)), subst (λ (k : ℕ). k ≤ g.row.N) (c.requires.outputs ∙ sym c.requires.asked) c.requires.room)

pub limits_in-requires : goal.limits_in-requires
limits_in-requires g c = (twelve g.row.N (wide g (start g c.before.before.before.before.before.before.before.before.before.before)), (c.requires.room, (c.requires.intervals, c.requires.rate)))
