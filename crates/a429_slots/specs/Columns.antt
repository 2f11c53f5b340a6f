-- How a `GroupPlan` keeps its table: a column for each part of an output (vocabulary of contracts).
use Rattle.std.specs.Prelude.{◌≡◌, ℕ, get_or, length, map, slice_index, sum, take}
use Rattle.std.specs.List.{range_with_len}
use Rattle.a429_pack.specs.Kept.{padded}
use Rattle.a429_slots.specs.declared.group_plan.GroupPlan.TheInside.{Inside}
use Rattle.a429_slots.specs.Kept.{IsTable, stretches_of}
use Rattle.a429_slots.specs.Laid.{laid_in, nothing_laid}
use Rattle.a429_slots.specs.Tables.{Placed, SlotTable, demands_of, unlimited}

-- an output, as the columns have it
abbrev pub placed_in : {n : ℕ} → Inside n → ℕ → Placed
placed_in p o = record {
  source = slice_index p.sources o;
  place = record { bus = slice_index p.on_bus o; offset = slice_index p.offsets o; period = slice_index p.periods o };
  limits = get_or p.limits o unlimited;
}

-- the table that the columns have: as many places of each are in use as there are stretches
abbrev pub table_in : {n : ℕ} → Inside n → SlotTable
table_in p = record {
  frame = p.frame;
  buses = p.buses;
  outputs = map (placed_in p) (range_with_len 0 (length p.sums));
  order = map (λ x. x.output) (take (length p.sums) p.laid);
}

-- the columns of a table, each in an array of n
abbrev pub columns_of : (n : ℕ) → SlotTable → Inside n
columns_of n t = record {
  frame = t.frame;
  buses = t.buses;
  sums = stretches_of t;
  filled = sum (demands_of t);
  laid = padded nothing_laid n (map (laid_in t) t.order);
  sources = padded 0 n (map (λ x. x.source) t.outputs);
  on_bus = padded 0 n (map (λ x. x.place.bus) t.outputs);
  offsets = padded 0 n (map (λ x. x.place.offset) t.outputs);
  periods = padded 0 n (map (λ x. x.place.period) t.outputs);
  limits = padded unlimited n (map (λ x. x.limits) t.outputs);
}

-- the columns are those of their table
pub record AreColumns (n : ℕ) (p : Inside n) : Type 0 where
  pub kept : columns_of n (table_in p) ≡ p
  pub table : IsTable n (table_in p)
