use prog.Memory.{size}
use denote.Param.{layout, number, param}
use Rattle.a429_pack.specs.contracts.sums.SumTable.{the_row}
use borrow.Author.Count.{falls}
use Rattle.std.proofs.Common.{◌≡◌, ◌<◌, ◌≤◌, ◌∙◌, ◌/◌, ◌%◌, ◌^◌, ℕ, List, ap, arith, length}
use Rattle.std.proofs.lemmas.List.{length-replicate, length-set}
use Rattle.a429_grid.specs.Reversal.{reversed}
use Rattle.a429_pack.specs.Layout.{IsLaidOut}
use Rattle.a429_pack.specs.Orders.{NamesEachOnce}
use Rattle.a429_pack.specs.Sums.{start_of}
use Rattle.a429_slots.proofs.Columns.{kept_from_zeros, placed_more, zeros, zeros_more}
use Rattle.a429_slots.proofs.layout.places_in.Goals as goal
use Rattle.a429_slots.proofs.layout.places_in.Goals.{Start}

-- the running sums take less than half of the addresses, as the layout that they are a part of
sums_fit : (g : _) → Start g → size (layout (the_row (param 0 (number g.row.N)))) < 2 ^ 63
sums_fit g c = omega arith

pub start-start-requires : goal.start-start-requires
start-start-requires g c =
    let laid : IsLaidOut c.args.packed.now = c.frame-frame.ensures.laid_out in
    let each : NamesEachOnce (length c.args.packed.now.demands) c.args.packed.now.inputs =
    c.orders_name_each_once.ensures (length c.args.packed.now.demands) c.args.packed.now.inputs laid.inputs in
    (sums_fit g c.before.before.before.before.before.before, omega (arith, each.length, ap length c.sums.ensures.value))

pub loop-place-init : goal.loop-place-init
loop-place-init g c = record {
  wide_buses = length-replicate {A = ℕ} g.row.N 0;
  wide_offsets = length-replicate {A = ℕ} g.row.N 0;
  bus = λ k none. absurd (omega arith);
  offset = λ k none. absurd (omega arith);
  bus_rest = λ k past. zeros g.row.N k;
  offset_rest = λ k past. zeros g.row.N k;
}

pub loop-place-preserved : goal.loop-place-preserved
loop-place-preserved g c =
    let l = c.args.packed.now in
    let laid : IsLaidOut l = c.frame-frame.ensures.laid_out in
    let each : NamesEachOnce (length l.demands) l.inputs = c.orders_name_each_once.ensures (length l.demands) l.inputs laid.inputs in
    let start : c.start-start.result ≡ start_of l.demands c.loop-place.place = c.start-start.ensures ∙ ap (λ (ds : List ℕ). start_of ds c.loop-place.place) c.sums.ensures.value in
    let slots : c.slots.result ≡ 2 ^ l.frame = c.slots.ensures.value ∙ ap (λ (h : ℕ). 2 ^ h) c.frame-frame.ensures.value in
    let bus : c.start-start.result / c.slots.result ≡ start_of l.demands c.loop-place.place / 2 ^ l.frame =
    ap (λ (s : ℕ). s / c.slots.result) start ∙ ap (λ (h : ℕ). start_of l.demands c.loop-place.place / h) slots in
    let offset : c.offset_at.result ≡ reversed l.frame (start_of l.demands c.loop-place.place % 2 ^ l.frame) =
    c.offset_at.ensures ∙ ap (λ (h : ℕ). reversed h (c.start-start.result % 2 ^ h)) c.frame-frame.ensures.value ∙ ap (λ (s : ℕ). reversed l.frame (s % 2 ^ l.frame)) start in
    let below : c.loop-place.place < length l.demands = omega (arith, each.length) in
    record {
      wide_buses = length-set c.loop-place.buses c.input-output.result (c.start-start.result / c.slots.result) ∙ c.loop-place.invariant.wide_buses;
      wide_offsets = length-set c.loop-place.offsets c.input-output.result c.offset_at.result ∙ c.loop-place.invariant.wide_offsets;
      bus = placed_more (length l.demands) l.inputs c.loop-place.buses (λ k. start_of l.demands k / 2 ^ l.frame) c.loop-place.place c.input-output.result
          (c.start-start.result / c.slots.result) each below c.input-output.ensures.value
          (omega (arith, c.input-output.ensures.known, c.len-place-end.ensures.room, c.loop-place.invariant.wide_buses)) bus c.loop-place.invariant.bus;
      offset = placed_more (length l.demands) l.inputs c.loop-place.offsets (λ k. reversed l.frame (start_of l.demands k % 2 ^ l.frame)) c.loop-place.place c.input-output.result
          c.offset_at.result each below c.input-output.ensures.value
          (omega (arith, c.input-output.ensures.known, c.len-place-end.ensures.room, c.loop-place.invariant.wide_offsets)) offset c.loop-place.invariant.offset;
      bus_rest = zeros_more (length l.inputs) c.loop-place.buses c.input-output.result (c.start-start.result / c.slots.result) c.input-output.ensures.known c.loop-place.invariant.bus_rest;
      offset_rest = zeros_more (length l.inputs) c.loop-place.offsets c.input-output.result c.offset_at.result c.input-output.ensures.known c.loop-place.invariant.offset_rest;
    }

pub returns-clause-bus_rest : goal.returns-clause-bus_rest
returns-clause-bus_rest g c =
    kept_from_zeros g.row.N (length c.args.packed.now.inputs) c.loop-place.buses c.loop-place.invariant.wide_buses (omega (arith, c.len-place-end.ensures.value, c.len-place-end.ensures.room)) c.loop-place.invariant.bus_rest

pub returns-clause-offset_rest : goal.returns-clause-offset_rest
returns-clause-offset_rest g c =
    kept_from_zeros g.row.N (length c.args.packed.now.inputs) c.loop-place.offsets c.loop-place.invariant.wide_offsets (omega (arith, c.len-place-end.ensures.value, c.len-place-end.ensures.room)) c.loop-place.invariant.offset_rest

pub frame-frame-requires : goal.frame-frame-requires
frame-frame-requires g c = assumption

pub len-place-end-requires : goal.len-place-end-requires
len-place-end-requires g c = assumption

pub sums-requires : goal.sums-requires
sums-requires g c = (assumption, sums_fit g c.before.before.before.before.before)

below : (k l e p : ℕ) → k < l → e ≡ l → e ≤ p → k < p
below k l e p inside same all = omega arith

pub loop-place-smaller : goal.loop-place-smaller
loop-place-smaller g c = falls c.len-place-end.result c.loop-place.place c.loop-place-test.true

pub returns-clause-bus : goal.returns-clause-bus
returns-clause-bus g c k inside = c.loop-place.invariant.bus k (below _ _ _ _ inside c.len-place-end.ensures.value c.loop-place-test.false)

pub returns-clause-offset : goal.returns-clause-offset
returns-clause-offset g c k inside = c.loop-place.invariant.offset k (below _ _ _ _ inside c.len-place-end.ensures.value c.loop-place-test.false)
