use borrow.Author.Rules.{scaled_Fits}
use prog.Memory.{size}
use denote.Param.{layout, number, param}
use Rattle.a429_pack.specs.contracts.sums.SumTable.{the_row}
use Rattle.std.proofs.Common.{◌≡◌, ◌<◌, ◌≤◌, ◌∙◌, ◌*◌, ◌^◌, ℕ, ap, arith, get_or, length, lt_of_lt_of_le, sym, subst}
use Rattle.std.specs.Prelude.{Some}
use Rattle.std.proofs.Math.Nat.{pow-le-pow_right}
use Rattle.a429_slots.specs.Columns.{table_in}
use Rattle.a429_slots.specs.Tables.{Placed, SlotTable, buses_of, frame_of, placed_at, place_of}
use Rattle.a429_slots.specs.Kept.{StandsJustAt, stretches_of}
use Rattle.a429_slots.proofs.Cells.{stands_just_at}
use Rattle.a429_slots.proofs.Columns.{count_kept, length-table, part_kept, placed_kept}
use Rattle.a429_slots.proofs.group_plan.GroupPlan.place.Goals as goal
use Rattle.a429_slots.proofs.group_plan.GroupPlan.place.Goals.{Start}

pub prove-unreachable-requires : goal.prove-unreachable-requires
prove-unreachable-requires g c =
    omega (arith, count_kept c.self.inside c.args.self.now c.self.view_is, c.requires, c.len.ensures.value, c.if-prove.true, c.number-number.ensures)

-- the running sums, and each array, take less than half of the addresses, as the table that they are a part of
sums_fit : (g : _) → Start g → size (layout (the_row (param 0 (number g.row.N)))) < 2 ^ 63
sums_fit g c = omega arith

pub len-requires : goal.len-requires
len-requires g c = sums_fit g c.before.before.before.before

room : (g : _) → Start g → g.row.N * 4 < 2 ^ 63
room g c = omega arith

start : (g : _) (c : goal.Else-prove g) → Start g
start g c = c.before.before.before.before.before.before

pub bounds-self-inside-number : goal.bounds-self-inside-number
bounds-self-inside-number g c = lt_of_lt_of_le c.if-prove.false c.len.ensures.few

pub offset_bounds-self-inside-number : goal.offset_bounds-self-inside-number
offset_bounds-self-inside-number g c = scaled_Fits _ _ _ (lt_of_lt_of_le c.if-prove.false c.len.ensures.few) (room g (start g c))

pub bounds-self-inside-number-2 : goal.bounds-self-inside-number-2
bounds-self-inside-number-2 g c = lt_of_lt_of_le c.if-prove.false c.len.ensures.few

pub offset_bounds-self-inside-number-2 : goal.offset_bounds-self-inside-number-2
offset_bounds-self-inside-number-2 g c = scaled_Fits _ _ _ (lt_of_lt_of_le c.if-prove.false c.len.ensures.few) (room g (start g c.before))

pub bounds-self-inside-number-3 : goal.bounds-self-inside-number-3
bounds-self-inside-number-3 g c = lt_of_lt_of_le c.if-prove.false c.len.ensures.few

pub offset_bounds-self-inside-number-3 : goal.offset_bounds-self-inside-number-3
offset_bounds-self-inside-number-3 g c = scaled_Fits _ _ _ (lt_of_lt_of_le c.if-prove.false c.len.ensures.few) (room g (start g c.before.before))

pub of_digits-requires : goal.of_digits-requires
of_digits-requires g c =
    let p = c.self.inside in
    let o : ℕ = c.number-number.result in
    let below : o < length p.sums = omega (arith, c.len.ensures.value, c.if-prove.false) in
    let here : (placed_at (table_in p) o).place.period ≡ get_or p.periods o 0 = ap (λ (x : Placed). x.place.period) (placed_kept p o below) in
    omega (arith, here, c.self.invariant.table.within o (omega (arith, length-table p)), c.self.invariant.table.frame)

below : (g : _) (c : goal.After-of_digits g) → c.number-number.result < length c.self.inside.sums
below g c = omega (arith, c.len.ensures.value, c.if-prove.false)

within : (g : _) (c : goal.After-of_digits g) → c.number-number.result < length (table_in c.self.inside).outputs
within g c = omega (arith, below g c, length-table c.self.inside)

pub returns-clause-place : goal.returns-clause-place
returns-clause-place g c =
    let p = c.self.inside in
    let o : ℕ = c.number-number.result in
    subst (λ (n : ℕ). place_of c.args.self.now n ≡ Some (record { bus = get_or p.on_bus o 0; offset = get_or p.offsets o 0; period = c.of_digits.result })) c.number-number.ensures
    (part_kept (λ (x : Placed). x.place) p c.args.self.now o c.self.view_is (below g c)
    ∙ ap (λ (k : ℕ). Some (record { bus = get_or p.on_bus o 0; offset = get_or p.offsets o 0; period = k })) (sym c.of_digits.ensures))

pub returns-clause-cells : goal.returns-clause-cells
returns-clause-cells g c =
    let p = c.self.inside in
    let o : ℕ = c.number-number.result in
    let each = c.orders_name_each_once.ensures (length (table_in p).outputs) (table_in p).order c.self.invariant.table.order in
    subst (λ (n : ℕ). StandsJustAt c.args.self.now n (get_or p.on_bus o 0) (get_or p.offsets o 0) (2 ^ c.of_digits.result)) c.number-number.ensures
    (subst (λ (t : SlotTable). StandsJustAt t o (get_or p.on_bus o 0) (get_or p.offsets o 0) (2 ^ c.of_digits.result)) c.self.view_is
    (subst (λ (k : ℕ). StandsJustAt (table_in p) o (get_or p.on_bus o 0) (get_or p.offsets o 0) (2 ^ k)) (sym c.of_digits.ensures)
    (subst (λ (x : Placed). StandsJustAt (table_in p) o x.place.bus x.place.offset (2 ^ x.place.period)) (placed_kept p o (below g c))
    (stands_just_at g.row.N (table_in p) c.self.invariant.table each (c.stretches_are_apart.ensures.apart (stretches_of (table_in p))) o (within g c)))))

pub returns-clause-bus : goal.returns-clause-bus
returns-clause-bus g c =
    let p = c.self.inside in
    let o : ℕ = c.number-number.result in
    subst (λ (t : SlotTable). get_or p.on_bus o 0 < buses_of t) c.self.view_is
    (subst (λ (x : Placed). x.place.bus < p.buses) (placed_kept p o (below g c)) (c.self.invariant.table.on_bus o (within g c)))

pub returns-clause-frame : goal.returns-clause-frame
returns-clause-frame g c =
    let p = c.self.inside in
    let o : ℕ = c.number-number.result in
    let few : get_or p.periods o 0 ≤ p.frame =
    subst (λ (x : Placed). x.place.period ≤ p.frame) (placed_kept p o (below g c)) (c.self.invariant.table.within o (within g c)) in
    let one : 0 < 2 = omega arith in
    let powers : 2 ^ get_or p.periods o 0 ≤ 2 ^ p.frame = pow-le-pow_right {n = 2} one {i = get_or p.periods o 0} {j = p.frame} few in
    subst (λ (t : SlotTable). 2 ^ c.of_digits.result ≤ frame_of t) c.self.view_is (subst (λ (k : ℕ). 2 ^ k ≤ 2 ^ p.frame) (sym c.of_digits.ensures) powers)
