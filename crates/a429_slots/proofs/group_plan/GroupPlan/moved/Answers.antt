use prog.Memory.{size}
use denote.Param.{layout, number, param}
use Rattle.a429_pack.specs.contracts.sums.SumTable.{the_row}
use Rattle.std.proofs.Common.{◌≡◌, ◌∙◌, ◌*◌, ◌^◌, ◌<◌, ◌≤◌, ℕ, List, ap, arith, length, map, subst, sym}
use Rattle.std.specs.Prelude.{All}
use Rattle.std.specs.List.{range_with_len}
use Rattle.std.specs.List.Sorted.{IsNonDecreasingBy, IsPermutation}
use Rattle.std.proofs.lemmas.List.{length-map}
use Rattle.a429_grid.specs.Blocks.{HasPeriodicBlocks}
use Rattle.a429_pack.specs.Kept.{padded}
use Rattle.a429_pack.specs.Orders.{NamesEachOnce}
use Rattle.a429_slots.specs.Columns.{AreColumns, table_in}
use Rattle.a429_slots.specs.Kept.{IsTable, steps_from}
use Rattle.a429_slots.specs.Laid.{laid_by, nothing_laid}
use Rattle.a429_slots.specs.declared.group_plan.LaidOutput.{LaidOutput}
use Rattle.a429_slots.specs.Moves.{AreApart, AreInside, HasOverlap, HaveCommonCell, IsInside, IsMoved, blocks_of}
use Rattle.a429_slots.specs.Tables.{Placed, SlotTable}
use Rattle.a429_slots.specs.declared.group_plan.GroupPlan.TheInside.{Inside}
use Rattle.a429_slots.specs.declared.group_plan.SlotPlace.{SlotPlace}
use Rattle.a429_slots.specs.declared.moves.Block.{Block}
use Rattle.a429_slots.proofs.Moved.{AreMoved, AreSorted, are_columns, common_cell, each_end, each_span, is_moved, is_table, many, moved_in}
use Rattle.a429_slots.proofs.group_plan.GroupPlan.moved.Goals as goal
use Rattle.a429_slots.proofs.group_plan.GroupPlan.moved.Goals.{Start}

-- ---- what is known when the blocks are sorted

record AreGiven (n : ℕ) (p : Inside n) (t : SlotTable) (places : List SlotPlace) (blocks : List Block) : Type 0 where
  pub old : AreColumns n p
  pub is : table_in p ≡ t
  pub same_periods : map (λ (q : SlotPlace). q.period) places ≡ map (λ (o : Placed). o.place.period) t.outputs
  pub inside : AreInside t places
  pub all : IsPermutation (blocks_of p.frame places) blocks
  pub rising : IsNonDecreasingBy (λ b. b.begin) blocks
  pub names : (m : ℕ) (order : List ℕ) → IsPermutation (range_with_len 0 m) order → NamesEachOnce m order
  pub periodic : HasPeriodicBlocks p.frame

module _ (n : ℕ) (p : Inside n) (t : SlotTable) (places : List SlotPlace) (blocks : List Block) (G : AreGiven n p t places blocks) where
  periods : map (λ (q : SlotPlace). q.period) places ≡ map (λ (o : Placed). o.place.period) (table_in p).outputs
  periods = G.same_periods ∙ ap (λ (u : SlotTable). map (λ (o : Placed). o.place.period) u.outputs) (sym G.is)

  sorted : AreSorted p.frame places blocks
  sorted = record { moved = G.all; rising = G.rising; names = G.names }

  inside : AreInside (table_in p) places
  inside = subst (λ (u : SlotTable). AreInside u places) (sym G.is) G.inside

  inside_few : All (IsInside p.frame 16) places
  inside_few k d below = let here = inside k d below in (omega (arith, here.0, G.old.table.few), here.1, here.2)

  room : length blocks ≤ n
  room = omega (
    arith,
    many p.frame places blocks sorted,
    length-map places (λ (q : SlotPlace). q.period),
    ap length periods,
    length-map (table_in p).outputs (λ (o : Placed). o.place.period),
    G.old.table.room,
  )

  spans : All (λ b. b.begin < b.end) blocks
  spans = each_span p.frame places blocks sorted G.old.table.frame inside_few

  ends : All (λ b. b.end < 2 ^ 32) blocks
  ends = each_end p.frame places blocks sorted G.old.table.frame inside_few

  shared : HasOverlap blocks → HaveCommonCell places
  shared = common_cell p.frame places blocks sorted G.periodic inside_few

  moved : AreApart blocks → AreMoved n p places blocks
  moved apart = record { old = G.old; periods = periods; inside = inside; sorted = sorted; apart = apart; blocks_periodic = G.periodic }

-- ---- the goals

-- the running sums, and each array, take less than half of the addresses, as the table that they are a part of
sums_fit : (g : _) → Start g → size (layout (the_row (param 0 (number g.row.N)))) < 2 ^ 63
sums_fit g c = omega arith

sixteen : (g : _) → Start g → g.row.N * 16 < 2 ^ 63
sixteen g c = omega arith

pub stretches_of-requires : goal.stretches_of-requires
stretches_of-requires g c =
    let given : AreGiven g.row.N c.self.inside c.args.self.now c.args.places.now c.in-Ok.blocks.items = record {
      old = c.self.invariant;
      is = c.self.view_is;
      same_periods = c.requires.periods;
      inside = c.requires.inside;
      all = c.in-Ok.ensures.all;
      rising = c.in-Ok.ensures.rising;
      names = c.orders_name_each_once.ensures;
      periodic = c.blocks_are_periodic.ensures c.self.inside.frame;
    } in
    let is : c.deref.result.now ≡ c.in-Ok.blocks.items = c.deref.ensures.value in (
      sums_fit g c.before.before.before.before.before.before.before.before,
      (
        subst (λ (bs : List Block). length bs ≤ g.row.N) (sym is) (room _ _ _ _ _ given),
        (
          subst (λ (bs : List Block). All (λ (b : Block). b.begin < b.end) bs) (sym is) (spans _ _ _ _ _ given),
          subst (λ (bs : List Block). All (λ (b : Block). b.end < 2 ^ 32) bs) (sym is) (ends _ _ _ _ _ given),
        ),
      ),
    )

pub returns-in_default-stretches_of-clause-shared : goal.returns-in_default-stretches_of-clause-shared
returns-in_default-stretches_of-clause-shared g c none =
    let given : AreGiven g.row.N c.self.inside c.args.self.now c.args.places.now c.in-Ok.blocks.items = record {
      old = c.self.invariant;
      is = c.self.view_is;
      same_periods = c.requires.periods;
      inside = c.requires.inside;
      all = c.in-Ok.ensures.all;
      rising = c.in-Ok.ensures.rising;
      names = c.orders_name_each_once.ensures;
      periodic = c.blocks_are_periodic.ensures c.self.inside.frame;
    } in
    shared _ _ _ _ _ given (subst HasOverlap c.deref.ensures.value (c.stretches_of.ensures.overlap c.in_default-stretches_of.is))

pub laid_by_blocks-requires : goal.laid_by_blocks-requires
laid_by_blocks-requires g c =
    let given : AreGiven g.row.N c.self.inside c.args.self.now c.args.places.now c.in-Ok.blocks.items = record {
      old = c.self.invariant;
      is = c.self.view_is;
      same_periods = c.requires.periods;
      inside = c.requires.inside;
      all = c.in-Ok.ensures.all;
      rising = c.in-Ok.ensures.rising;
      names = c.orders_name_each_once.ensures;
      periodic = c.blocks_are_periodic.ensures c.self.inside.frame;
    } in (
      sixteen g c.before.before.before.before.before.before.before.before.before.before.before.before.before,
      subst (λ (bs : List Block). length bs ≤ g.row.N) (sym c.deref-2.ensures.value) (room _ _ _ _ _ given),
    )

-- the columns are those of the places
parts : {n : ℕ} (p : Inside n) (places : List SlotPlace) (blocks : List Block) (sums : List ℕ) (laid : List LaidOutput) (on_bus offsets : List ℕ) → sums ≡ steps_from 0 (map (λ (b : Block). b.end) blocks)
    → laid ≡ padded nothing_laid n (map laid_by blocks) → on_bus ≡ padded 0 n (map (λ (q : SlotPlace). q.bus) places) → offsets ≡ padded 0 n (map (λ (q : SlotPlace). q.offset) places)
    → moved_in p places blocks ≡ record p { sums = sums; laid = laid; on_bus = on_bus; offsets = offsets }
parts p places blocks sums laid on_bus offsets a b c d = λ i. record p { sums = sym a i; laid = sym b i; on_bus = sym c i; offsets = sym d i }

pub invariant_of-result : goal.invariant_of-result
invariant_of-result g c =
    let given : AreGiven g.row.N c.self.inside c.args.self.now c.args.places.now c.in-Ok.blocks.items = record {
      old = c.self.invariant;
      is = c.self.view_is;
      same_periods = c.requires.periods;
      inside = c.requires.inside;
      all = c.in-Ok.ensures.all;
      rising = c.in-Ok.ensures.rising;
      names = c.orders_name_each_once.ensures;
      periodic = c.blocks_are_periodic.ensures c.self.inside.frame;
    } in
    subst (AreColumns g.row.N) (parts c.self.inside c.args.places.now c.in-Ok.blocks.items c.in-Some.sums c.laid_by_blocks.result c.buses_in.result c.offsets_in.result
    (c.in-Some.ensures.stretches ∙ ap (λ (bs : List Block). steps_from 0 (map (λ (b : Block). b.end) bs)) c.deref.ensures.value)
    (c.laid_by_blocks.ensures ∙ ap (λ (bs : List Block). padded nothing_laid g.row.N (map laid_by bs)) c.deref-2.ensures.value) c.buses_in.ensures c.offsets_in.ensures) (are_columns _ _ _ _ (moved _ _ _ _ _ given (subst AreApart c.deref.ensures.value c.in-Some.ensures.apart)))

pub returns-clause-moved : goal.returns-clause-moved
returns-clause-moved g c =
    let given : AreGiven g.row.N c.self.inside c.args.self.now c.args.places.now c.in-Ok.blocks.items = record {
      old = c.self.invariant;
      is = c.self.view_is;
      same_periods = c.requires.periods;
      inside = c.requires.inside;
      all = c.in-Ok.ensures.all;
      rising = c.in-Ok.ensures.rising;
      names = c.orders_name_each_once.ensures;
      periodic = c.blocks_are_periodic.ensures c.self.inside.frame;
    } in
    subst (λ (p : Inside g.row.N). IsMoved c.args.self.now (table_in p) c.args.places.now) (parts c.self.inside c.args.places.now c.in-Ok.blocks.items c.in-Some.sums c.laid_by_blocks.result c.buses_in.result c.offsets_in.result
    (c.in-Some.ensures.stretches ∙ ap (λ (bs : List Block). steps_from 0 (map (λ (b : Block). b.end) bs)) c.deref.ensures.value)
    (c.laid_by_blocks.ensures ∙ ap (λ (bs : List Block). padded nothing_laid g.row.N (map laid_by bs)) c.deref-2.ensures.value) c.buses_in.ensures c.offsets_in.ensures)
    (subst (λ (t : SlotTable). IsMoved t (table_in (moved_in c.self.inside c.args.places.now c.in-Ok.blocks.items)) c.args.places.now) c.self.view_is
    (is_moved _ _ _ _ (moved _ _ _ _ _ given (subst AreApart c.deref.ensures.value c.in-Some.ensures.apart))))

pub returns-clause-sound : goal.returns-clause-sound
returns-clause-sound g c =
    let given : AreGiven g.row.N c.self.inside c.args.self.now c.args.places.now c.in-Ok.blocks.items = record {
      old = c.self.invariant;
      is = c.self.view_is;
      same_periods = c.requires.periods;
      inside = c.requires.inside;
      all = c.in-Ok.ensures.all;
      rising = c.in-Ok.ensures.rising;
      names = c.orders_name_each_once.ensures;
      periodic = c.blocks_are_periodic.ensures c.self.inside.frame;
    } in
    subst (λ (p : Inside g.row.N). IsTable g.row.N (table_in p)) (parts c.self.inside c.args.places.now c.in-Ok.blocks.items c.in-Some.sums c.laid_by_blocks.result c.buses_in.result c.offsets_in.result
    (c.in-Some.ensures.stretches ∙ ap (λ (bs : List Block). steps_from 0 (map (λ (b : Block). b.end) bs)) c.deref.ensures.value)
    (c.laid_by_blocks.ensures ∙ ap (λ (bs : List Block). padded nothing_laid g.row.N (map laid_by bs)) c.deref-2.ensures.value) c.buses_in.ensures c.offsets_in.ensures)
    (is_table _ _ _ _ (moved _ _ _ _ _ given (subst AreApart c.deref.ensures.value c.in-Some.ensures.apart)))
