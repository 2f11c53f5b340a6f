use borrow.Author.Rules.{scaled_Fits}
use Rattle.std.proofs.Common.{◌*◌, ◌^◌, ◌≡◌, ◌<◌, ◌∙◌, ℕ, ap, arith, get_or, length, subst, sym}
use Rattle.std.specs.List.{range_with_len}
use Rattle.std.proofs.lemmas.Bool.{leb-true, le-leb}
use Rattle.std.proofs.lemmas.List.FromFn.{length-range_with_len}
use Rattle.std.proofs.lemmas.List.Sorted.{length_permutation}
use Rattle.a429_slots.specs.declared.group_plan.GroupPlan.TheInside.{Inside}
use Rattle.a429_slots.specs.Columns.{AreColumns, table_in}
use Rattle.a429_slots.specs.Kept.{IsTable, begin_of, end_of}
use Rattle.a429_slots.specs.Tables.{SlotTable}
use Rattle.a429_slots.specs.Laid.{nothing_laid}
use Rattle.a429_slots.specs.declared.group_plan.LaidOutput.{LaidOutput}
use Rattle.a429_slots.proofs.Columns.{laid_kept}
use Rattle.a429_slots.proofs.Stretches.{length-stretches, stretch_end}
use Rattle.a429_slots.proofs.group_plan.GroupPlan.has_cell.Goals as goal
use Rattle.a429_slots.proofs.group_plan.GroupPlan.has_cell.Goals.{Start}

long_order : (n : ℕ) (t : SlotTable) → IsTable n t → length t.order ≡ length t.outputs
long_order n t w = length_permutation (range_with_len 0 (length t.outputs)) t.order w.order ∙ length-range_with_len 0 (length t.outputs)

-- the table that contracts see
sound : (n : ℕ) (p : Inside n) (t : SlotTable) → AreColumns n p → table_in p ≡ t → IsTable n t
sound n p t kept is = subst (IsTable n) is kept.table

pub bounds-self-inside-place : goal.bounds-self-inside-place
bounds-self-inside-place g c =
    let w : IsTable g.row.N c.args.self.now = sound g.row.N c.self.inside c.args.self.now c.self.invariant c.self.view_is in
    omega (arith, c.requires.0, length-stretches c.args.self.now, long_order g.row.N c.args.self.now w, w.room)

-- the array takes less than half of the addresses, as the table that it is a part of
room : (g : _) → Start g → g.row.N * 16 < 2 ^ 63
room g c = omega arith

pub offset_bounds-self-inside-place : goal.offset_bounds-self-inside-place
offset_bounds-self-inside-place g c = scaled_Fits _ g.row.N _ (bounds-self-inside-place g c) (room g c.before)

pub returns : goal.returns
returns g c =
    let t : SlotTable = c.args.self.now in
    let w : IsTable g.row.N t = sound g.row.N c.self.inside t c.self.invariant c.self.view_is in
    let long : length t.order ≡ length t.outputs = long_order g.row.N t w in
    let below : c.args.place < length t.order = omega (arith, c.requires.0, length-stretches t) in
    let begin : (get_or c.self.inside.laid c.args.place nothing_laid).begin ≡ begin_of t (get_or t.order c.args.place 0) =
    ap (λ (x : LaidOutput). x.begin) (laid_kept c.self.inside c.self.invariant c.args.place (subst (λ (u : SlotTable). c.args.place < length u.order) (sym c.self.view_is) below))
    ∙ ap (λ (u : SlotTable). begin_of u (get_or u.order c.args.place 0)) c.self.view_is in
    let end : c.args.cell < end_of t (get_or t.order c.args.place 0) = omega (arith, c.requires.2, stretch_end t w.follow long c.args.place (omega (arith, below, long))) in
    (λ test. (omega (arith, leb-true _ _ test, begin), end), λ both. le-leb _ _ (omega (arith, both.0, begin)))
