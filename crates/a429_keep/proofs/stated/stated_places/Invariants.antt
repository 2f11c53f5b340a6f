use Rattle.std.proofs.Common.{◌≡◌, ◌≤◌, drop, length, map}
use Rattle.a429_slots.specs.Tables.{outputs_of}
use Rattle.a429_keep.specs.Following.{AreSetByLines, rest_lines}
use Rattle.a429_keep.proofs.stated.stated_places.Given as goal

abbrev pub invariant-loop-line : goal.invariant-loop-line
invariant-loop-line l = record {
  first : l.first ≤ length l.rows;
  set : AreSetByLines l.version l.sources l.rows (rest_lines l.fn.lines) (map (λ o. o.place) (outputs_of l.table)) l._line l.places.items;
  rest : rest_lines l.lines ≡ drop l._line (rest_lines l.fn.lines);
}
