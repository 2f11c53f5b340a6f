use Rattle.std.proofs.Common.{◌≡◌, map, take}
use Rattle.std.specs.Prelude.{filter_map}
use Rattle.a429_keep.specs.Changes.{move_of, move_view}
use Rattle.a429_keep.specs.Rows.{row_view}
use Rattle.a429_keep.specs.declared.rows.Row.{Row}
use Rattle.a429_keep.proofs.changes.moves.Given as goal

abbrev pub invariant-loop-row : goal.invariant-loop-row
invariant-loop-row l =
    map move_view l.moved.items ≡ filter_map (λ (row : Row). move_of (map row_view l.earlier) (row_view row)) (take l.row-index l.later)
