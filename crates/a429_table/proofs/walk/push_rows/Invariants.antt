use Rattle.std.proofs.Common.{◌≡◌, ◌++◌, map, drop}
use Rattle.toml.specs.View.{view}
use Rattle.a429_table.specs.Stops.{stop_view}
use Rattle.a429_table.specs.Walk.{numbered, numbered_from}
use Rattle.a429_table.proofs.walk.push_rows.Given as goal

abbrev pub invariant-loop-row : goal.invariant-loop-row
invariant-loop-row l =
    map stop_view l.stops.items ++ numbered_from l.rows l.row (map view (drop l.row l.values)) ≡ map stop_view l.initial.stops.items ++ numbered l.rows (map view l.values)
