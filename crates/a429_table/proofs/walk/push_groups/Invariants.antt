use Rattle.std.proofs.Common.{◌≡◌, ◌++◌, map, drop}
use Rattle.std.specs.List.{enumerate_from, flat_map}
use Rattle.toml.specs.View.{view}
use Rattle.a429_table.specs.Stops.{stop_view}
use Rattle.a429_table.specs.Walk.{group_stops}
use Rattle.a429_table.proofs.walk.push_groups.Given as goal

abbrev pub invariant-loop-row : goal.invariant-loop-row
invariant-loop-row l =
    map stop_view l.stops.items ++ flat_map group_stops (enumerate_from l.row (map view (drop l.row l.groups)))
    ≡ map stop_view l.initial.stops.items ++ flat_map group_stops (enumerate_from 0 (map view l.groups))
