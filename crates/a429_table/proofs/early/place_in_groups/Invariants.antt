use Rattle.std.proofs.Common.{◌≡◌, drop, map}
use Rattle.std.specs.List.{enumerate_from, flat_map}
use Rattle.toml.specs.View.{view}
use Rattle.a429_table.specs.Early.{is_sought}
use Rattle.a429_table.specs.Walk.{group_stops, stops_of_groups}
use Rattle.a429_table.proofs.EarlyFaults.{place_in}
use Rattle.a429_table.proofs.early.place_in_groups.Given as goal

abbrev pub invariant-loop-number : goal.invariant-loop-number
invariant-loop-number l =
    let test = is_sought l.version l.sought in
    place_in test (stops_of_groups (map view l.groups)) ≡ place_in test (flat_map group_stops (enumerate_from l.number (map view (drop l.number l.groups))))
