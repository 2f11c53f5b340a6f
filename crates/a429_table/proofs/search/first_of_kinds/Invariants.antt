use Rattle.std.proofs.Common.{◌≡◌, drop, map}
use Rattle.std.specs.List.{flat_map}
use Rattle.a429_table.specs.Faults.{first}
use Rattle.a429_table.specs.Repeats.{found, is_found}
use Rattle.a429_table.specs.Stops.{stop_view, table_of}
use Rattle.a429_table.proofs.search.first_of_kinds.Given as goal

abbrev pub invariant-loop-kind : goal.invariant-loop-kind
invariant-loop-kind l =
    let found_in = flat_map (found (is_found l.repeats (table_of l.index)) (map stop_view l.stops)) in
    first (found_in l.kinds) ≡ first (found_in (drop l.kind-index l.kinds))
