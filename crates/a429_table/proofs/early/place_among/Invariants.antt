use Rattle.std.proofs.Common.{◌≡◌, drop, map}
use Rattle.toml.specs.View.{view}
use Rattle.a429_table.specs.Early.{is_sought}
use Rattle.a429_table.specs.Walk.{numbered, numbered_from}
use Rattle.a429_table.proofs.EarlyFaults.{place_in}
use Rattle.a429_table.proofs.early.place_among.Given as goal

abbrev pub invariant-loop-row : goal.invariant-loop-row
invariant-loop-row l =
    let test = is_sought l.version l.sought in
    place_in test (numbered l.rows (map view l.values)) ≡ place_in test (numbered_from l.rows l.row (map view (drop l.row l.values)))
