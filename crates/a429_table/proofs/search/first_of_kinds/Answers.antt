use Rattle.std.proofs.Common.{◌∙◌, map, sym}
use Rattle.a429_table.proofs.Firsts.{found_here, found_later}
use Rattle.a429_table.specs.Repeats.{is_found}
use Rattle.a429_table.specs.Stops.{stop_view, table_of}
use Rattle.a429_table.proofs.search.first_of_kinds.Goals as goal

pub loop-kind-preserved : goal.loop-kind-preserved
loop-kind-preserved c =
    c.loop-kind.invariant ∙ found_later (is_found c.args.repeats.now (table_of c.args.index.now)) (map stop_view c.args.stops.now) c.args.kinds.now c.loop-kind.kind-index _ _ c.loop-kind-test.true c.first_place.ensures c.in_default.is

pub returns-in-Some : goal.returns-in-Some
returns-in-Some c =
    sym (c.loop-kind.invariant ∙ found_here (is_found c.args.repeats.now (table_of c.args.index.now)) (map stop_view c.args.stops.now) c.args.kinds.now c.loop-kind.kind-index _ _ _ c.loop-kind-test.true c.first_place.ensures c.in-Some.is)
