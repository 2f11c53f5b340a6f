use Rattle.std.proofs.Common.{rules, tests}
use Rattle.std.proofs.lemmas.Iterator.{YieldsList-from_slice}
use Rattle.std.proofs.lemmas.Iterator.Search.{find_from_yields_List}
use Rattle.a429_table.specs.Repeats.{is_found}
use Rattle.a429_table.proofs.Trees.{find_map}
use Rattle.a429_table.specs.Stops.{stop_view, table_of}
use Rattle.a429_table.proofs.search.first_place.Goals as goal

pub returns : goal.returns
returns c =
    let found = find_from_yields_List (λ s. is_found c.args.repeats.now (table_of c.args.index.now) c.args.kind (stop_view s)) _ _ c.find.result c.find.ensures.ran (YieldsList-from_slice c.args.stops.now cc) (λ x b q k. search (rules, tests)) in
    rw (find_map, ← found, c.in_ok-stop.was)

pub returns-in_err-stop : goal.returns-in_err-stop
returns-in_err-stop c =
    let found = find_from_yields_List (λ s. is_found c.args.repeats.now (table_of c.args.index.now) c.args.kind (stop_view s)) _ _ c.find.result c.find.ensures.ran (YieldsList-from_slice c.args.stops.now cc) (λ x b q k. search (rules, tests)) in
    rw (find_map, ← found, c.from_residual.ensures, c.in_err-stop.was)
