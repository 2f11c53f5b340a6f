use Rattle.std.proofs.Common.{◌≡◌, ◌∷◌, ◌+◌, ◌∙◌, List, ap, drop, map, sym}
use Rattle.std.proofs.lemmas.List.{drop_more}
use Rattle.std.specs.List.{enumerate_from, flat_map}
use Rattle.toml.specs.Data.{Data}
use Rattle.toml.specs.View.{view}
use Rattle.a429_table.specs.Early.{is_sought}
use Rattle.a429_table.specs.Walk.{group_stops}
use Rattle.a429_table.proofs.EarlyFaults.{group_here, group_later, place_in}
use Rattle.a429_table.proofs.early.place_in_groups.Goals as goal

pub returns-then-is_some : goal.returns-then-is_some
returns-then-is_some c =
    let test = is_sought c.args.version c.args.sought in
    let groups = c.args.groups.now in
    let number = c.loop-number.number in
    let group = c.index-groups-number.result in
    let left = drop (number + 1) groups in
    let more : drop number groups ≡ group ∷ left = drop_more groups number group c.loop-number-test.true ∙ ap (λ g. g ∷ left) (sym c.index-groups-number.is) in
    sym (c.loop-number.invariant ∙ (ap (λ gs. place_in test (flat_map group_stops (enumerate_from number (map view gs)))) more
    ∙ group_here test number (view group) (map view left) c.place_in_group-place.result c.place_in_group-place.ensures (sym c.if-is_some.ensures)))

pub loop-number-preserved : goal.loop-number-preserved
loop-number-preserved c =
    let test = is_sought c.args.version c.args.sought in
    let groups = c.args.groups.now in
    let number = c.loop-number.number in
    let group = c.index-groups-number.result in
    let left = drop (number + 1) groups in
    let more : drop number groups ≡ group ∷ left = drop_more groups number group c.loop-number-test.true ∙ ap (λ g. g ∷ left) (sym c.index-groups-number.is) in
    c.loop-number.invariant ∙ (ap (λ gs. place_in test (flat_map group_stops (enumerate_from number (map view gs)))) more
    ∙ group_later test number (view group) (map view left) c.place_in_group-place.result c.place_in_group-place.ensures (sym c.if-is_some.ensures))
