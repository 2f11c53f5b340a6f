use Rattle.std.proofs.Common.{◌++◌, ◌∙◌, List, ap, map, sym, take}
use Rattle.std.specs.Prelude.{Option, filter_map, option_map, option_to_list}
use Rattle.std.proofs.lemmas.Option.{slice_get-get_or}
use Rattle.a429_keep.specs.declared.rows.Row.{Row}
use Rattle.a429_keep.specs.Changes.{move_of, move_view}
use Rattle.a429_keep.specs.Rows.{Listed, row_view}
use Rattle.a429_keep.proofs.Viewed.{filter_next}
use Rattle.a429_keep.proofs.changes.moves.Goals as goal

pub loop-row-preserved : goal.loop-row-preserved
loop-row-preserved c =
    let earlier : List Listed = map row_view c.args.earlier.now in
    let f : Row → Option (Listed × Listed) = λ (row : Row). move_of earlier (row_view row) in
    c.in_ok-add_move.ensures
    ∙ ap (λ (ms : List (Listed × Listed)). ms ++ option_to_list (option_map move_view c.move_of.result)) c.loop-row.invariant
    ∙ ap (λ (m : Option (Listed × Listed)). filter_map f (take c.loop-row.row-index c.args.later.now) ++ option_to_list m) c.move_of.ensures
    ∙ sym (filter_next f c.args.later.now c.loop-row.row-index _ (slice_get-get_or _ _ _ c.loop-row-test.true))
