use Rattle.std.proofs.Common.{◌∙◌, List, map, sym}
use Rattle.std.specs.Prelude.{not}
use Rattle.a429_keep.specs.Changes.{has_twin, move_of, stays}
use Rattle.a429_keep.specs.Rows.{Listed, row_view}
use Rattle.a429_keep.proofs.Viewed.{count_viewed, filter_viewed}
use Rattle.a429_keep.proofs.changes.changes_between.Goals as goal

pub returns : goal.returns
returns c =
    let earlier : List Listed = map row_view c.args.earlier.now in
    let later : List Listed = map row_view c.args.later.now in
    record {
      stay = c.count_stays.ensures ∙ sym (count_viewed (stays earlier) row_view c.args.later.now);
      added = c.count_new.ensures ∙ sym (count_viewed (λ (r : Listed). not (has_twin earlier r)) row_view c.args.later.now);
      gone = c.count_new-2.ensures ∙ sym (count_viewed (λ (r : Listed). not (has_twin later r)) row_view c.args.earlier.now);
      moved = c.in_ok-moved.ensures ∙ sym (filter_viewed (move_of earlier) row_view c.args.later.now);
    }
