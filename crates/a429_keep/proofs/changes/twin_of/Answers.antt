use Rattle.std.proofs.Common.{◌∙◌, ap, sym}
use Rattle.std.specs.Prelude.{option_map}
use Rattle.a429_keep.specs.Changes.{is_same_output}
use Rattle.a429_keep.specs.Rows.{row_view}
use Rattle.a429_keep.proofs.Viewed.{find_viewed}
use Rattle.a429_keep.proofs.changes.twin_of.Goals as goal

pub returns : goal.returns
returns c =
    ap (option_map row_view) c.first_twin.ensures
    ∙ sym (find_viewed (is_same_output (row_view c.args.row.now)) row_view c.args.rows.now)
