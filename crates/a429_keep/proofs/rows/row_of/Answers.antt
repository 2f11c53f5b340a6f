use Rattle.std.proofs.Common.{◌∙◌, ap, sym}
use Rattle.std.specs.Prelude.{option_map}
use Rattle.a429_keep.specs.Rows.{is_row, row_view}
use Rattle.a429_keep.proofs.Viewed.{find_viewed}
use Rattle.a429_keep.proofs.rows.row_of.Goals as goal

pub returns : goal.returns
returns c =
    ap (option_map row_view) c.first_row.ensures
    ∙ sym (find_viewed (is_row c.args.group.now c.args.source.now c.args.period) row_view c.args.rows.now)
