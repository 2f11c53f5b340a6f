use Rattle.std.proofs.Common.{arith}
use Rattle.a429_text.specs.Aligned.{column_text}
use Rattle.a429_text.proofs.AlignedRows.{columns_more, row_ends}
use Rattle.a429_text.proofs.aligned.put_row.Goals as goal

pub loop-column-preserved : goal.loop-column-preserved
loop-column-preserved c =
    columns_more (column_text c.args.widths.now c.args.row.now) c.args.text.now c.loop-column.text c.put_column.new.text c.loop-column.column c.loop-column.invariant c.put_column.ensures

pub returns : goal.returns
returns c =
    row_ends c.args.widths.now c.args.row.now c.args.text.now c.loop-column.text c.put.new.self c.loop-column.column (omega (arith, c.len-column-end.ensures))
    c.loop-column.invariant c.put.ensures
