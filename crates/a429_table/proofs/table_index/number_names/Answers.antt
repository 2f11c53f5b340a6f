use Rattle.std.proofs.lemmas.List.{drop_more}
use Rattle.a429_table.proofs.NameNumbers.{option_or-cond}
use Rattle.a429_table.proofs.table_index.number_names.Goals as goal

pub loop-row-preserved : goal.loop-row-preserved
loop-row-preserved c = λ q.
    rw (c.in_ok-number_name.ensures, c.text_at.ensures, option_or-cond)
    (rw (drop_more c.args.tables.now c.loop-row.row c.index-tables-row.result c.loop-row-test.true, ← c.index-tables-row.is) at (c.loop-row.invariant q))
