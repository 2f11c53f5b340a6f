use Rattle.std.proofs.Common.{rules}
use Rattle.toml.specs.View.{table_view}
use Rattle.a429_import.proofs.PrintedTables.{head_is}
use Rattle.a429_import.proofs.tables.head_table.Goals as goal

pub returns : goal.returns
returns c =
    head_is c.args.known.now (table_view c.put_number.new.table) (table_view c.put_empty.new.table) (table_view c.put_empty-2.new.table) (table_view c.put_empty-3.new.table)
    c.count.result c.count-2.result c.group_count.result c.requires (search rules) c.count.ensures c.count-2.ensures c.group_count.ensures c.in_ok-put_empty.ensures c.in_ok-put_empty-2.ensures c.in_ok-put_empty-3.ensures
