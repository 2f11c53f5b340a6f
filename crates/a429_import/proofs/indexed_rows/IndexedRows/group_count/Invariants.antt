use Rattle.std.proofs.Common.{◌≡◌, take}
use Rattle.std.specs.List.{count_by}
use Rattle.a429_import.specs.declared.firsts.Part.TheVariants.{Groups}
use Rattle.a429_import.specs.ImportTables.{firsts, has_group}
use Rattle.a429_import.proofs.indexed_rows.IndexedRows.group_count.Given as goal

abbrev pub invariant-loop-place : goal.invariant-loop-place
invariant-loop-place l = l.count ≡ count_by has_group (take l.place (firsts Groups l.self.rows.items))
