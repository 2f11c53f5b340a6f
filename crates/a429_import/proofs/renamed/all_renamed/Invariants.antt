use Rattle.std.proofs.Common.{◌≡◌, map, take}
use Rattle.a429_import.specs.IndexedRows.{IsIndexed}
use Rattle.a429_import.specs.Renamed.{renamed}
use Rattle.a429_import.proofs.renamed.all_renamed.Given as goal

abbrev pub invariant-loop-row : goal.invariant-loop-row
invariant-loop-row l = record {
  known : IsIndexed l.renamed;
  rows : l.renamed.rows.items ≡ map (renamed l.known.rows.items) (take l.row-index l.known.rows.items);
}
