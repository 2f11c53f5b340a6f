use Rattle.std.proofs.Common.{◌≡◌, Some, map, take}
use Rattle.toml.specs.View.{view}
use Rattle.a429_table.specs.Stated.{filter_row}
use Rattle.a429_table.proofs.build.filter_list.Given as goal

abbrev pub invariant-loop-text : goal.invariant-loop-text
invariant-loop-text l = l.filters ≡ Some (map filter_row (map view (take l.text-index l.texts)))
