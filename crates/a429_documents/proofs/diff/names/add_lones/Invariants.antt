use Rattle.std.proofs.Common.{◌≡◌, ◌++◌, take}
use Rattle.std.specs.List.{flat_map}
use Rattle.a429_documents.specs.Diff.{lone_rows}
use Rattle.a429_documents.proofs.diff.names.add_lones.Given as goal

abbrev pub invariant-loop-item : goal.invariant-loop-item
invariant-loop-item g l = l.rows ≡ l.fn.rows ++ flat_map (lone_rows l.change g.T.Named.name_of g.T.Named.subject_of l.others) (take l.item-index l.list)
