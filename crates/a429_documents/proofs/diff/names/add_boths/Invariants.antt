use Rattle.std.proofs.Common.{◌≡◌, ◌++◌, take}
use Rattle.std.specs.List.{flat_map}
use Rattle.a429_documents.specs.Diff.{of_both}
use Rattle.a429_documents.proofs.diff.names.add_boths.Given as goal

abbrev pub invariant-loop-item : goal.invariant-loop-item
invariant-loop-item g l =
    l.rows
    ≡ l.fn.rows
    ++ flat_map (of_both g.T.Named.name_of g.T.Named.subject_of (g.T.Named.change_of l.a.receivers l.b.receivers) l.second) (take l.item-index l.first)
