use Rattle.std.proofs.Common.{◌≡◌, length}
use Rattle.a429_console.specs.Files.{logs_of}
use Rattle.a429_recordings.specs.LogItems.{PassesNone, reading_behind}
use Rattle.a429_recordings.specs.LogViews.{view_of, viewed}
use Rattle.a429_recordings.proofs.LogLines.{AreBefore}
use Rattle.a429_recordings.proofs.logs.keeping.freeing.keep_logs_and_free.Given as goal

abbrev pub invariant-loop-alloc : goal.invariant-loop-alloc
invariant-loop-alloc g l =
    let k = g.T.WordKeeper in
    let left = logs_of l.left.items in
    record {
      same : k.items l.keeper ≡ k.items l.fn.keeper;
      fixed : k.fixed l.keeper ≡ k.fixed l.fn.keeper;
      items : AreBefore (viewed (view_of l.view) (k.items l.fn.keeper)) l.fn.reading (logs_of l.fn.logs.items) l.next left (k.kept l.keeper);
      silent : PassesNone l.fn.reading (logs_of l.fn.logs.items) → (l.warnings.items ≡ l.fn.warnings.items) × PassesNone l.next left;
      next : reading_behind l.fn.reading (logs_of l.fn.logs.items) ≡ reading_behind l.next left;
    }

abbrev pub decreases-loop-alloc : goal.decreases-loop-alloc
decreases-loop-alloc g l = length l.left.items
