use Rattle.std.proofs.Common.{◌≡◌, drop}
use Rattle.a429_console.specs.Files.{logs_of}
use Rattle.a429_recordings.specs.LogItems.{PassesNone, reading_behind}
use Rattle.a429_recordings.specs.LogViews.{view_of, viewed}
use Rattle.a429_recordings.proofs.LogLines.{AreBefore}
use Rattle.a429_recordings.proofs.logs.keeping.keep_logs.Given as goal

abbrev pub invariant-loop-number : goal.invariant-loop-number
invariant-loop-number g l =
    let k = g.T.WordKeeper in
    let left = logs_of (drop l.number l.logs) in
    record {
      same : k.items l.keeper ≡ k.items l.fn.keeper;
      fixed : k.fixed l.keeper ≡ k.fixed l.fn.keeper;
      items : AreBefore (viewed (view_of l.view) (k.items l.fn.keeper)) l.fn.reading (logs_of l.logs) l.next left (k.kept l.keeper);
      silent : PassesNone l.fn.reading (logs_of l.logs) → (l.warnings.items ≡ l.fn.warnings.items) × PassesNone l.next left;
      next : reading_behind l.fn.reading (logs_of l.logs) ≡ reading_behind l.next left;
    }
