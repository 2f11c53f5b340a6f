use Rattle.std.proofs.Common.{◌≡◌, length}
use Rattle.a429_console.specs.Files.{bytes_of}
use Rattle.a429_logs.specs.Logs.{joined}
use Rattle.a429_recordings.specs.LogItems.{PiecesEnd, whole_log}
use Rattle.a429_recordings.specs.LogViews.{view_of, viewed}
use Rattle.a429_recordings.proofs.logs.keeping.freeing.keep_and_free.Given as goal

abbrev pub invariant-loop-end : goal.invariant-loop-end
invariant-loop-end g l =
    let k = g.T.WordKeeper in
    record {
      same : k.items l.keeper ≡ k.items l.fn.keeper;
      fixed : k.fixed l.keeper ≡ k.fixed l.fn.keeper;
      read :
          PiecesEnd (viewed (view_of l.view) (k.items l.fn.keeper)) (whole_log l.fn.log.reading (joined (bytes_of l.fn.pieces.items))) l.left.items
          (k.kept l.fn.keeper) (k.kept l.keeper) l.end;
    }

abbrev pub decreases-loop-end : goal.decreases-loop-end
decreases-loop-end g l = length l.left.items
