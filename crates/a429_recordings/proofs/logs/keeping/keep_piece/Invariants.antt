use Rattle.std.proofs.Common.{◌≡◌, ◌≤◌, length}
use Rattle.a429_console.specs.Lines.{entries_before}
use Rattle.a429_logs.specs.LogsLeft.{entries_left, next_of, pieces_of, reading_left, tail_left, titles_now}
use Rattle.a429_recordings.specs.LogItems.{items_from}
use Rattle.a429_recordings.specs.LogViews.{view_of, viewed}
use Rattle.a429_recordings.proofs.logs.keeping.keep_piece.Given as goal

abbrev pub invariant-loop-entry : goal.invariant-loop-entry
invariant-loop-entry g l =
    let k = g.T.WordKeeper in
    let f = viewed (view_of l.view) (k.items l.fn.keeper) in
    record {
      same : k.items l.keeper ≡ k.items l.fn.keeper;
      fixed : k.fixed l.keeper ≡ k.fixed l.fn.keeper;
      read :
          entries_before (k.kept l.fn.keeper) (items_from f (entries_left l.fn.reader))
          ≡ entries_before (k.kept l.keeper) (items_from f (entries_left l.reader));
      after : reading_left l.reader ≡ reading_left l.fn.reader;
      titles : titles_now l.reader ≡ titles_now l.fn.reader;
      tail : tail_left l.reader ≡ tail_left l.fn.reader;
      pieces : pieces_of l.reader ≡ pieces_of l.fn.reader;
      more : next_of l.fn.reader ≤ next_of l.reader;
    }

abbrev pub decreases-loop-entry : goal.decreases-loop-entry
decreases-loop-entry g l = length (entries_left l.reader)
