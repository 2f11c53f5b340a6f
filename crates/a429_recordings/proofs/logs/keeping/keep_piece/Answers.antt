use Rattle.std.proofs.Common.{◌≡◌, ◌∙◌, ◌∷◌, List, ap}
use Rattle.std.specs.Prelude.{None, Result}
use Rattle.a429_console.specs.Lines.{entries_before}
use Rattle.a429_logs.specs.LogRows.{stated_by}
use Rattle.a429_logs.specs.Logs.{WordAt}
use Rattle.a429_logs.specs.LogsLeft.{entries_left, entry_of}
use Rattle.a429_logs.specs.declared.reader.LogFault.{LogFault}
use Rattle.a429_logs.specs.declared.reader.LogWord.{LogWord}
use Rattle.a429_recordings.specs.LogItems.{items_from}
use Rattle.a429_recordings.specs.LogViews.{view_of, viewed}
use Rattle.a429_recordings.proofs.LogLines.{refuses_line, refuses_word}
use Rattle.a429_recordings.proofs.logs.keeping.keep_piece.Goals as goal

pub returns-in-Err-Line-clause-kept : goal.returns-in-Err-Line-clause-kept
returns-in-Err-Line-clause-kept g c =
    let k = g.T.WordKeeper in
    let f = viewed (view_of c.args.view) (k.items c.args.keeper.now) in
    let now = c.loop-entry in
    let w = c.in-Ok.entry in
    let left = entries_left c.next_here.new.self in
    let taken = c.in-Some.ensures.taken ∙ ap (λ (e : Result LogWord LogFault). entry_of e ∷ left) c.in-Ok.is in
    let before = now.invariant.read ∙ ap (λ (es : List (Result WordAt LogFault)). entries_before (k.kept now.keeper) (items_from f es)) taken in
    let none : viewed (view_of c.args.view) (k.items now.keeper) (stated_by w.word) ≡ None =
    rw c.in-Err-Line.field-0-is at c.in-Err-Line.ensures.kept in
    refuses_word f (entries_left c.args.reader.now) (k.kept c.args.keeper.now) (k.kept now.keeper)
    (record { line = w.line; word = stated_by w.word }) left c.refuse_line-in-Err-Line.result before
    (rw now.invariant.same at none) c.refuse_line-in-Err-Line.ensures
