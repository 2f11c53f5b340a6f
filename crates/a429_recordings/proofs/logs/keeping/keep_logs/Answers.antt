use Rattle.std.proofs.Common.{◌≡◌, ◌∙◌, ◌+◌, ◌∷◌, ℕ, List, Vec, Global, ap, drop, subst, sym}
use Rattle.a429_console.specs.Files.{bytes_of, logs_of}
use Rattle.a429_logs.specs.Logs.{joined}
use Rattle.a429_logs.specs.declared.reading.Reading.{Reading}
use Rattle.a429_recordings.specs.LogItems.{PassesNone, reading_behind}
use Rattle.a429_recordings.specs.LogViews.{view_of, viewed}
use Rattle.a429_recordings.proofs.LogLines.{before_fault, before_more, logs_left}
use Rattle.a429_recordings.proofs.logs.keeping.keep_logs.Goals as goal

pub returns-in-Err-clause-kept : goal.returns-in-Err-clause-kept
returns-in-Err-clause-kept g c =
    let k = g.T.WordKeeper in
    let f = viewed (view_of c.args.view) (k.items c.args.keeper.now) in
    let logs = c.args.logs.now in
    let now = c.loop-number in
    let text = joined (bytes_of c.deref-in-loop-number.result.now) in
    let left = logs_of (drop (now.number + 1) logs) in
    let here : logs_of (drop now.number logs) ≡ text ∷ left = logs_left logs now.number c.index-logs-number.result text c.loop-number-test.true c.index-logs-number.is (ap (λ (ps : List (Vec ℕ Global)). joined (bytes_of ps)) c.deref-in-loop-number.ensures.value) in
    before_fault f c.args.reading (logs_of logs) now.next text left (k.kept now.keeper) c.in-Err.refusal
    (rw here at now.invariant.items) (rw now.invariant.same at c.in-Err.ensures.kept)

pub loop-number-preserved : goal.loop-number-preserved
loop-number-preserved g c =
    let k = g.T.WordKeeper in
    let f = viewed (view_of c.args.view) (k.items c.args.keeper.now) in
    let logs = c.args.logs.now in
    let now = c.loop-number in
    let end = c.in-Ok.end in
    let text = joined (bytes_of c.deref-in-loop-number.result.now) in
    let left = logs_of (drop (now.number + 1) logs) in
    let here : logs_of (drop now.number logs) ≡ text ∷ left = logs_left logs now.number c.index-logs-number.result text c.loop-number-test.true c.index-logs-number.is (ap (λ (ps : List (Vec ℕ Global)). joined (bytes_of ps)) c.deref-in-loop-number.ensures.value) in
    let kept = rw now.invariant.same at c.in-Ok.ensures.kept in
    record {
      same = c.in-Ok.ensures.same ∙ now.invariant.same;
      fixed = c.in-Ok.ensures.fixed ∙ now.invariant.fixed;
      items = before_more f c.args.reading (logs_of logs) now.next end.next text left (k.kept now.keeper) (k.kept c.keep_log.new.keeper) (rw here at now.invariant.items) kept;
      silent = λ none.
          let before = now.invariant.silent none in
          let these : PassesNone now.next (text ∷ left) = subst (PassesNone now.next) here before.1 in (
            c.note_passed.ensures (c.in-Ok.ensures.titles ∙ these.0) (c.in-Ok.ensures.tail ∙ these.1) ∙ before.0,
            subst (λ (r : Reading). PassesNone r left) (sym kept.0) these.2,
          );
      next = now.invariant.next ∙ ap (reading_behind now.next) here ∙ ap (λ (r : Reading). reading_behind r left) (sym kept.0);
    }
