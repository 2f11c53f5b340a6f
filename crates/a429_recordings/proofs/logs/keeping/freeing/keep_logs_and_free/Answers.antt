use Rattle.std.proofs.Common.{◌≡◌, ◌∙◌, ◌<◌, ◌∷◌, List, Vec, ℕ, Global, ap, drop, length, refl, rules, subst, sym}
use Rattle.a429_console.specs.Files.{bytes_of, logs_of}
use Rattle.a429_logs.specs.Logs.{joined}
use Rattle.a429_logs.specs.declared.reading.Reading.{Reading}
use Rattle.a429_recordings.specs.LogItems.{PassesNone, reading_behind}
use Rattle.a429_recordings.specs.LogViews.{view_of, viewed}
use Rattle.a429_recordings.proofs.LogLines.{before_fault, before_more, logs_left}
use Rattle.a429_recordings.proofs.logs.keeping.freeing.keep_logs_and_free.Goals as goal

pub returns-in-Err-clause-kept : goal.returns-in-Err-clause-kept
returns-in-Err-clause-kept g c =
    let k = g.T.WordKeeper in
    let f = viewed (view_of c.args.view) (k.items c.args.keeper.now) in
    let now = c.loop-alloc in
    let text = joined (bytes_of c.remove-pieces.result.items) in
    let rest = c.remove-pieces.new.self.items in
    let later : rest ≡ drop 1 now.left.items = c.remove-pieces.ensures.by_index.2 in
    let some : 0 < length now.left.items = search rules in
    let here : logs_of now.left.items ≡ text ∷ logs_of rest =
    logs_left now.left.items 0 c.remove-pieces.result text some c.remove-pieces.ensures.value refl
    ∙ ap (λ (logs : List (Vec (Vec ℕ Global) Global)). text ∷ logs_of logs) (sym later) in
    before_fault f c.args.reading (logs_of c.args.logs.items) now.next text (logs_of rest) (k.kept now.keeper) c.in-Err.refusal
    (rw here at now.invariant.items) (rw now.invariant.same at c.in-Err.ensures.kept)

pub loop-alloc-preserved : goal.loop-alloc-preserved
loop-alloc-preserved g c =
    let k = g.T.WordKeeper in
    let f = viewed (view_of c.args.view) (k.items c.args.keeper.now) in
    let now = c.loop-alloc in
    let end = c.in-Ok.end in
    let text = joined (bytes_of c.remove-pieces.result.items) in
    let rest = c.remove-pieces.new.self.items in
    let later : rest ≡ drop 1 now.left.items = c.remove-pieces.ensures.by_index.2 in
    let some : 0 < length now.left.items = search rules in
    let here : logs_of now.left.items ≡ text ∷ logs_of rest =
    logs_left now.left.items 0 c.remove-pieces.result text some c.remove-pieces.ensures.value refl
    ∙ ap (λ (logs : List (Vec (Vec ℕ Global) Global)). text ∷ logs_of logs) (sym later) in
    let kept = rw now.invariant.same at c.in-Ok.ensures.kept in
    record {
      same = c.in-Ok.ensures.same ∙ now.invariant.same;
      fixed = c.in-Ok.ensures.fixed ∙ now.invariant.fixed;
      items = before_more f c.args.reading (logs_of c.args.logs.items) now.next end.next text (logs_of rest) (k.kept now.keeper) (k.kept c.keep_and_free.new.keeper) (rw here at now.invariant.items) kept;
      silent = λ none.
          let before = now.invariant.silent none in
          let these : PassesNone now.next (text ∷ logs_of rest) = subst (PassesNone now.next) here before.1 in (
            c.note_passed.ensures (c.in-Ok.ensures.titles ∙ these.0) (c.in-Ok.ensures.tail ∙ these.1) ∙ before.0,
            subst (λ (r : Reading). PassesNone r (logs_of rest)) (sym kept.0) these.2,
          );
      next = now.invariant.next ∙ ap (reading_behind now.next) here ∙ ap (λ (r : Reading). reading_behind r (logs_of rest)) (sym kept.0);
    }
