use Rattle.std.proofs.Common.{◌≡◌, ◌≤◌, ◌∙◌, ap, sym, ◌+◌, take, drop, length, arith}
use Rattle.std.proofs.lemmas.List.{length-take}
use Rattle.std.proofs.lemmas.Grind.{common_steps}
use Rattle.a429_line.specs.Stages.{after_all}
use Rattle.a429_line.specs.declared.found.Symbol.TheVariants.{Hi}
use Rattle.a429_line.specs.declared.stage.Stage.{Stage}
use Rattle.a429_line.proofs.Steps.{due_step, due_some, after_step, due_end, after_end, front_stays}
use Rattle.a429_line.proofs.reader.take_all.Goals as goal

pub loop-symbol-preserved : goal.loop-symbol-preserved
loop-symbol-preserved c =
    let count : c.len-before.result ≡ length c.args.out.now.items = grind (arith, common_steps) in
    let now = c.take-found.ensures.after in
    let fine = c.if-is_err.ensures.negation in
    let pushed = c.push_some.ensures.items in
    let items = rw (fine, c.take-found.ensures.due) at pushed in
    let left = drop (c.loop-symbol.symbol-index + 1) c.args.piece.now in
    record {
      due = rw (items, now) (due_step _ _ _ _ _ _ Hi c.loop-symbol-test.true c.loop-symbol.invariant.due);
      after = ap (λ (st : Stage). after_all st left) now ∙ after_step _ _ _ _ Hi c.loop-symbol-test.true c.loop-symbol.invariant.after;
      front = ap (take c.len-before.result) items ∙ front_stays _ _ _ _ count c.loop-symbol.invariant.front;
    }

pub returns-clause-due : goal.returns-clause-due
returns-clause-due c = due_end _ _ _ _ _ _ (omega arith) c.loop-symbol.invariant.due

pub returns-clause-after : goal.returns-clause-after
returns-clause-after c = after_end _ _ _ _ (omega arith) c.loop-symbol.invariant.after

pub returns-then-is_err-clause-memory : goal.returns-then-is_err-clause-memory
returns-then-is_err-clause-memory c =
    let count : c.len-before.result ≡ length c.args.out.now.items = grind (arith, common_steps) in
    let some = c.push_some.ensures.memory (sym c.if-is_err.ensures.value) in
    let more : length c.args.out.now.items ≤ length c.loop-symbol.out.items = omega (arith, count, ap length c.loop-symbol.invariant.front, length-take c.len-before.result c.loop-symbol.out.items) in
    due_some _ _ _ _ _ _ Hi c.loop-symbol-test.true more (rw c.take-found.ensures.due at some) c.loop-symbol.invariant.due
