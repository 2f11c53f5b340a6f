use Rattle.std.proofs.Common.{refl, sym, subst, ◌++◌}
use Rattle.std.specs.Prelude.{OnErr, Result, Ok, Err}
use Rattle.a429_line.specs.Stages.{due_in}
use Rattle.a429_line.specs.KeptLines.{BringSome, StandsForLine}
use Rattle.a429_line.proofs.Steps.{stands_more, reports_of, some_of}
use Rattle.a429_line.proofs.reader.LineReader.feed.Goals as goal

on_err : {T E : Type 0} (r : Result T E) (P : Type 0) → P → OnErr r P
on_err (Ok x) P p = tt
on_err (Err e) P p = p

pub returns-clause-stands : goal.returns-clause-stands
returns-clause-stands c x S =
    let now = subst (StandsForLine x) (sym c.self.view_is) S in
    subst (StandsForLine (x ++ c.args.piece.now)) (sym c.in_ok-self-inside.ensures.after) (stands_more x c.args.piece.now c.self.inside.stage now)

pub returns-clause-reports : goal.returns-clause-reports
returns-clause-reports c x S =
    let now = subst (StandsForLine x) (sym c.self.view_is) S in
    (due_in c.self.inside.stage c.args.piece.now, c.in_ok-self-inside.ensures.due, reports_of x c.args.piece.now c.self.inside.stage now)

pub returns-in_err-self-inside-clause-memory : goal.returns-in_err-self-inside-clause-memory
returns-in_err-self-inside-clause-memory c =
    let some = c.in_err-self-inside.ensures.memory in
    let brings : BringSome c.args.self.now c.args.piece.now =
    λ x S. some_of x c.args.piece.now c.self.inside.stage (due_in c.self.inside.stage c.args.piece.now) refl some (subst (StandsForLine x) (sym c.self.view_is) S) in
    on_err c.from_residual.result _ brings
