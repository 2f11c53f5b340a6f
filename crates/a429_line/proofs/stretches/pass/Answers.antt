use Rattle.std.proofs.Common.{sym, subst, []}
use Rattle.a429_line.specs.Stretches.{Takes}
use Rattle.a429_line.specs.declared.stage.Stage.{Stage}
use Rattle.a429_line.specs.declared.stage.Stage.TheVariants.{Within}
use Rattle.a429_line.proofs.Passed.{takes_none, takes_then}
use Rattle.a429_line.proofs.stretches.pass.Goals as goal

pub returns-in-Some : goal.returns-in-Some
returns-in-Some c =
    let s = Within 32 c.in-Some.raw in
    let gap = c.take_gap-at.ensures in
    let run = c.in-Some.ensures c.take_gap-at.result.1 c.if-nulls-ge-GAP.true in
    let whole = takes_then _ _ _ _ _ _ _ _ _ (takes_then _ _ _ _ _ _ _ _ _ gap run) (c.take_line_feed.ensures s) in
    subst (λ (before : Stage). Takes c.args.bytes.now c.args.from before [] c.take_line_feed.result s) (sym c.in-Between.is) whole

pub returns-in-Reported : goal.returns-in-Reported
returns-in-Reported c = takes_none _ _ _ c.requires
