use Rattle.std.proofs.Common.{◌+◌, ◌*◌, sym, ◌∙◌, arith}
use Rattle.a429_survey.proofs.LineFigures.{read_figures}
use Rattle.a429_survey.proofs.Pairs.{found_figures, gap_figures}
use Rattle.a429_survey.proofs.lines.Line.at.Goals as goal

pub returns-in-Ok : goal.returns-in-Ok
returns-in-Ok c =
    let found = rw (c.from.ensures, c.from-2.ensures) at c.in-Ok.ensures.found in
    read_figures _ c.self.inside.all c.index.result.now.figures c.self.inside.pairs.items (4 * c.args.label + c.args.sdi) c.args.self.now c.self.view_is (omega arith)
    (found_figures c.self.inside.pairs.items c.deref.result.now (4 * c.args.label + c.args.sdi) c.in-Ok.index c.index.result.now c.deref.ensures.value c.self.invariant found c.index.ensures)

pub returns-in-Err : goal.returns-in-Err
returns-in-Err c =
    let gap = rw (c.from.ensures, c.from-2.ensures) at c.in-Err.ensures.absent in
    read_figures _ c.self.inside.all c.none.result c.self.inside.pairs.items (4 * c.args.label + c.args.sdi) c.args.self.now c.self.view_is (omega arith)
    (c.none.ensures ∙ sym (gap_figures c.self.inside.pairs.items c.deref.result.now (4 * c.args.label + c.args.sdi) c.in-Err.field-0 c.deref.ensures.value gap))
