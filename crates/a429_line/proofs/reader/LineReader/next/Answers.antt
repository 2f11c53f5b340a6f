use Rattle.std.proofs.Common.{◌∙◌, ◌++◌, List, ap, sym, subst, slice_range}
use Rattle.a429_line.specs.LineBytes.{symbols_of}
use Rattle.a429_line.specs.Reports.{reports}
use Rattle.a429_line.specs.KeptLines.{StandsForLine}
use Rattle.a429_line.specs.declared.found.Found.{Found}
use Rattle.a429_line.proofs.Steps.{stands_more, reports_of}
use Rattle.a429_line.proofs.reader.LineReader.next.Goals as goal

pub returns-clause-stands : goal.returns-clause-stands
returns-clause-stands c = λ x S.
    let taken = symbols_of (slice_range c.args.bytes.now c.args.from.now c.next_found-found.result.1) in
    let now = subst (StandsForLine x) (sym c.self.view_is) S in
    subst (StandsForLine (x ++ taken)) c.next_found-found.ensures.takes.after (stands_more x taken c.self.inside.stage now)

pub returns-clause-reports : goal.returns-clause-reports
returns-clause-reports c = λ x S.
    let taken = symbols_of (slice_range c.args.bytes.now c.args.from.now c.next_found-found.result.1) in
    let now = subst (StandsForLine x) (sym c.self.view_is) S in
    reports_of x taken c.self.inside.stage now ∙ ap (λ (r : List Found). reports x ++ r) c.next_found-found.ensures.takes.due
