use Rattle.a429_survey.proofs.LineMore.{place_small}
use Rattle.a429_survey.proofs.LineFigures.{kept_line, noted_line, on_err}
use Rattle.a429_survey.proofs.lines.Line.note.Goals as goal

pub returns-in_err-note_pair-clause-kept : goal.returns-in_err-note_pair-clause-kept
returns-in_err-note_pair-clause-kept c =
    on_err c.from_residual.result (kept_line _ c.self.inside.all c.self.inside.pairs.items c.note_pair.new.pairs.items c.args.self.now c.self.view_is c.in_err-note_pair.ensures.kept)

pub returns-clause-noted : goal.returns-clause-noted
returns-clause-noted c =
    noted_line c.args.time c.args.raw _ c.self.inside.all c.note.new.self c.self.inside.pairs.items c.note_pair.new.pairs.items c.args.self.now c.self.view_is
    c.note.ensures (place_small c.args.raw) c.in_ok-note_pair.ensures.noted
