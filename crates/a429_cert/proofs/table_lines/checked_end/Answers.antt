use Rattle.std.proofs.lemmas.Bool.{eqb-true}
use Rattle.std.proofs.Common.{sym, ◌∙◌}
use Rattle.a429_cert.proofs.Groups.{end_passes}
use Rattle.a429_cert.proofs.table_lines.checked_end.Goals as goal

pub returns-then-is_empty : goal.returns-then-is_empty
returns-then-is_empty c = end_passes c.args.lines.now.rest.now c.next_line.result.now c.next_line.ensures.line (eqb-true _ _ (sym c.is_empty.ensures ∙ c.if-is_empty.true))
