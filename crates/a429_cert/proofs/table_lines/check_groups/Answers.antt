use Rattle.std.proofs.Common.{◌≡◌, ◌∙◌, arith, rules, length}
use Rattle.std.proofs.lemmas.Result.{err_from_is_err_and}
use Rattle.a429_cert.specs.Lines.{lines_of}
use Rattle.a429_cert.proofs.Groups.{due_more, due_within, groups_on, groups_end, stops_along}
use Rattle.a429_cert.proofs.table_lines.check_groups.Goals as goal

pub check_group-requires-clause-fits : goal.check_group-requires-clause-fits
check_group-requires-clause-fits c =
    let within = due_within c.args.groups.now c.loop-group.group-index c.group-item.result c.loop-group-test.true c.group-item.is in
    omega (arith, within, c.requires.head, c.requires.fits, c.loop-group.invariant.number_is)

pub returns-in_err-check_group : goal.returns-in_err-check_group
returns-in_err-check_group c =
    let p = err_from_is_err_and c.from_residual.result c.from_residual.ensures.1 in
    rw (p.1, p.2) (stops_along _ _ c.in_err-check_group.field-0.0 c.loop-group.invariant.answer
    (groups_end c.args.version c.args.groups.now c.loop-group.group-index c.loop-group.number c.group-item.result (lines_of c.loop-group.lines.rest.now) c.in_err-check_group.field-0.0 c.loop-group-test.true c.group-item.is c.in_err-check_group.ensures.answer))

pub overflow_add-number-in-loop-group : goal.overflow_add-number-in-loop-group
overflow_add-number-in-loop-group c =
    let within = due_within c.args.groups.now c.loop-group.group-index c.group-item.result c.loop-group-test.true c.group-item.is in
    omega (arith, within, c.requires.head, c.requires.fits, c.loop-group.invariant.number_is, c.len.ensures)

pub loop-group-preserved : goal.loop-group-preserved
loop-group-preserved c =
    let more = due_more c.args.groups.now c.loop-group.group-index c.group-item.result c.loop-group-test.true c.group-item.is in
    let on = groups_on c.args.version c.args.groups.now c.loop-group.group-index c.loop-group.number c.group-item.result (lines_of c.loop-group.lines.rest.now) c.loop-group-test.true c.group-item.is c.in_ok-check_group.ensures.answer in
    let count : c.len.result ≡ length c.group-item.result.outputs.items = search rules in
    record {
      number_is = omega (arith, more, c.loop-group.invariant.number_is, count);
      answer = rw (count, c.in_ok-check_group.ensures.rest) (c.loop-group.invariant.answer ∙ on);
    }
