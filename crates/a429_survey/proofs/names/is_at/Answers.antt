use Rattle.std.specs.Prelude.{string_bytes}
use Rattle.a429_survey.proofs.Places.{named_no, named_past, named_yes}
use Rattle.a429_survey.proofs.names.is_at.Goals as goal

pub returns-then-place-lines-clause-yes : goal.returns-then-place-lines-clause-yes
returns-then-place-lines-clause-yes c =
    named_yes c.args.lines.now c.args.place c.index-lines-place.result (string_bytes c.name.result.now) c.args.name.now c.as_str.result.now c.eq.result
    c.if-place-lines.true c.index-lines-place.is c.name.ensures c.as_str.ensures.value c.eq.ensures

pub returns-then-place-lines-clause-no : goal.returns-then-place-lines-clause-no
returns-then-place-lines-clause-no c =
    named_no c.args.lines.now c.args.place c.index-lines-place.result (string_bytes c.name.result.now) c.args.name.now c.as_str.result.now c.eq.result
    c.if-place-lines.true c.index-lines-place.is c.name.ensures c.as_str.ensures.value c.eq.ensures

pub returns-else-place-lines-clause-no : goal.returns-else-place-lines-clause-no
returns-else-place-lines-clause-no c = λ _. named_past c.args.lines.now c.args.place c.args.name.now c.if-place-lines.false
