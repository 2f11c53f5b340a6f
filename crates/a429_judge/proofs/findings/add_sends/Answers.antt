use Rattle.a429_judge.specs.Judging.{send_findings}
use Rattle.a429_judge.proofs.Firsts.{range_items}
use Rattle.a429_judge.proofs.findings.add_sends.Goals as goal

pub loop-place-preserved : goal.loop-place-preserved
loop-place-preserved c =
    range_items (send_findings c.args.facts.now c.args.span.now c.args.accepted.now c.args.sends.now) c.loop-place.place c.args.found.now c.loop-place.found c.add_send.new.found c.loop-place.invariant c.add_send.ensures
