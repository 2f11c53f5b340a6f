use Rattle.std.proofs.Common.{◌∙◌, ap}
use Rattle.std.specs.Prelude.{◌||◌, Bool}
use Rattle.a429_arguments.specs.Texts.{texts_of}
use Rattle.a429_recordings.specs.JudgedPlans.{is_found_in, judged_group}
use Rattle.a429_recordings.proofs.JudgedRows.{found_more}
use Rattle.a429_recordings.proofs.SummedUp.{groups_more}
use Rattle.a429_recordings.proofs.judge.rows.add_groups.Goals as goal

pub loop-group-preserved : goal.loop-group-preserved
loop-group-preserved c =
    let j = c.args.judging.now in
    let found = is_found_in j.proposal.now (texts_of j.tolerances.now) j.judge.now.noted in
    record {
      rows = groups_more (judged_group j.proposal.now (texts_of j.tolerances.now) j.judge.now.noted) c.args.rows.now c.loop-group.rows c.add_group.new.rows c.loop-group.group c.loop-group.invariant.rows c.in_ok-more.ensures.rows;
      found = found_more found c.loop-group.group c.loop-group.found c.either-found.result c.loop-group.invariant.found (c.either-found.ensures ∙ ap (λ (b : Bool). c.loop-group.found || b) c.in_ok-more.ensures.found);
    }
