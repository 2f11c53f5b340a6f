use Rattle.std.proofs.Common.{◌∙◌, ◌++◌, ap, append_assoc, List}
use Rattle.std.specs.List.{flat_map}
use Rattle.a429_text.specs.Fields.{Field}
use Rattle.a429_console.specs.Names.{group_name}
use Rattle.a429_arguments.specs.Texts.{texts_of}
use Rattle.a429_recordings.specs.JudgedPlans.{foreign_in, foreign_rows, output_events, outputs_at}
use Rattle.a429_recordings.proofs.judge.events.add_group.Goals as goal

pub returns : goal.returns
returns c =
    let j = c.args.judging.now in
    let g = c.args.group in
    let events = flat_map (output_events j.proposal.now (texts_of j.tolerances.now) j.judge.now.noted g) (outputs_at j.proposal.now g) in
    let foreign = foreign_rows (group_name j.proposal.now.station g) (foreign_in j.proposal.now (texts_of j.tolerances.now) j.judge.now.noted g) in
    c.in_ok-add_foreign_of.ensures ∙ (ap (λ (rows : List (List Field)). rows ++ foreign) c.in_ok-add_outputs.ensures ∙ append_assoc c.args.rows.now events foreign)
