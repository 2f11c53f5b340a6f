use Rattle.std.proofs.Common.{◌≡◌, ◌∙◌, List, length, ap, arith}
use Rattle.a429_arguments.specs.Texts.{texts_of}
use Rattle.a429_judge.specs.Recordings.{duty_at, group_at}
use Rattle.a429_judge.specs.declared.duties.Duty.{Duty}
use Rattle.a429_recordings.specs.JudgedPlans.{duties_of}
use Rattle.a429_judge.specs.Judgements.{found_at}
use Rattle.a429_recordings.proofs.NotedBoxes.{group_listed, output_listed, outputs_listed}
use Rattle.a429_recordings.proofs.judge.judging.Judging.found.Goals as goal

pub found-requires : goal.found-requires
found-requires c =
    let s = c.args.self.now in
    let q = s.proposal.now in
    let given = texts_of s.tolerances.now in
    let g = c.args.group in
    let here : group_at s.judge.now.duties g ≡ duties_of q given g = ap (λ (ds : List (List Duty)). group_at ds g) s.duties ∙ group_listed q given g c.requires.known.1 in
    omega (arith, ap (λ (ds : List Duty). length ds) here, outputs_listed q given g, c.requires.output)

pub returns-in-Ok : goal.returns-in-Ok
returns-in-Ok c =
    let s = c.args.self.now in
    let q = s.proposal.now in
    let given = texts_of s.tolerances.now in
    let g = c.args.group in
    let here : group_at s.judge.now.duties g ≡ duties_of q given g = ap (λ (ds : List (List Duty)). group_at ds g) s.duties ∙ group_listed q given g c.requires.known.1 in
    let o = c.args.output in
    rw here at c.in-Ok.ensures.found ∙ ap (λ (d : Duty). found_at (duties_of q given g) d s.judge.now.noted) (output_listed q given g o c.requires.output)
