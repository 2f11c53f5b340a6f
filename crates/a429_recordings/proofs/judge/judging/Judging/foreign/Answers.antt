use Rattle.std.proofs.Common.{◌≡◌, ◌∙◌, List, length, ap, arith}
use Rattle.a429_arguments.specs.Texts.{texts_of}
use Rattle.a429_judge.specs.Recordings.{group_at}
use Rattle.a429_judge.specs.declared.duties.Duty.{Duty}
use Rattle.a429_recordings.specs.JudgedPlans.{duties_of}
use Rattle.a429_recordings.proofs.NotedBoxes.{group_listed, groups_listed}
use Rattle.a429_recordings.proofs.judge.judging.Judging.foreign.Goals as goal

pub foreign-requires : goal.foreign-requires
foreign-requires c =
    let s = c.args.self.now in
    let q = s.proposal.now in
    let given = texts_of s.tolerances.now in
    omega (arith, ap (λ (ds : List (List Duty)). length ds) s.duties, groups_listed q given, c.requires.1)

pub returns : goal.returns
returns c =
    let s = c.args.self.now in
    let q = s.proposal.now in
    let given = texts_of s.tolerances.now in
    let g = c.args.group in
    let here : group_at s.judge.now.duties g ≡ duties_of q given g = ap (λ (ds : List (List Duty)). group_at ds g) s.duties ∙ group_listed q given g c.requires.1 in
    rw here at c.foreign.ensures
