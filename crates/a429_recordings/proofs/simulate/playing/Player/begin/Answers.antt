use Rattle.std.proofs.Common.{refl, subst, sym}
use Rattle.a429_recordings.specs.SimulationRuns.{BeginsMoment}
use Rattle.a429_recordings.specs.declared.simulate.moments.Moment.{Moment}
use Rattle.a429_recordings.proofs.simulate.playing.Player.begin.Goals as goal

pub returns-in-Word-clause-begun : goal.returns-in-Word-clause-begun
returns-in-Word-clause-begun c =
    let p = c.args.self.now in
    subst (λ (m : Moment). BeginsMoment c.args.proposal.now m p (record p { run = c.arrive.new.self }) c.arrive.result) (sym c.in-Word.is) (c.arrive.ensures.step c.args.proposal.now, refl, refl)

pub returns-in-Word-clause-known : goal.returns-in-Word-clause-known
returns-in-Word-clause-known c = c.arrive.ensures.known c.args.proposal.now
