use Rattle.a429_console.specs.RefusalText.{OrMemory}
use Rattle.a429_console.specs.Tables.{IsProposedBy, IsTableRefusal}
use Rattle.a429_replay.proofs.Taken.{no_cause, of_station}
use Rattle.a429_replay.proofs.further.cause_at.Goals as goal

pub returns-in-Err : goal.returns-in-Err
returns-in-Err c = λ table is taken.
    let why : OrMemory (IsTableRefusal table) c.in-Err.refusal = rw c.in-Err.is at is in
    c.of.ensures (rw c.refusal.ensures (no_cause c.plans_are_unique.ensures.either c.args.station.now table c.in-Err.refusal taken why))

pub returns-in-Ok : goal.returns-in-Ok
returns-in-Ok c = λ table is taken.
    let of : IsProposedBy table c.in-Ok.proposal = rw c.in-Ok.is at is in
    c.cause_of_proposal.ensures (of_station c.args.station.now table c.in-Ok.proposal.station taken of.0)
