use Rattle.a429_console.specs.RefusalText.{OrMemory}
use Rattle.a429_console.specs.Tables.{IsTableRefusal}
use Rattle.a429_replay.proofs.PlayedLines.{both_on_ok, played_refusal}
use Rattle.a429_replay.proofs.further.publish_or_refuse.Goals as goal

pub returns-in-Ok-clause-played : goal.returns-in-Ok-clause-played
returns-in-Ok-clause-played c = λ table is. c.publish_plan.ensures.played table (rw c.in-Ok.is at is)

pub returns-in-Err-clause-played : goal.returns-in-Err-clause-played
returns-in-Err-clause-played c = λ table is.
    let why : OrMemory (IsTableRefusal table) c.in-Err.refusal = rw c.in-Err.is at is in
    both_on_ok c.refuse_table.result (λ other line. played_refusal c.args.view c.args.names.now table c.in-Err.refusal c.args.state.now _ _ other why line)
    c.refuse_table.ensures.other c.refuse_table.ensures.line
