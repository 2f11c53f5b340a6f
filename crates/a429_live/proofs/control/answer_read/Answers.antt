use Rattle.std.proofs.Common.{subst, sym}
use Rattle.std.specs.Prelude.{IfOk}
use Rattle.a429_live.specs.Resubmitted.{IsAnswer}
use Rattle.a429_station.specs.Resubmitting.{Running}
use Rattle.a429_live.proofs.control.answer_read.Goals as goal

pub returns-in-Err-clause-answer : goal.returns-in-Err-clause-answer
returns-in-Err-clause-answer g c =
    let table = c.args.table.now in
    subst (λ (v : Running). IfOk c.answer_of_fault.result (λ a. IsAnswer c.args.station.now table a v)) (sym c.in-Err.ensures.unchanged)
    (c.answer_of_fault.ensures c.args.station.now table c.requires.read c.in-Err.ensures.fault)
