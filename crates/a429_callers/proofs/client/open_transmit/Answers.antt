use Rattle.std.proofs.Common.{rules, ◌≡◌, subst}
use Rattle.std.specs.Prelude.{IfSome}
use Rattle.a429_board.specs.Lists.{Watched, beginner}
use Rattle.a429_workers.specs.Transmitting.{BeginsWith}
use Rattle.a429_callers.proofs.OneRuns.{some_of_ok}
use Rattle.a429_callers.proofs.client.open_transmit.Goals as goal

pub returns-clause-begins : goal.returns-clause-begins
returns-clause-begins c =
    let same : c.in_ok-watcher.watcher ≡ beginner c.args.planner.now = search rules in
    let begins = some_of_ok (BeginsWith c.args.transmitter c.in_ok-watcher.watcher 0) c.open.result c.ok.result c.ok.ensures.value c.open.ensures.stands in
    subst (λ (w : Watched). IfSome c.ok.result (BeginsWith c.args.transmitter w 0)) same begins
