use Rattle.std.proofs.Common.{◌≡◌, subst, sym}
use Rattle.a429_console.specs.RefusalText.{OrMemory}
use Rattle.a429_console.specs.declared.refusals.CommandRefusal.{CommandRefusal}
use Rattle.a429_console.specs.declared.refusals.CommandRefusal.TheVariants.{Memory}
use Rattle.a429_console.proofs.Refused.{matched_both}
use Rattle.a429_given.specs.GivenPlans.{IsNoGivenPlan}
use Rattle.a429_given.specs.GivenTables.{table_texts}
use Rattle.a429_replay.specs.Opened.{IsOpened, IsOpenedFrom}
use Rattle.a429_replay.proofs.station.ReplayStation.open.Goals as goal

pub returns : goal.returns
returns c =
    let table = table_texts c.args.table.now in
    let q = c.in_ok-proposal.proposal in
    matched_both c.of.result (IsOpened q) (IsOpenedFrom table) (λ (e : CommandRefusal). e ≡ Memory) (OrMemory (IsNoGivenPlan table))
    (λ s is. (q, c.in_ok-proposal.ensures.given, is)) (λ e is. subst (OrMemory (IsNoGivenPlan table)) (sym is) tt) c.of.ensures
