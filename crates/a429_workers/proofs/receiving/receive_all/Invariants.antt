use Rattle.std.proofs.Common.{◌≡◌}
use Rattle.a429_workers.specs.Gates.{HaveWordsPassed, points_of}
use Rattle.a429_workers.specs.Receives.{Gives, IsSameReceiver}
use Rattle.a429_workers.proofs.Hearing.{SoFar}
use Rattle.a429_workers.proofs.receiving.receive_all.Given as goal

abbrev pub invariant-loop-place : goal.invariant-loop-place
invariant-loop-place g l = record {
  so_far : SoFar (λ words. Gives g.L.LineSource.given g.L.LineSource.left l.fn.line words l.line) (points_of g.G.Gate l.fn.gate) l.fn.number l.fn.receiver l.receiver l.totals l.place;
  failed : g.L.LineSource.failed l.line ≡ g.L.LineSource.failed l.fn.line;
  same : IsSameReceiver l.fn.receiver l.receiver;
  passed : HaveWordsPassed (g.G.Gate.passes l.fn.gate) l.fn.number l.place;
}
