use Rattle.std.proofs.Common.{rules}
use Rattle.a429_station.proofs.Joined.{each_zipped}
use Rattle.a429_station.proofs.threads.join_workers.Goals as goal

pub returns-in-Ok : goal.returns-in-Ok
returns-in-Ok g c = each_zipped _ (λ p. p.0.value) g.W.Work.did (λ p r k. k) c.args.handles.items c.in-Ok.done.items (search rules) (search rules)
