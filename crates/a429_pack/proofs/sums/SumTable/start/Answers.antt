use Rattle.std.proofs.Common.{List, ℕ, ap, ◌∙◌}
use Rattle.a429_pack.specs.Sums.{start_of}
use Rattle.a429_pack.proofs.Tables.{start_kept}
use Rattle.a429_pack.proofs.sums.SumTable.start.Goals as goal

pub returns : goal.returns
returns g c =
    start_kept g.row.N c.self.inside.demands c.self.inside.starts c.self.inside.count c.self.inside.total c.args.i c.self.invariant c.if-prove.false
    ∙ ap (λ (ds : List ℕ). start_of ds c.args.i) c.self.view_is
