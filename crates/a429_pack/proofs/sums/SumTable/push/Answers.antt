use Rattle.std.proofs.Common.{◌≡◌, ◌<◌, length, take, arith, ap}
use Rattle.a429_pack.specs.Kept.{length-kept}
use Rattle.a429_pack.proofs.Tables.{kept_more}
use Rattle.a429_pack.proofs.sums.SumTable.push.Goals as goal

pub invariant_of-self : goal.invariant_of-self
invariant_of-self g c =
    let t = c.self.inside in
    let long : length (take t.count t.demands) ≡ t.count = length-kept 0 g.row.N t.demands t.count c.self.invariant.room c.self.invariant.demands in
    let room : t.count < g.row.N = omega (arith, long, ap length c.self.view_is, c.requires.room) in
    kept_more g.row.N t.demands t.starts t.count t.total c.args.demand c.self.invariant room c.self.told c.requires.some
