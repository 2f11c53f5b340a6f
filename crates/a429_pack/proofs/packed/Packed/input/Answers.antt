use Rattle.std.proofs.Common.{◌≡◌, ◌<◌, ℕ, List, length, take, get_or, arith, ap}
use Rattle.std.proofs.lemmas.List.{get_or-take}
use Rattle.a429_pack.specs.Layout.{Layout}
use Rattle.a429_pack.proofs.Orders.{permuted_below, length_permuted}
use Rattle.a429_pack.proofs.packed.Packed.input.Goals as goal

pub returns-clause-known : goal.returns-clause-known
returns-clause-known g c =
    let p = c.self.inside in
    let is : List ℕ = take (length p.sums) p.inputs in
    let long : length is ≡ length p.sums = length_permuted (length p.sums) is c.self.invariant.1.inputs in
    let here : c.args.k < length p.sums = omega (arith, c.if-prove.false, c.len.ensures.value) in
    let low : get_or is c.args.k 0 < length p.sums = permuted_below (length p.sums) is c.self.invariant.1.inputs c.args.k (omega arith) in
    let same : get_or is c.args.k 0 ≡ get_or p.inputs c.args.k 0 = get_or-take (length p.sums) p.inputs c.args.k 0 here in
    omega (arith, same, low, long, ap (λ (l : Layout). length l.inputs) c.self.view_is)
