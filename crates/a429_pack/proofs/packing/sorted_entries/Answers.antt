use Rattle.std.proofs.Common.{List, subst}
use Rattle.std.specs.List.Sorted.{IsPermutation}
use Rattle.a429_pack.specs.declared.entry.Entry.{Entry}
use Rattle.a429_pack.proofs.Ordered.{in_order}
use Rattle.a429_pack.proofs.packing.sorted_entries.Goals as goal

pub returns : goal.returns
returns c =
    in_order c.args.demands.now c.sort_unstable.new.self.items c.in_ok-sorted.ensures.fit
    (subst (λ (xs : List Entry). IsPermutation xs c.sort_unstable.new.self.items) c.in_ok-sorted.ensures.entries c.sort_unstable.ensures.permutation)
    c.sort_unstable.ensures.sorted
