use Rattle.std.proofs.Common.{◌≡◌, ◌+◌, length}
use Rattle.a429_judge.specs.Keeping.{AreEmpty}
use Rattle.a429_judge.proofs.groups.add_lists.Given as goal

abbrev pub invariant-loop : goal.invariant-loop
invariant-loop l = record {
  count : length l.lists.items ≡ length l.fn.lists.items + l.counter;
  empty : AreEmpty l.lists.items;
}
