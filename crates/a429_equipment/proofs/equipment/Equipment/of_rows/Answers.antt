use Rattle.std.proofs.lemmas.List.Elements.{All-from_recursion}
use Rattle.a429_equipment.proofs.equipment.Equipment.of_rows.Goals as goal

pub of-requires-clause-few_receivers : goal.of-requires-clause-few_receivers
of-requires-clause-few_receivers c = rw c.deref.ensures.value c.requires.few_receivers

pub of-requires-clause-few_sources : goal.of-requires-clause-few_sources
of-requires-clause-few_sources c = rw c.deref-2.ensures.value c.requires.few_sources

pub of-requires-clause-known : goal.of-requires-clause-known
of-requires-clause-known c = rw (c.deref-2.ensures.value, c.deref.ensures.value) (All-from_recursion _ _ c.requires.known_receivers)

pub invariant_of-result : goal.invariant_of-result
invariant_of-result c = record {
  sound = c.requires;
  index = rw (c.deref.ensures.value, c.deref-2.ensures.value) at c.in_ok-index.ensures;
}
