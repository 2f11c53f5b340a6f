use Rattle.std.proofs.Common.{◌≡◌, ◌-◌, ◌*◌, ◌<◌, ◌/◌, ◌%◌, ◌^◌, ℕ, length, get_or}
use Rattle.a429_slots.specs.Cached.{IsCellOf}
use Rattle.a429_slots.proofs.senders.cached.mark.Given as goal

abbrev pub invariant-loop-slot : goal.invariant-loop-slot
invariant-loop-slot l = record {
  many : length l.cells.items ≡ l.fn.slots * 16;
  period : l.period ≡ 2 ^ l.fn.place.period;
  on : l.slot % 2 ^ l.fn.place.period ≡ l.fn.place.offset;
  marked : (i : ℕ) → i / 16 < l.slot → IsCellOf l.fn.place (i % 16) (i / 16) → get_or l.cells.items i 0 ≡ l.fn.byte;
  others : (i : ℕ) → (IsCellOf l.fn.place (i % 16) (i / 16) → ⊥) → get_or l.cells.items i 0 ≡ get_or l.fn.cells.items i 0;
}

abbrev pub decreases-loop-slot : goal.decreases-loop-slot
decreases-loop-slot l = l.fn.slots - l.slot
