use Rattle.std.proofs.Common.{◌≡◌, ℕ, ◌*◌, ◌<◌, length, drop}
use Rattle.std.specs.List.{position_from}
use Rattle.std.specs.Option.{option_or}
use Rattle.a429_equipment.specs.Index.{entry_at, has_words}
use Rattle.a429_equipment.proofs.index.Index.of.Given as goal

abbrev pub invariant-loop-number : goal.invariant-loop-number
invariant-loop-number l =
    (length l.places.items ≡ 1024 * length l.receivers)
    × ((r label k : ℕ) → r < length l.receivers → label < 256 → k < 4
    → option_or (entry_at l.places.items r label k) (position_from (has_words r label k) l.number (drop l.number l.sources)) ≡ position_from (has_words r label k) 0 l.sources)
