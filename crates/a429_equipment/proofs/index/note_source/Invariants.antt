use Rattle.std.proofs.Common.{◌≡◌, ℕ, ◌<◌, length, ltb, cond}
use Rattle.a429_equipment.specs.Index.{entry_at, given_at}
use Rattle.a429_equipment.proofs.index.note_source.Given as goal

abbrev pub invariant-loop-sdi : goal.invariant-loop-sdi
invariant-loop-sdi l =
    (length l.places.items ≡ length l.initial.places.items)
    × ((r label k : ℕ) → label < 256 → k < 4 → entry_at l.places.items r label k ≡ cond (ltb k l.sdi) (given_at l.initial.places.items l.number l.source r label k) (entry_at l.initial.places.items r label k))
