use Rattle.std.proofs.Common.{◌≡◌, drop}
use Rattle.a429_recordings.proofs.logs.keeping.freeing.drop_first.Given as goal

abbrev pub invariant-loop-dropped : goal.invariant-loop-dropped
invariant-loop-dropped l = l.pieces.items ≡ drop l._dropped l.fn.pieces.items
