use Rattle.std.proofs.Common.{◌≡◌, ◌++◌}
use Rattle.std.specs.Vec.Iter.{into_iter_items}
use Rattle.a429_console.specs.Files.{bytes_of}
use Rattle.a429_replay.proofs.further.further_tables.Given as goal

abbrev pub invariant-loop-bytes : goal.invariant-loop-bytes
invariant-loop-bytes l = record {
  made : l.further.items ≡ bytes_of l.yielded;
  whole : l.fn.tables.items ≡ l.yielded ++ into_iter_items l.bytes-iterator;
}
