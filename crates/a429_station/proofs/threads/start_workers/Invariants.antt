use Rattle.std.specs.Prelude.{◌≡◌, ◌≤◌, ◌+◌, ◌++◌, length, map, vec_capacity}
use Rattle.std.specs.Vec.Iter.{into_iter_items, into_iter_len}
use Rattle.a429_station.proofs.threads.start_workers.Given as goal

abbrev pub invariant-loop-worker : goal.invariant-loop-worker
invariant-loop-worker g l = record {
  started : map (λ h. h.promise.0.value) l.handles.items ++ into_iter_items l.worker-iterator ≡ l.fn.workers.items;
  room : length l.handles.items + into_iter_len l.worker-iterator ≤ vec_capacity l.handles;
}
