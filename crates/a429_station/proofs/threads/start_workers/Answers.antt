use Rattle.std.proofs.Common.{rules, length, refl, sym}
use Rattle.std.specs.Vec.Iter.{into_iter_items}
use Rattle.std.proofs.lemmas.List.{nil_from_length}
use Rattle.a429_station.proofs.Numbered.{all_taken, has_room, pushed_count, pushed_mapped, room_left}
use Rattle.a429_station.proofs.threads.start_workers.Goals as goal

pub put-requires : goal.put-requires
put-requires g c = record { room = has_room _ _ _ _ c.loop-worker.invariant.room c.in-Some.ensures.steps.1 }

pub loop-worker-preserved : goal.loop-worker-preserved
loop-worker-preserved g c =
    let was = c.loop-worker.invariant in
    let xs = c.loop-worker.handles.items in
    let ys = c.put.new.list.items in
    let grown = c.put.ensures.items in
    record {
      started = pushed_mapped (λ h. h.promise.0.value) xs ys _ _ _ _ _ grown (search rules) c.in-Some.ensures.steps.0 was.started;
      room = room_left _ _ _ _ _ _ was.room c.in-Some.ensures.steps.1 (sym (pushed_count xs ys (length xs) _ grown refl)) c.put.ensures.capacity;
    }

pub returns : goal.returns
returns g c = all_taken _ _ _ (nil_from_length (into_iter_items c.loop-worker.worker-iterator) (search rules)) c.loop-worker.invariant.started
