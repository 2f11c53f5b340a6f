use Rattle.std.proofs.Common.{◌≡◌, ◌≤◌, ◌++◌, List, length, map, vec_len, vec_capacity}
use Rattle.std.specs.Vec.Iter.{into_iter_items}
use Rattle.a429_slots.specs.Events.{Event}
use Rattle.a429_slots.specs.History.{Opening}
use Rattle.a429_slots.specs.Answers.{answers}
use Rattle.a429_core.specs.Happened.{event_of}
use Rattle.a429_core.specs.MachineStates.{StandsForHistory}
use Rattle.a429_core.proofs.state.State.run.Given as goal

abbrev pub invariant-loop-event : goal.invariant-loop-event
invariant-loop-event g l =
    record {
      told : (o : Opening) (E : List Event) → StandsForHistory g.row.C o E l.fn.self → l.answers.items ≡ answers g.row.C o E (map event_of l.yielded);
      stands : (o : Opening) (E : List Event) → StandsForHistory g.row.C o E l.fn.self → StandsForHistory g.row.C o (E ++ map event_of l.yielded) l.self;
      whole : l.fn.events.items ≡ l.yielded ++ into_iter_items l.event-iterator;
      so_far : vec_len l.answers ≡ length l.yielded;
      room : length l.fn.events.items ≤ vec_capacity l.answers;
    }
