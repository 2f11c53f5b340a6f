use Rattle.std.proofs.Common.{rules, arith, ◌≡◌, ◌∙◌, ◌<◌, ◌+◌, ℕ, ap, length, refl, subst, sym}
use Rattle.std.specs.List.{AllByRecursion}
use Rattle.std.specs.Vec.Iter.{into_iter_items}
use Rattle.std.proofs.lemmas.List.{nil_from_length}
use Rattle.a429_slots.specs.Tables.{groups_of}
use Rattle.a429_board.specs.Lists.{Watched, beginner}
use Rattle.a429_workers.specs.Transmitting.{Transmitting, BeginsWith}
use Rattle.a429_station.specs.Resubmitting.{HasFewSlots}
use Rattle.a429_station.specs.Working.{IsReady}
use Rattle.a429_station.proofs.Numbered.{all_but_last, all_last, all_taken, both_less, has_room, inside_of, numbered_pushed, one_less_by, pushed_count, pushed_mapped, room_left}
use Rattle.a429_station.proofs.running.groups.Goals as goal

pub transmitter-requires : goal.transmitter-requires
transmitter-requires g c =
    let was = c.loop-sink.invariant in
    let first = c.args.station.now.planner in
    let count : length c.loop-sink.workers.items ≡ c.len-number.result = omega (arith, c.len-number.ensures) in
    let inside = inside_of _ _ _ _ _ was.left c.in-Some.ensures.steps.1 c.requires.sinks in
    let listed = inside_of _ _ _ _ _ was.left c.in-Some.ensures.steps.1 c.requires.planned in
    let begins = all_last (λ (w : Watched). w ≡ beginner first) c.pop.new.self.items c.in-Some-pop.watcher (subst (AllByRecursion (λ (w : Watched). w ≡ beginner first)) c.in-Some-pop.ensures.items was.watchers) in
    record {
      hub = was.desk ∙ c.requires.hub;
      group = omega (arith, count, inside);
      earlier = subst (λ (n : ℕ). AllByRecursion (λ y. y < n) c.loop-sink.desk.transmitters) count was.given;
      planned = subst (λ (w : Watched). c.len-number.result < length (groups_of w.opened)) (sym begins) (omega (arith, count, listed));
      small = subst (λ (w : Watched). HasFewSlots w.opened) (sym begins) c.requires.small;
    }

pub group_worker-requires : goal.group_worker-requires
group_worker-requires g c = c.in-Ok-transmitter.ensures.begins.1

pub put-requires : goal.put-requires
put-requires g c = record { room = has_room _ _ _ _ c.loop-sink.invariant.room c.in-Some.ensures.steps.1 }

pub loop-sink-preserved : goal.loop-sink-preserved
loop-sink-preserved g c =
    let was = c.loop-sink.invariant in
    let hub = c.args.hub.now in
    let first = c.args.station.now.planner in
    let number = c.len-number.result in
    let xs = c.loop-sink.workers.items in
    let ys = c.put.new.list.items in
    let count : length xs ≡ number = omega (arith, c.len-number.ensures) in
    let grown = c.put.ensures.items in
    let next : length ys ≡ length xs + 1 = sym (pushed_count xs ys (length xs) _ grown refl) in
    let made = c.group_worker.ensures.group in
    let one = c.in-Ok-transmitter.ensures in
    let mine = subst (AllByRecursion (λ (w : Watched). w ≡ beginner first)) c.in-Some-pop.ensures.items was.watchers in
    let inside = inside_of _ _ _ _ _ was.left c.in-Some.ensures.steps.1 c.requires.sinks in
    let ready : IsReady hub first number c.group_worker.result.transmit = record {
      inside = omega (arith, count, inside);
      transmitter = ap (λ (t : Transmitting). t.transmitter) made.0 ∙ one.transmitter;
      watcher = ap (λ (t : Transmitting). t.watcher) made.0 ∙ (one.watcher ∙ all_last (λ (w : Watched). w ≡ beginner first) c.pop.new.self.items c.in-Some-pop.watcher mine);
      begins = subst (λ (v : Transmitting). BeginsWith v.transmitter v.watcher 0 v) (sym made.0) one.begins.0;
    } in
    record {
      sinks = pushed_mapped (λ w. w.sink) xs ys _ _ _ _ _ grown made.1 c.in-Some.ensures.steps.0 was.sinks;
      left = one_less_by _ _ _ _ _ was.left c.in-Some.ensures.steps.1 next;
      room = room_left _ _ _ _ _ _ was.room c.in-Some.ensures.steps.1 next c.put.ensures.capacity;
      enough = both_less _ _ _ _ c.in-Some.ensures.steps.1 c.in-Some-pop.ensures.len was.enough;
      watchers = all_but_last (λ (w : Watched). w ≡ beginner first) c.pop.new.self.items c.in-Some-pop.watcher mine;
      desk = c.transmitter.ensures.desk ∙ was.desk;
      given = subst (λ (n : ℕ). AllByRecursion (λ y. y < n) c.transmitter.new.desk.transmitters) (pushed_count xs ys number _ grown (sym count)) one.given;
      ready = numbered_pushed (λ k w. IsReady hub first k w.transmit × (w.frames ≡ c.args.frames)) xs ys number _ grown (sym count) was.ready (ready, made.2);
      gates = numbered_pushed (λ k w. (w.number ≡ k) × (w.gate.now ≡ c.args.gate.now)) xs ys number _ grown (sym count) was.gates c.group_worker.ensures.gate;
    }

pub returns : goal.returns
returns g c =
    let was = c.loop-sink.invariant in
    record { workers = record { sinks = all_taken _ _ _ (nil_from_length (into_iter_items c.loop-sink.sink-iterator) (search rules)) was.sinks; ready = was.ready; gates = was.gates } }
