use Rattle.std.proofs.Common.{rules, ◌≡◌, ◌∙◌, ◌<◌, ◌+◌, ℕ, ap, arith, length, refl, subst, sym}
use Rattle.std.specs.Prelude.{Err}
use Rattle.std.specs.List.{AllByRecursion}
use Rattle.std.specs.Vec.Iter.{into_iter_items}
use Rattle.std.proofs.lemmas.List.{nil_from_length}
use Rattle.a429_values.specs.declared.desk.HubFault.{HubFault}
use Rattle.a429_values.specs.Ends as ends
use Rattle.a429_station.specs.Course.{fresh}
use Rattle.a429_station.proofs.Numbered.{all_taken, given_more, has_room, inside_of, none_taken, numbered_pushed, one_less_by, pushed_count, pushed_mapped, room_left}
use Rattle.a429_station.proofs.running.receivers.Goals as goal

small : 8 < 9223372036854775808
small = omega arith

pub receiver-requires : goal.receiver-requires
receiver-requires g c =
    let count : length c.loop-line.workers.items ≡ c.len-number.result = omega (arith, c.len-number.ensures) in
    let inside = inside_of _ _ _ _ _ c.loop-line.invariant.left c.in-Some.ensures.steps.1 c.requires.sources in
    (small, (c.loop-line.invariant.desk ∙ c.requires.hub, omega (arith, count, inside)))

pub unreachable-requires : goal.unreachable-requires
unreachable-requires g c =
    let count : length c.loop-line.workers.items ≡ c.len-number.result = omega (arith, c.len-number.ensures) in
    none_taken c.len-number.result c.loop-line.desk.receivers (subst (λ (n : ℕ). AllByRecursion (λ y. y < n) c.loop-line.desk.receivers) count c.loop-line.invariant.given)
    (c.in-Err-AlreadyTaken.ensures.taken.0 (ap (λ (f : HubFault). Err f) c.in-Err-AlreadyTaken.field-0-is))

pub put-requires : goal.put-requires
put-requires g c = record { room = has_room _ _ _ _ c.loop-line.invariant.room c.in-Some.ensures.steps.1 }

pub loop-line-preserved : goal.loop-line-preserved
loop-line-preserved g c =
    let was = c.loop-line.invariant in
    let number = c.len-number.result in
    let xs = c.loop-line.workers.items in
    let ys = c.put.new.list.items in
    let count : length xs ≡ number = omega (arith, c.len-number.ensures) in
    let given = c.in-Ok-receiver.ensures.given in
    let grown = c.put.ensures.items in
    let next : number + 1 ≡ length ys = pushed_count xs ys number _ grown (sym count) in
    let low = subst (λ (n : ℕ). AllByRecursion (λ y. y < n) c.loop-line.desk.receivers) count was.given in
    record {
      lines = pushed_mapped (λ w. w.line) xs ys _ _ _ _ _ grown refl c.in-Some.ensures.steps.0 was.lines;
      left = one_less_by _ _ _ _ _ was.left c.in-Some.ensures.steps.1 (sym (pushed_count xs ys (length xs) _ grown refl));
      room = room_left _ _ _ _ _ _ was.room c.in-Some.ensures.steps.1 (sym (pushed_count xs ys (length xs) _ grown refl)) c.put.ensures.capacity;
      desk = ap (λ (d : ends.Dealing). d.at) given ∙ was.desk;
      transmitters = ap (λ (d : ends.Dealing). d.transmitters) given ∙ was.transmitters;
      given = subst (λ (n : ℕ). AllByRecursion (λ y. y < n) c.receiver.new.self.receivers) next
          (subst (AllByRecursion (λ y. y < number + 1)) (sym (ap (λ (d : ends.Dealing). d.receivers) given)) (given_more number c.loop-line.desk.receivers low));
      fresh = numbered_pushed (λ r w. w.receiver ≡ fresh c.args.hub.now r) xs ys number _ grown (sym count) was.fresh c.in-Ok-receiver.ensures.receiver;
      gates = numbered_pushed (λ r w. (w.number ≡ r) × (w.gate.now ≡ c.args.gate.now)) xs ys number _ grown (sym count) was.gates (refl, refl);
    }

pub returns-clause-workers : goal.returns-clause-workers
returns-clause-workers g c =
    let was = c.loop-line.invariant in
    record { lines = all_taken _ _ _ (nil_from_length (into_iter_items c.loop-line.line-iterator) (search rules)) was.lines; fresh = was.fresh; gates = was.gates }

pub returns-clause-desk : goal.returns-clause-desk
returns-clause-desk g c = (c.loop-line.invariant.desk, c.loop-line.invariant.transmitters)
