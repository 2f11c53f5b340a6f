use Rattle.std.proofs.Common.{◌≡◌, ◌∙◌, ◌<◌, ℕ, length, take, ap, ap₂, sym, arith}
use Rattle.std.specs.Prelude.{max}
use Rattle.std.proofs.lemmas.List.{length-take}
use Rattle.a429_word.proofs.Lists.{get_within, take_next}
use Rattle.a429_slots.specs.Times.{slots_us}
use Rattle.a429_slots.specs.Tables.{frame_of, groups_of}
use Rattle.a429_recordings.specs.Timeline.{longest_frame}
use Rattle.a429_recordings.proofs.SimulationEnds.{longest_more, row_rate}
use Rattle.a429_recordings.proofs.simulate.tracks.longest_frame.Goals as goal

pub loop-group-preserved : goal.loop-group-preserved
loop-group-preserved c =
    let rows = c.args.equipment.now.groups in
    let tables = groups_of c.args.plan.now in
    let n : ℕ = c.loop-group.group in
    let within : n < length tables = omega (arith, c.loop-group-test.true, c.groups-group-end.ensures.value) in
    let (row, there) = get_within rows n (omega (arith, within, c.requires.planned.count)) in
    let p = c.group.result.now in
    let rate : row.rate ≡ c.group_rate.result = row_rate rows n row c.group_rate.result there c.group_rate.ensures.rate in
    let same : length (take n rows) ≡ length (take n tables) = omega (arith, length-take n rows, length-take n tables, within, c.requires.planned.count) in
    let more = ap₂ longest_frame (take_next rows n row there) (take_next tables n p c.group.ensures) ∙ longest_more (take n rows) (take n tables) row p same in
    let one : c.micros_of.result ≡ slots_us row.rate (frame_of p) =
    c.micros_of.ensures.value ∙ (ap (slots_us c.group_rate.result) (c.from.ensures ∙ c.frame-frame.ensures.value) ∙ ap (λ (r : ℕ). slots_us r (frame_of p)) (sym rate)) in
    record {
      longest = c.max-longest.ensures ∙ (ap₂ max c.loop-group.invariant.longest one ∙ sym more);
      few = omega (arith, c.max-longest.ensures, c.loop-group.invariant.few, c.micros_of.ensures.few, c.from.ensures, c.frame-frame.ensures.few);
    }
