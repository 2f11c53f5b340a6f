use Rattle.std.proofs.Common.{◌≡◌, ◌∙◌, ◌<◌, ◌≤◌, ◌++◌, ◌∷◌, [], ℕ, length, ap, sym, subst, rules, arith}
use Rattle.std.specs.Prelude.{Some, option_map, slice_get}
use Rattle.a429_equipment.specs.Sound.{IsSound}
use Rattle.a429_equipment.specs.TableRecord.{TableRecord}
use Rattle.a429_slots.specs.Tables.{PlanTable, groups_of}
use Rattle.a429_recordings.specs.Timeline.{rate_of, slots_by}
use Rattle.a429_recordings.specs.Tracks.{IsTrack, StartsAt, silent_until}
use Rattle.a429_recordings.specs.declared.simulate.tracks.Track.{Track}
use Rattle.a429_recordings.proofs.SimulationEnds.{before_within, counted_more, few_before, rate_bounds, rate_is, slots_by_is}
use Rattle.a429_recordings.proofs.simulate.tracks.tracks_of.Goals as goal

pub count_slots-requires : goal.count_slots-requires
count_slots-requires c =
    let n : ℕ = c.loop-group.group in
    let rate : ℕ = c.group_rate-rate.result in
    let e = c.equipment-equipment.ensures.equipment in
    let q = c.args.proposal.now in
    let given : option_map (λ row. row.rate) (slice_get q.station.groups n) ≡ Some rate =
    subst (λ (t : TableRecord). option_map (λ row. row.rate) (slice_get t.groups n) ≡ Some rate) e c.group_rate-rate.ensures.rate in
    let sound : IsSound q.station = subst IsSound e c.rows_are_sound.ensures in
    record {
      rate = (rate_bounds q.station.groups n rate sound.group_rows given).1;
      frame = (omega (arith, c.frame.ensures.some), omega (arith, c.frame.ensures.few));
      first = omega (arith, c.first_time-first.ensures.few);
    }

pub slots_before-requires : goal.slots_before-requires
slots_before-requires c =
    let counted = c.in-Some.ensures in
    let start : ℕ = c.silent_until-start.result in
    record { few = few_before c.group_rate-rate.result start c.args.last c.silent_until-start.ensures.within (omega (arith, counted.0, counted.1)) }

pub loop-group-preserved : goal.loop-group-preserved
loop-group-preserved c =
    let q = c.args.proposal.now in
    let n : ℕ = c.loop-group.group in
    let rate : ℕ = c.group_rate-rate.result in
    let last : ℕ = c.args.last in
    let start = silent_until c.args.words.now last in
    let begin : c.silent_until-start.result ≡ start = c.silent_until-start.ensures.value in
    let within : start ≤ last = subst (λ (t : ℕ). t ≤ last) begin c.silent_until-start.ensures.within in
    let e = c.equipment-equipment.ensures.equipment in
    let given : option_map (λ row. row.rate) (slice_get q.station.groups n) ≡ Some rate =
    subst (λ (t : TableRecord). option_map (λ row. row.rate) (slice_get t.groups n) ≡ Some rate) e c.group_rate-rate.ensures.rate in
    let sound : IsSound q.station = subst IsSound e c.rows_are_sound.ensures in
    let bounds = rate_bounds q.station.groups n rate sound.group_rows given in
    let own : rate_of q n ≡ rate = rate_is q n rate given in
    let many : length (groups_of c.plan-plan.result.now) ≡ length q.station.groups = ap (λ (p : PlanTable). length (groups_of p)) c.plan-plan.ensures.plan ∙ c.plan-plan.ensures.own.count in
    let inside : n < length q.station.groups = omega (arith, c.loop-group-test.true, c.groups-group-end.ensures.value, many) in
    let counted = c.in-Some.ensures in
    let x : Track = record { rate = rate; slots = c.in-Some.slots; next = c.slots_before.result } in
    let slots : x.slots ≡ slots_by q last n = counted.0 ∙ sym (slots_by_is q last n rate inside own) in
    let first : StartsAt start x = subst (λ (t : ℕ). StartsAt t x) begin c.slots_before.ensures in
    let track : IsTrack x = record { some_rate = bounds.0; few_rate = bounds.1; few_slots = counted.1; within = omega (arith, first, counted.0, before_within rate start last within) } in
    let items : c.push.new.self.items ≡ c.loop-group.tracks.items ++ x ∷ [] = search rules in
    rw items (counted_more q start last n c.loop-group.tracks.items x c.loop-group.invariant (sym own) slots track first)
