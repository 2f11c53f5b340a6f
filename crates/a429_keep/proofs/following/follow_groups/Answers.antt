use Rattle.std.proofs.Common.{◌≡◌, ◌∙◌, ◌≤◌, ap, arith, length, subst}
use Rattle.std.proofs.lemmas.Slice.Zip.{length-zip}
use Rattle.a429_equipment.specs.Sound.{IsSound}
use Rattle.a429_slots.specs.Tables.{PlanTable, groups_of}
use Rattle.a429_keep.specs.Following.{rest_lines}
use Rattle.a429_keep.proofs.FollowedGroups.{all_followed, followed_next, rows_of, states_next}
use Rattle.a429_keep.proofs.following.follow_groups.Goals as goal

pub follow_group-requires-clause-states : goal.follow_group-requires-clause-states
follow_group-requires-clause-states c =
    let p = c.args.proposal.now in
    let count : c.groups-group-end.result ≡ length (groups_of p.plan) = c.groups-group-end.ensures.value ∙ ap (λ (q : PlanTable). length (groups_of q)) c.plan.ensures.plan in
    states_next p c.loop-group.proposal (rest_lines c.args.lines) (rest_lines c.loop-group.lines) c.loop-group.group c.loop-group.invariant
    (subst IsSound c.equipment.ensures.equipment c.rows_are_sound.ensures) (omega (arith, count, c.loop-group-test.true)) c.plan.ensures.own.count

pub loop-group-preserved : goal.loop-group-preserved
loop-group-preserved c =
    let p = c.args.proposal.now in
    let count : c.groups-group-end.result ≡ length (groups_of p.plan) = c.groups-group-end.ensures.value ∙ ap (λ (q : PlanTable). length (groups_of q)) c.plan.ensures.plan in
    followed_next p c.loop-group.proposal (rest_lines c.args.lines) (rest_lines c.loop-group.lines) c.loop-group.group c.loop-group.invariant
    c.follow_group.new.proposal (rest_lines c.follow_group.new.lines) (omega (arith, count, c.loop-group-test.true, c.loop-group.invariant.count)) c.in_ok-follow_group.ensures

pub returns-clause-tables : goal.returns-clause-tables
returns-clause-tables c =
    let p = c.args.proposal.now in
    let count : c.groups-group-end.result ≡ length (groups_of p.plan) = c.groups-group-end.ensures.value ∙ ap (λ (q : PlanTable). length (groups_of q)) c.plan.ensures.plan in
    let none : length (rows_of p.station) ≤ c.loop-group.group = omega (arith, length-zip p.station.groups p.station.outputs, count, c.plan.ensures.own.count, c.loop-group-test.false) in
    all_followed p c.loop-group.proposal (rest_lines c.args.lines) (rest_lines c.loop-group.lines) c.loop-group.group c.loop-group.invariant
    none (omega (arith, count, c.loop-group-test.false, c.loop-group.invariant.count))
