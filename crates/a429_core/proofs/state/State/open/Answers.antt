use Rattle.std.proofs.Common.{◌≡◌, ◌≤◌, ◌-◌, ◌∙◌, [], ℕ, List, arith, length, map, replicate, ap, sym, subst}
use Rattle.a429_slots.specs.Tables.{PlanTable, groups_of}
use Rattle.a429_slots.specs.Planned.{IsPlanOf}
use Rattle.a429_slots.specs.Proposed.{Proposed}
use Rattle.a429_equipment.specs.Sound.{IsSound}
use Rattle.a429_equipment.specs.TableRecord.{TableRecord}
use Rattle.a429_slots.specs.Recalling.{never}
use Rattle.std.proofs.lemmas.Nat.{one_shl}
use Rattle.std.proofs.lemmas.List.{length-map, length-replicate}
use Rattle.a429_core.specs.declared.sources.Kept.{Kept}
use Rattle.a429_slots.specs.FrameStates.{FrameState, begun}
use Rattle.a429_slots.proofs.Remembering.{AreRecalled}
use Rattle.a429_core.specs.MachineStates.{StandsForHistory}
use Rattle.a429_core.proofs.Opening.{stands_at_first, unheard}
use Rattle.a429_core.proofs.state.State.open.Goals as goal

pub returns-clause-stands : goal.returns-clause-stands
returns-clause-stands g c =
    let q : Proposed = c.args.proposal in
    let parts = c.into_parts-equipment.ensures in
    let own : IsPlanOf q.station q.plan = parts.own in
    let sound : IsSound q.station = subst IsSound parts.equipment c.rows_are_sound.ensures in
    let count : length c.sources.result.now ≡ length q.station.sources = ap length c.sources.ensures.rows ∙ ap (λ (t : TableRecord). length t.sources) parts.equipment in
    let kept : c.in_ok-sources.sources.items ≡ replicate (length q.station.sources) unheard =
    c.in_ok-sources.ensures.items_if_clones_equal (λ y h. h) ∙ ap (λ (n : ℕ). replicate n unheard) count in
    let tables : c.deref-2.result.now ≡ q.plan = c.deref-2.ensures ∙ parts.plan in
    let sent : c.in_ok-groups.groups.items ≡ map (begun c.args.first_slot) (groups_of q.plan) = c.in_ok-groups.ensures ∙ ap (λ (p : PlanTable). map (begun c.args.first_slot) (groups_of p)) tables in
    let law : AreRecalled = record { none = c.sends_are_recalled.ensures.none; decides = c.sends_are_recalled.ensures.decides; sent = c.sends_are_recalled.ensures.sent; other = c.sends_are_recalled.ensures.other } in
    let many : length c.in_ok-groups.groups.items ≡ length (groups_of q.plan) = ap (λ (ss : List FrameState). length ss) sent ∙ length-map (groups_of q.plan) (begun c.args.first_slot) in
    let known : length c.in_ok-sources.sources.items ≡ length q.station.sources = ap (λ (ks : List Kept). length ks) kept ∙ length-replicate (length q.station.sources) unheard in
    let groups_long : c.len.result ≡ length c.in_ok-groups.groups.items = omega (arith, c.len.ensures) in
    let sources_long : c.len-2.result ≡ length c.in_ok-sources.sources.items = omega (arith, c.len-2.ensures) in
    let unsent : c.in_ok-sends.sends.items ≡ replicate (length (groups_of q.plan)) (replicate (length q.station.sources) never) =
    c.in_ok-sends.ensures ∙ (ap (λ (n : ℕ). replicate n (replicate c.len-2.result never)) (groups_long ∙ many) ∙ ap (λ (n : ℕ). replicate (length (groups_of q.plan)) (replicate n never)) (sources_long ∙ known)) in
    let first = stands_at_first g.row.C c.args.first_slot q c.in_ok-sources.sources.items c.in_ok-groups.groups.items c.in_ok-sends.sends.items law sound.apart own.count own.number kept sent unsent in
    subst (λ (t : TableRecord). StandsForHistory g.row.C (record { proposal = q; first = c.args.first_slot }) [] (record { station = t; sources = c.in_ok-sources.sources.items; groups = c.in_ok-groups.groups.items; sends = c.in_ok-sends.sends.items; newest = c.into_parts-equipment.result.1.value })) (sym parts.equipment)
    (subst (λ (p : PlanTable). StandsForHistory g.row.C (record { proposal = q; first = c.args.first_slot }) [] (record { station = q.station; sources = c.in_ok-sources.sources.items; groups = c.in_ok-groups.groups.items; sends = c.in_ok-sends.sends.items; newest = p })) (sym parts.plan) first)

pub invariant_of-result : goal.invariant_of-result
invariant_of-result g c =
    let q : Proposed = c.args.proposal in
    let parts = c.into_parts-equipment.ensures in
    let own : IsPlanOf q.station q.plan = parts.own in
    let few : g.row.C ≤ 41 = c.requires.1 in
    let count : length c.sources.result.now ≡ length q.station.sources = ap length c.sources.ensures.rows ∙ ap (λ (t : TableRecord). length t.sources) parts.equipment in
    let kept : c.in_ok-sources.sources.items ≡ replicate (length q.station.sources) unheard =
    c.in_ok-sources.ensures.items_if_clones_equal (λ y h. h) ∙ ap (λ (n : ℕ). replicate n unheard) count in
    let tables : c.deref-2.result.now ≡ q.plan = c.deref-2.ensures ∙ parts.plan in
    let sent : c.in_ok-groups.groups.items ≡ map (begun c.args.first_slot) (groups_of q.plan) = c.in_ok-groups.ensures ∙ ap (λ (p : PlanTable). map (begun c.args.first_slot) (groups_of p)) tables in
    let many : length c.in_ok-groups.groups.items ≡ length (groups_of q.plan) = ap (λ (ss : List FrameState). length ss) sent ∙ length-map (groups_of q.plan) (begun c.args.first_slot) in
    let known : length c.in_ok-sources.sources.items ≡ length q.station.sources = ap (λ (ks : List Kept). length ks) kept ∙ length-replicate (length q.station.sources) unheard in (
      ap (λ (k : ℕ). k - 1) (one_shl g.row.C 64 (omega (arith, few))),
      known ∙ sym (ap (λ (t : TableRecord). length t.sources) parts.equipment),
      many ∙ sym (ap (λ (p : PlanTable). length (groups_of p)) parts.plan),
      many ∙ own.count ∙ sym (ap (λ (t : TableRecord). length t.groups) parts.equipment),
    )
