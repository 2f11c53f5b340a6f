use Rattle.std.proofs.Common.{◌≡◌, ◌∙◌, ◌+◌, ◌-◌, ◌<◌, ◌≤◌, ◌^◌, ℕ, length, ap, arith, refl, sym, true, false}
use Rattle.std.proofs.lemmas.Bool.{le-ltb, lt-ltb}
use Rattle.a429_equipment.specs.TableRecord.{TableRecord}
use Rattle.a429_equipment.specs.SameStation.{same_station}
use Rattle.a429_slots.specs.Planned.{IsPlanOf}
use Rattle.a429_slots.specs.Tables.{PlanTable, groups_of}
use Rattle.a429_slots.specs.Proposed.{Proposed}
use Rattle.a429_slots.specs.declared.answers.Answer.{Answer}
use Rattle.a429_slots.specs.declared.answers.Answer.TheVariants.{Published, Refused}
use Rattle.a429_slots.specs.declared.answers.Refusal.TheVariants.{CountSpent, StationDiffers}
use Rattle.a429_core.specs.MachineStates.{MachineState}
use Rattle.a429_core.specs.MachineSteps.{publish_asked}
use Rattle.a429_core.proofs.Steps.{same_count}
use Rattle.a429_core.proofs.state.State.publish.Goals as goal

-- the proposal is of another station
when_other : (v w : MachineState) (q : Proposed) (other : TableRecord) → w ≡ v → other ≡ q.station → same_station w.station other ≡ false → publish_asked v q ≡ (Refused StationDiffers, w)
when_other v w q other here are is =
    let same : same_station w.station q.station ≡ false = ap (same_station w.station) (sym are) ∙ is in
    ap (λ (s : MachineState). publish_asked s q) (sym here) ∙ rw same refl

-- it is of the same one, and no number is left
when_spent : (v w : MachineState) (q : Proposed) (other : TableRecord) → w ≡ v → other ≡ q.station → same_station w.station other ≡ true → 2 ^ 64 - 1 ≤ w.newest.number → publish_asked v q ≡ (Refused CountSpent, w)
when_spent v w q other here are is last =
    let same : same_station w.station q.station ≡ true = ap (same_station w.station) (sym are) ∙ is in
    ap (λ (s : MachineState). publish_asked s q) (sym here) ∙ rw (same, le-ltb w.newest.number (2 ^ 64 - 1) last) refl

-- it is, and there is one
when_same : (v w : MachineState) (q : Proposed) (other : TableRecord) → w ≡ v → other ≡ q.station → same_station w.station other ≡ true → w.newest.number < 2 ^ 64 - 1
    → publish_asked v q ≡ (Published (w.newest.number + 1), record w { newest = record q.plan { number = w.newest.number + 1 } })
when_same v w q other here are is more =
    let same : same_station w.station q.station ≡ true = ap (same_station w.station) (sym are) ∙ is in
    ap (λ (s : MachineState). publish_asked s q) (sym here) ∙ rw (same, lt-ltb w.newest.number (2 ^ 64 - 1) more) refl

pub invariant_of-self : goal.invariant_of-self
invariant_of-self g c =
    let old = c.self.inside in
    let q = c.args.proposal.now in
    let own : IsPlanOf q.station q.plan = c.equipment-station.ensures.own in
    let agrees : same_station old.equipment q.station ≡ true =
    ap (same_station old.equipment) (sym c.equipment-station.ensures.equipment) ∙ (sym c.same_station.ensures ∙ c.if-not-same_station.false) in
    let (limit, sources, tables, groups) = c.self.invariant in
    let many : length old.groups.items ≡ length q.station.groups = groups ∙ same_count old.equipment q.station agrees in
    let taken : groups_of c.take_tables.new.self ≡ groups_of q.plan =
    ap (λ (p : PlanTable). groups_of p) c.take_tables.ensures ∙ ap (λ (p : PlanTable). groups_of p) c.plan.ensures.plan in
    (limit, sources, many ∙ (sym own.count ∙ sym (ap length taken)), groups)

pub returns-then-not-same_station-clause-answer : goal.returns-then-not-same_station-clause-answer
returns-then-not-same_station-clause-answer g c = sym (ap (λ (p : Answer × MachineState). p.0) (when_other c.args.self.now _ c.args.proposal.now c.equipment-station.result.now c.self.view_is c.equipment-station.ensures.equipment (sym c.same_station.ensures ∙ c.if-not-same_station.true)))

pub returns-then-not-same_station-clause-after : goal.returns-then-not-same_station-clause-after
returns-then-not-same_station-clause-after g c = sym (ap (λ (p : Answer × MachineState). p.1) (when_other c.args.self.now _ c.args.proposal.now c.equipment-station.result.now c.self.view_is c.equipment-station.ensures.equipment (sym c.same_station.ensures ∙ c.if-not-same_station.true)) ∙ c.self.view_is)

pub returns-then-not-same_station-clause-whole : goal.returns-then-not-same_station-clause-whole
returns-then-not-same_station-clause-whole g c = c.equipment-station.ensures.own.count

pub returns-then-last-clause-answer : goal.returns-then-last-clause-answer
returns-then-last-clause-answer g c =
    let number : c.number-last.result ≡ c.self.inside.newest.value.number = c.number-last.ensures ∙ ap (λ (p : PlanTable). p.number) c.deref.ensures in
    let last : 2 ^ 64 - 1 ≤ c.self.inside.newest.value.number = omega (arith, number, c.if-last.true) in
    let is = when_spent c.args.self.now _ c.args.proposal.now c.equipment-station.result.now c.self.view_is c.equipment-station.ensures.equipment (sym c.same_station.ensures ∙ c.if-not-same_station.false) last in
    sym (ap (λ (p : Answer × MachineState). p.0) is)

pub returns-then-last-clause-after : goal.returns-then-last-clause-after
returns-then-last-clause-after g c =
    let number : c.number-last.result ≡ c.self.inside.newest.value.number = c.number-last.ensures ∙ ap (λ (p : PlanTable). p.number) c.deref.ensures in
    let last : 2 ^ 64 - 1 ≤ c.self.inside.newest.value.number = omega (arith, number, c.if-last.true) in
    let is = when_spent c.args.self.now _ c.args.proposal.now c.equipment-station.result.now c.self.view_is c.equipment-station.ensures.equipment (sym c.same_station.ensures ∙ c.if-not-same_station.false) last in
    sym (ap (λ (p : Answer × MachineState). p.1) is ∙ c.self.view_is)

pub returns-then-last-clause-whole : goal.returns-then-last-clause-whole
returns-then-last-clause-whole g c = c.equipment-station.ensures.own.count

pub returns-clause-answer : goal.returns-clause-answer
returns-clause-answer g c =
    let number : c.number-last.result ≡ c.self.inside.newest.value.number = c.number-last.ensures ∙ ap (λ (p : PlanTable). p.number) c.deref.ensures in
    let more : c.self.inside.newest.value.number < 2 ^ 64 - 1 = omega (arith, number, c.if-last.false) in
    let is = when_same c.args.self.now _ c.args.proposal.now c.equipment-station.result.now c.self.view_is c.equipment-station.ensures.equipment (sym c.same_station.ensures ∙ c.if-not-same_station.false) more in
    ap (λ (n : ℕ). Published (n + 1)) number ∙ sym (ap (λ (p : Answer × MachineState). p.0) is)

pub returns-clause-after : goal.returns-clause-after
returns-clause-after g c =
    let number : c.number-last.result ≡ c.self.inside.newest.value.number = c.number-last.ensures ∙ ap (λ (p : PlanTable). p.number) c.deref.ensures in
    let more : c.self.inside.newest.value.number < 2 ^ 64 - 1 = omega (arith, number, c.if-last.false) in
    let is = when_same c.args.self.now _ c.args.proposal.now c.equipment-station.result.now c.self.view_is c.equipment-station.ensures.equipment (sym c.same_station.ensures ∙ c.if-not-same_station.false) more in
    let here = c.self.inside in
    let plan : c.take_tables.new.self ≡ record c.args.proposal.now.plan { number = here.newest.value.number + 1 } =
    c.take_tables.ensures ∙ ap (λ (p : PlanTable). record p { number = c.number-last.result + 1 }) c.plan.ensures.plan ∙ ap (λ (n : ℕ). record c.args.proposal.now.plan { number = n + 1 }) number in
    ap (λ (p : PlanTable). record { station = here.equipment; sources = here.sources.items; groups = here.groups.items; sends = here.sends.items; newest = p }) plan ∙ sym (ap (λ (p : Answer × MachineState). p.1) is)

pub returns-clause-whole : goal.returns-clause-whole
returns-clause-whole g c = c.equipment-station.ensures.own.count
