use Rattle.std.proofs.Common.{◌≡◌, ◌∙◌, ℕ, List, ap, refl, sym, subst, append-nil}
use Rattle.std.specs.Prelude.{Some, slice_get}
use Rattle.a429_slots.specs.Tables.{PlanTable, frame_of, groups_of}
use Rattle.a429_recordings.specs.Simulating.{Step, Turns}
use Rattle.a429_recordings.specs.SimulationRuns.{StandsAfter, TakesQuietly}
use Rattle.a429_recordings.specs.Timeline.{table_of}
use Rattle.a429_recordings.proofs.SimulatedSteps.{goes_on, stands_on, table_at, turns_else, turns_then}
use Rattle.a429_recordings.proofs.simulate.machine.Run.turn_after.Goals as goal

pub returns-then-slot-from-eq0 : goal.returns-then-slot-from-eq0
returns-then-slot-from-eq0 c =
    let q = c.args.proposal.now in
    let g : ℕ = c.args.group in
    let r = c.args.self.now in
    let there : slice_get (groups_of q.plan) g ≡ Some c.group.result.now = subst (λ (t : PlanTable). slice_get (groups_of t) g ≡ Some c.group.result.now) c.plan.ensures.plan c.group.ensures in
    let frame : frame_of (table_of q g) ≡ c.from.result = ap frame_of (table_at q g c.group.result.now there) ∙ sym (c.from.ensures ∙ c.frame-frame.ensures.value) in
    subst (λ (xs : List Step). TakesQuietly q xs r (record r { state = c.frame.new.self })) (sym (turns_then q g c.args.slot c.from.result frame c.if-slot-from-eq0.true))
    (λ past S. let (given, state) = goes_on c.calls_are_answered.ensures.answer c.calls_are_answered.ensures.stands q past (Turns g) r S c.frame.new.self c.frame.ensures.after in
    (stands_on q past (Turns g) r (record r { state = c.frame.new.self }) S refl state refl, refl))

pub returns-else-slot-from-eq0 : goal.returns-else-slot-from-eq0
returns-else-slot-from-eq0 c =
    let q = c.args.proposal.now in
    let g : ℕ = c.args.group in
    let r = c.args.self.now in
    let there : slice_get (groups_of q.plan) g ≡ Some c.group.result.now = subst (λ (t : PlanTable). slice_get (groups_of t) g ≡ Some c.group.result.now) c.plan.ensures.plan c.group.ensures in
    let frame : frame_of (table_of q g) ≡ c.from.result = ap frame_of (table_at q g c.group.result.now there) ∙ sym (c.from.ensures ∙ c.frame-frame.ensures.value) in
    subst (λ (xs : List Step). TakesQuietly q xs r r) (sym (turns_else q g c.args.slot c.from.result frame c.if-slot-from-eq0.false))
    (λ past S. (subst (λ (p : List Step). StandsAfter q p r) (sym (append-nil past)) S, refl))
