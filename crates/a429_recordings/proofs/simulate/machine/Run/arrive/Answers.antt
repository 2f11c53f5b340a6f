use Rattle.std.proofs.Common.{◌≡◌, ◌∙◌, ℕ, ap, refl, sym, subst}
use Rattle.a429_slots.specs.Events.{Arrive}
use Rattle.a429_slots.specs.declared.answers.Answer.{Answer}
use Rattle.a429_slots.specs.declared.answers.Refusal.{Refusal}
use Rattle.a429_slots.specs.declared.answers.Answer.TheVariants.{Accepted, Refused}
use Rattle.a429_core.specs.MachineStates.{MachineState}
use Rattle.a429_core.specs.MachineSteps.{stepped}
use Rattle.a429_recordings.specs.Simulating.{Comes, happening_by, times_of}
use Rattle.a429_recordings.proofs.SimulatedSteps.{goes_on, quiet_word, stands_accepted, stands_on, unaccepted}
use Rattle.a429_recordings.proofs.simulate.machine.Run.arrive.Goals as goal

-- the call is made with the receiver of the word
at_receiver : (v w : MachineState) (a : Answer) (n m raw : ℕ) → n ≡ m → (a ≡ (stepped 41 v (Arrive n raw)).0) × (w ≡ (stepped 41 v (Arrive n raw)).1)
    → (a ≡ (stepped 41 v (Arrive m raw)).0) × (w ≡ (stepped 41 v (Arrive m raw)).1)
at_receiver v w a n m raw same call = subst (λ (k : ℕ). (a ≡ (stepped 41 v (Arrive k raw)).0) × (w ≡ (stepped 41 v (Arrive k raw)).1)) same call

pub returns-in-Accepted-clause-step : goal.returns-in-Accepted-clause-step
returns-in-Accepted-clause-step c = λ q past S.
    let w = c.args.word in
    let r = c.args.self.now in
    let (answer, after) = at_receiver r.state c.arrive.new.self c.arrive.result c.from.result w.receiver w.raw c.from.ensures (c.arrive.ensures.answer, c.arrive.ensures.after) in
    let (given, state) = goes_on c.calls_are_answered.ensures.answer c.calls_are_answered.ensures.stands q past (Comes w) r S c.arrive.new.self after in
    let is = sym (answer ∙ given) ∙ c.in-Accepted.is in (
      stands_accepted q past w c.in-Accepted.source r (record r { state = c.arrive.new.self; heard = c.note_word.new.heard }) S is state c.note_word.ensures,
      ap (happening_by q (times_of q past) (Comes w)) (sym is),
    )

clash : (why : Refusal) (source : ℕ) → Refused why ≡ Accepted source → ⊥
clash why source is = cc

pub returns-in-Refused-clause-step : goal.returns-in-Refused-clause-step
returns-in-Refused-clause-step c = λ q past S.
    let w = c.args.word in
    let r = c.args.self.now in
    let (answer, after) = at_receiver r.state c.arrive.new.self c.arrive.result c.from.result w.receiver w.raw c.from.ensures (c.arrive.ensures.answer, c.arrive.ensures.after) in
    let (given, state) = goes_on c.calls_are_answered.ensures.answer c.calls_are_answered.ensures.stands q past (Comes w) r S c.arrive.new.self after in
    let is = sym (answer ∙ given) ∙ c.in-Refused.is in (
      stands_on q past (Comes w) r (record r { state = c.arrive.new.self }) S (unaccepted w _ (λ source e. clash c.in-Refused.refusal source (sym is ∙ e))) state refl,
      ap (happening_by q (times_of q past) (Comes w)) (sym is),
    )

pub returns-in_default-clause-step : goal.returns-in_default-clause-step
returns-in_default-clause-step c = λ q past S.
    let w = c.args.word in
    let r = c.args.self.now in
    let (answer, after) = at_receiver r.state c.arrive.new.self c.arrive.result c.from.result w.receiver w.raw c.from.ensures (c.arrive.ensures.answer, c.arrive.ensures.after) in
    let (given, state) = goes_on c.calls_are_answered.ensures.answer c.calls_are_answered.ensures.stands q past (Comes w) r S c.arrive.new.self after in
    let is = answer ∙ given in (
      stands_on q past (Comes w) r (record r { state = c.arrive.new.self }) S (unaccepted w _ (λ source e. c.in_default.not-Accepted source (is ∙ e))) state refl,
      quiet_word q (times_of q past) w _ (λ why e. c.in_default.not-Refused why (is ∙ e)),
    )
