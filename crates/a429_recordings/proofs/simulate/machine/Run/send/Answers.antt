use Rattle.std.proofs.Common.{◌≡◌, ◌∙◌, ap, refl, sym}
use Rattle.std.specs.Prelude.{Some, None}
use Rattle.a429_slots.specs.declared.answers.Answer.TheVariants.{Sent}
use Rattle.a429_core.specs.MachineSteps.{cell_sent}
use Rattle.a429_recordings.specs.Simulating.{Asks, answer_after, history_of, opening_of, times_of}
use Rattle.a429_recordings.proofs.SentCells.{sent_source}
use Rattle.a429_recordings.proofs.SimulatedSteps.{goes_on, quiet_cell, sends_word, stands_on}
use Rattle.a429_recordings.proofs.simulate.machine.Run.send.Goals as goal

pub returns-in-None-clause-step : goal.returns-in-None-clause-step
returns-in-None-clause-step c = λ q known past S.
    let r = c.args.self.now in
    let s = Asks c.args.group c.args.slot in
    let (given, state) = goes_on c.calls_are_answered.ensures.answer c.calls_are_answered.ensures.stands q past s r S c.send_cell.new.self c.send_cell.ensures.after in
    let none : cell_sent r.state c.args.group ≡ None = sym c.send_cell.ensures.sent ∙ c.in-None.is in (
      stands_on q past s r (record r { state = c.send_cell.new.self }) S refl state refl,
      quiet_cell q (times_of q past) c.args.group c.args.slot (answer_after q past s)
          (λ bus slot raw e. c.sent_cells_are_answered.ensures.none 41 (opening_of q) (history_of past) r.state c.args.group bus slot raw S.state none e),
    )

pub returns-in-Some-clause-step : goal.returns-in-Some-clause-step
returns-in-Some-clause-step c = λ q known past S.
    let r = c.args.self.now in
    let g = c.args.group in
    let s = Asks g c.args.slot in
    let (given, state) = goes_on c.calls_are_answered.ensures.answer c.calls_are_answered.ensures.stands q past s r S c.send_cell.new.self c.send_cell.ensures.after in
    let cell = c.in-Some.cell in
    let is : cell_sent r.state g ≡ Some cell = sym c.send_cell.ensures.sent ∙ c.in-Some.is in
    let answer : answer_after q past s ≡ Sent cell.bus cell.slot (Some c.raw.result) =
    c.sent_cells_are_answered.ensures.sent 41 (opening_of q) (history_of past) r.state g cell S.state is ∙ ap (λ w. Sent cell.bus cell.slot (Some w)) (sym c.raw.ensures.raw) in (
      stands_on q past s r (record r { state = c.send_cell.new.self }) S refl state refl,
      sends_word q (times_of q past) g c.args.slot cell.bus cell.slot c.raw.result cell.source c.heard_of-heard.result (answer_after q past s) answer
          (sent_source q past r g cell known S is) (c.heard_of-heard.ensures ∙ S.heard cell.source),
    )
