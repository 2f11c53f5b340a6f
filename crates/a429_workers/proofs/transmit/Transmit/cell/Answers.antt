use Rattle.std.proofs.Common.{◌≡◌, ◌+◌, ◌∙◌, ◌∷◌, [], ◌++◌, ℕ, Ok, sym, ap, subst}
use Rattle.std.specs.Prelude.{Option, None, option_map}
use Rattle.std.specs.List.{AllByRecursion}
use Rattle.a429_slots.specs.Tables.{SlotTable, output_in}
use Rattle.a429_slots.specs.FrameStates.{FrameState, due_of}
use Rattle.a429_slots.specs.declared.senders.Due.{Due}
use Rattle.a429_slots.proofs.Remembering.{AreRecalled}
use Rattle.a429_values.specs.Ends.{Place}
use Rattle.a429_workers.specs.Calls.{Asks}
use Rattle.a429_workers.specs.Transmitting.{Transmitting, StandsForCalls, HasMade, IsDone, IsKnownPlan, cell_call, loads_since}
use Rattle.a429_workers.proofs.Answering.{cell_end, cell_made, moved}
use Rattle.a429_workers.proofs.Calling.{same_table}
use Rattle.a429_workers.proofs.transmit.Transmit.cell.Goals as goal

pub returns-in_default-clause-stands : goal.returns-in_default-clause-stands
returns-in_default-clause-stands c = λ b made S known.
    let inside = c.self.inside in
    let v : Transmitting = record { transmitter = inside.transmitter; watcher = inside.watcher; frame = inside.sender; number = inside.number; sends = inside.sends } in
    let old = subst (StandsForCalls b made) (sym c.self.view_is) S known in
    subst (λ (f : FrameState). HasMade b (made ++ Asks None ∷ []) (record v { frame = f })) (sym c.cell.ensures.after)
    (cell_end b made v (sym c.cell.ensures.due ∙ c.in_default.is) old)

pub returns-clause-stands : goal.returns-clause-stands
returns-clause-stands c = λ b made S known.
    let law : AreRecalled = record { none = c.sends_are_recalled.ensures.none; decides = c.sends_are_recalled.ensures.decides; sent = c.sends_are_recalled.ensures.sent; other = c.sends_are_recalled.ensures.other } in
    let inside = c.self.inside in
    let v : Transmitting = record { transmitter = inside.transmitter; watcher = inside.watcher; frame = inside.sender; number = inside.number; sends = inside.sends } in
    let told = subst (λ (at : Place). AllByRecursion (IsKnownPlan at.station) inside.watcher.list) c.word_for.ensures.hub known in
    let old = subst (StandsForCalls b made) (sym c.self.view_is) S told in
    let t = c.word_for.new.transmitter in
    let rs = c.word_for.new.sends in
    let bus = c.in-Some.bus in
    let slot = c.in-Some.in_frame in
    let w : Transmitting = record { transmitter = t; watcher = inside.watcher; frame = c.cell.new.self; number = inside.number; sends = rs } in
    let table : c.cell.new.self.table ≡ v.frame.table = ap (λ (f : FrameState). f.table) c.cell.ensures.after ∙ same_table v.frame in
    let due : c.output_in-due.result ≡ option_map due_of (output_in v.frame.table bus slot) =
    c.output_in-due.ensures.output ∙ ap (λ (p : SlotTable). option_map due_of (output_in p bus slot)) table in
    let done : IsDone v.transmitter v.sends (v.frame.first + slot) (option_map due_of (output_in v.frame.table bus slot)) c.word_for.result t rs =
    subst (λ (n : ℕ). IsDone v.transmitter v.sends (n + slot) (option_map due_of (output_in v.frame.table bus slot)) c.word_for.result t rs) c.first-first.ensures
    (subst (λ (d : Option Due). IsDone v.transmitter v.sends (c.first-first.result + slot) d c.word_for.result t rs) due c.word_for.ensures.done) in
    let made_it = cell_made law b made v (bus, slot) c.word_for.result t rs c.self.invariant.0 (sym c.cell.ensures.due ∙ c.in-Some.is) c.word_for.ensures.hub c.word_for.ensures.group done old in
    subst (λ (x : Transmitting). HasMade b (made ++ cell_call (Ok (record { bus = bus; slot = c.first-first.result + slot; word = c.word_for.result })) (loads_since x w) ∷ []) w) c.self.view_is
    (subst (λ (f : FrameState). HasMade b (made ++ cell_call (Ok (record { bus = bus; slot = c.first-first.result + slot; word = c.word_for.result })) (loads_since v (record w { frame = f })) ∷ []) (record w { frame = f })) (sym c.cell.ensures.after)
    (subst (λ (n : ℕ). HasMade b (made ++ cell_call (Ok (record { bus = bus; slot = n + slot; word = c.word_for.result })) (loads_since v (moved v t rs)) ∷ []) (moved v t rs)) (sym c.first-first.ensures) made_it))
