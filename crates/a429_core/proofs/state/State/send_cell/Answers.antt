use Rattle.std.proofs.Common.{◌∙◌, ℕ, ap, sym}
use Rattle.std.specs.Prelude.{Option, Some, option_map}
use Rattle.a429_slots.specs.declared.senders.Due.{Due}
use Rattle.a429_slots.specs.declared.answers.Answer.{Answer}
use Rattle.a429_core.specs.declared.sends.SentCell.{SentCell}
use Rattle.a429_core.specs.MachineStates.{MachineState}
use Rattle.a429_core.proofs.Asked.{group_asked, group_sent, no_group, none_sent}
use Rattle.a429_core.proofs.state.State.send_cell.Goals as goal

pub returns-then-group-len-clause-sent : goal.returns-then-group-len-clause-sent
returns-then-group-len-clause-sent g c = sym (none_sent c.args.self.now _ c.args.group c.len.result c.self.view_is (c.len.ensures ∙ c.self.inside.groups.ok.0) c.if-group-len.true)

pub returns-then-group-len-clause-after : goal.returns-then-group-len-clause-after
returns-then-group-len-clause-after g c =
    sym (ap (λ (p : Answer × MachineState). p.1) (no_group c.args.self.now _ c.args.group c.len.result c.self.view_is (c.len.ensures ∙ c.self.inside.groups.ok.0) c.if-group-len.true))

pub invariant_of-self : goal.invariant_of-self
invariant_of-self g c =
    let (limit, sources, tables, groups) = c.self.invariant in
    (limit, sources, c.next_cell.ensures.len ∙ tables, c.next_cell.ensures.len ∙ groups)

pub returns-in-Some-clause-sent : goal.returns-in-Some-clause-sent
returns-in-Some-clause-sent g c =
    let cell = c.in-Some-default-default-Some in
    let due = ap (λ (x : Option Due). Some (cell.bus, cell.slot, x)) (sym cell.field-0-2-is) ∙ cell.ensures.due in
    let is = group_sent c.args.self.now _ c.args.group c.len.result c.next_cell.new.groups.items (Some (cell.bus, cell.slot, Some cell.due)) c.self.view_is (c.len.ensures ∙ c.self.inside.groups.ok.0) c.if-group-len.false c.next_cell.ensures.after due in
    ap (λ (w : Option ℕ). option_map {U = SentCell} (λ word. record { bus = cell.bus; slot = cell.slot; source = cell.due.source; word = word }) w) c.in-Some.ensures.word ∙ sym is

pub returns-in-Some-clause-after : goal.returns-in-Some-clause-after
returns-in-Some-clause-after g c =
    let cell = c.in-Some-default-default-Some in
    let due = ap (λ (x : Option Due). Some (cell.bus, cell.slot, x)) (sym cell.field-0-2-is) ∙ cell.ensures.due in
    let is = group_asked c.args.self.now _ c.args.group c.len.result c.next_cell.new.groups.items (Some (cell.bus, cell.slot, Some cell.due)) c.self.view_is (c.len.ensures ∙ c.self.inside.groups.ok.0) c.if-group-len.false c.next_cell.ensures.after due in
    c.send.ensures.after ∙ sym (ap (λ (p : Answer × MachineState). p.1) is)

pub returns-in-None-clause-sent : goal.returns-in-None-clause-sent
returns-in-None-clause-sent g c =
    let cell = c.in-Some-default-default-Some in
    let due = ap (λ (x : Option Due). Some (cell.bus, cell.slot, x)) (sym cell.field-0-2-is) ∙ cell.ensures.due in
    let is = group_sent c.args.self.now _ c.args.group c.len.result c.next_cell.new.groups.items (Some (cell.bus, cell.slot, Some cell.due)) c.self.view_is (c.len.ensures ∙ c.self.inside.groups.ok.0) c.if-group-len.false c.next_cell.ensures.after due in
    ap (λ (w : Option ℕ). option_map {U = SentCell} (λ word. record { bus = cell.bus; slot = cell.slot; source = cell.due.source; word = word }) w) c.in-None.ensures.word ∙ sym is

pub returns-in-None-clause-after : goal.returns-in-None-clause-after
returns-in-None-clause-after g c =
    let cell = c.in-Some-default-default-Some in
    let due = ap (λ (x : Option Due). Some (cell.bus, cell.slot, x)) (sym cell.field-0-2-is) ∙ cell.ensures.due in
    let is = group_asked c.args.self.now _ c.args.group c.len.result c.next_cell.new.groups.items (Some (cell.bus, cell.slot, Some cell.due)) c.self.view_is (c.len.ensures ∙ c.self.inside.groups.ok.0) c.if-group-len.false c.next_cell.ensures.after due in
    c.send.ensures.after ∙ sym (ap (λ (p : Answer × MachineState). p.1) is)
