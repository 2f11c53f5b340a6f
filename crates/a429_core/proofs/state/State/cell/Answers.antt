use Rattle.std.proofs.Common.{◌∙◌, ℕ, ap, sym}
use Rattle.std.specs.Prelude.{Option, Some, None}
use Rattle.a429_slots.specs.declared.senders.Due.{Due}
use Rattle.a429_slots.specs.declared.answers.Answer.{Answer}
use Rattle.a429_slots.specs.declared.answers.Answer.TheVariants.{Sent}
use Rattle.a429_core.specs.MachineStates.{MachineState}
use Rattle.a429_core.proofs.Asked.{group_asked, no_group}
use Rattle.a429_core.proofs.state.State.cell.Goals as goal

pub returns-then-group-len-clause-answer : goal.returns-then-group-len-clause-answer
returns-then-group-len-clause-answer g c =
    sym (ap (λ (p : Answer × MachineState). p.0) (no_group c.args.self.now _ c.args.group c.len.result c.self.view_is (c.len.ensures ∙ c.self.inside.groups.ok.0) c.if-group-len.true))

pub returns-then-group-len-clause-after : goal.returns-then-group-len-clause-after
returns-then-group-len-clause-after g c =
    sym (ap (λ (p : Answer × MachineState). p.1) (no_group c.args.self.now _ c.args.group c.len.result c.self.view_is (c.len.ensures ∙ c.self.inside.groups.ok.0) c.if-group-len.true))

pub invariant_of-self : goal.invariant_of-self
invariant_of-self g c =
    let (limit, sources, tables, groups) = c.self.invariant in
    (limit, sources, c.next_cell.ensures.len ∙ tables, c.next_cell.ensures.len ∙ groups)

pub invariant_of-self-in-Some-default-default-None : goal.invariant_of-self-in-Some-default-default-None
invariant_of-self-in-Some-default-default-None g c =
    let (limit, sources, tables, groups) = c.self.invariant in
    (limit, sources, c.next_cell.ensures.len ∙ tables, c.next_cell.ensures.len ∙ groups)

pub invariant_of-self-in-Some-default-default-Some : goal.invariant_of-self-in-Some-default-default-Some
invariant_of-self-in-Some-default-default-Some g c =
    let (limit, sources, tables, groups) = c.self.invariant in
    (limit, sources, c.next_cell.ensures.len ∙ tables, c.next_cell.ensures.len ∙ groups)

pub returns-in-None-clause-answer : goal.returns-in-None-clause-answer
returns-in-None-clause-answer g c =
    let is = group_asked c.args.self.now _ c.args.group c.len.result c.next_cell.new.groups.items None c.self.view_is (c.len.ensures ∙ c.self.inside.groups.ok.0) c.if-group-len.false c.next_cell.ensures.after c.in-None.ensures.due in
    sym (ap (λ (p : Answer × MachineState). p.0) is)

pub returns-in-None-clause-after : goal.returns-in-None-clause-after
returns-in-None-clause-after g c =
    let is = group_asked c.args.self.now _ c.args.group c.len.result c.next_cell.new.groups.items None c.self.view_is (c.len.ensures ∙ c.self.inside.groups.ok.0) c.if-group-len.false c.next_cell.ensures.after c.in-None.ensures.due in
    sym (ap (λ (p : Answer × MachineState). p.1) is)

pub returns-in-Some-default-default-None-clause-answer : goal.returns-in-Some-default-default-None-clause-answer
returns-in-Some-default-default-None-clause-answer g c =
    let cell = c.in-Some-default-default-None in
    let due = ap (λ (x : Option Due). Some (cell.bus, cell.slot, x)) (sym cell.field-0-2-is) ∙ cell.ensures.due in
    let is = group_asked c.args.self.now _ c.args.group c.len.result c.next_cell.new.groups.items (Some (cell.bus, cell.slot, None)) c.self.view_is (c.len.ensures ∙ c.self.inside.groups.ok.0) c.if-group-len.false c.next_cell.ensures.after due in
    sym (ap (λ (p : Answer × MachineState). p.0) is)

pub returns-in-Some-default-default-None-clause-after : goal.returns-in-Some-default-default-None-clause-after
returns-in-Some-default-default-None-clause-after g c =
    let cell = c.in-Some-default-default-None in
    let due = ap (λ (x : Option Due). Some (cell.bus, cell.slot, x)) (sym cell.field-0-2-is) ∙ cell.ensures.due in
    let is = group_asked c.args.self.now _ c.args.group c.len.result c.next_cell.new.groups.items (Some (cell.bus, cell.slot, None)) c.self.view_is (c.len.ensures ∙ c.self.inside.groups.ok.0) c.if-group-len.false c.next_cell.ensures.after due in
    sym (ap (λ (p : Answer × MachineState). p.1) is)

pub returns-in-Some-default-default-Some-clause-answer : goal.returns-in-Some-default-default-Some-clause-answer
returns-in-Some-default-default-Some-clause-answer g c =
    let cell = c.in-Some-default-default-Some in
    let due = ap (λ (x : Option Due). Some (cell.bus, cell.slot, x)) (sym cell.field-0-2-is) ∙ cell.ensures.due in
    let is = group_asked c.args.self.now _ c.args.group c.len.result c.next_cell.new.groups.items (Some (cell.bus, cell.slot, Some cell.due)) c.self.view_is (c.len.ensures ∙ c.self.inside.groups.ok.0) c.if-group-len.false c.next_cell.ensures.after due in
    ap (λ (w : Option ℕ). Sent cell.bus cell.slot w) c.send.ensures.word
    ∙ sym (ap (λ (p : Answer × MachineState). p.0) is)

pub returns-in-Some-default-default-Some-clause-after : goal.returns-in-Some-default-default-Some-clause-after
returns-in-Some-default-default-Some-clause-after g c =
    let cell = c.in-Some-default-default-Some in
    let due = ap (λ (x : Option Due). Some (cell.bus, cell.slot, x)) (sym cell.field-0-2-is) ∙ cell.ensures.due in
    let is = group_asked c.args.self.now _ c.args.group c.len.result c.next_cell.new.groups.items (Some (cell.bus, cell.slot, Some cell.due)) c.self.view_is (c.len.ensures ∙ c.self.inside.groups.ok.0) c.if-group-len.false c.next_cell.ensures.after due in
    c.send.ensures.after ∙ sym (ap (λ (p : Answer × MachineState). p.1) is)
