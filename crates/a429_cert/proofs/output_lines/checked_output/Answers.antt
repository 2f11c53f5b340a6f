use Rattle.std.proofs.Common.{◌≡◌, ◌∙◌, ◌<◌, ℕ, List, All, Bool, ap, arith, map, subst, sym}
use Rattle.a429_cert.specs.declared.line.OutputLine.{OutputLine}
use Rattle.std.specs.List.{list_any}
use Rattle.a429_cert.specs.Spelling.{Listing}
use Rattle.a429_cert.specs.Faults.{shares}
use Rattle.a429_cert.specs.Views.{listing}
use Rattle.a429_cert.proofs.OutputFaults.{form_fault, unknown_fault, listed_fault, period_fault, shared_fault, hold_fault, no_fault}
use Rattle.a429_cert.proofs.output_lines.checked_output.Goals as goal

same_lines : (l : Listing) (b : Bool) (xs ys : List OutputLine) → b ≡ list_any (shares l) (map listing xs) → xs ≡ ys → b ≡ list_any (shares l) (map listing ys)
same_lines l b xs ys e same = e ∙ ap (λ (ls : List OutputLine). list_any (shares l) (map listing ls)) same

some_above : {a b : ℕ} → a < b → 0 < b
some_above below = omega arith

pub output_of-requires-clause-own : goal.output_of-requires-clause-own
output_of-requires-clause-own c = c.requires.modest.own

pub output_of-requires-clause-noted : goal.output_of-requires-clause-noted
output_of-requires-clause-noted c = c.requires.noted

pub first_sharing-requires-clause-earlier : goal.first_sharing-requires-clause-earlier
first_sharing-requires-clause-earlier c = subst (λ (ls : List OutputLine). All (λ l. 0 < l.period) ls) (sym c.deref.ensures.value) c.requires.noted.periods

pub first_sharing-requires-clause-line : goal.first_sharing-requires-clause-line
first_sharing-requires-clause-line c = some_above c.if-said.false

pub returns-in_default-clause-says : goal.returns-in_default-clause-says
returns-in_default-clause-says c = tt

pub returns-in_default-output_of-clause-says : goal.returns-in_default-output_of-clause-says
returns-in_default-output_of-clause-says c = tt

pub returns-then-output-clause-says : goal.returns-then-output-clause-says
returns-then-output-clause-says c = tt

pub returns-then-said-output-clause-says : goal.returns-then-said-output-clause-says
returns-then-said-output-clause-says c = tt

pub returns-then-buses-said-clause-says : goal.returns-then-buses-said-clause-says
returns-then-buses-said-clause-says c = tt

pub returns-in-Some-first_sharing-clause-says : goal.returns-in-Some-first_sharing-clause-says
returns-in-Some-first_sharing-clause-says c = tt

pub returns-then-says_other_hold-clause-says : goal.returns-then-says_other_hold-clause-says
returns-then-says_other_hold-clause-says c = tt

pub returns-in_default-clause-fault : goal.returns-in_default-clause-fault
returns-in_default-clause-fault c = form_fault c.args.version c.args.group.now c.args.buses (map listing c.args.earlier.now.lines.items) c.args.line.now _ c.new.ensures c.in_default.ensures

pub returns-in_default-output_of-clause-fault : goal.returns-in_default-output_of-clause-fault
returns-in_default-output_of-clause-fault c = unknown_fault c.args.version c.args.group.now c.args.buses (map listing c.args.earlier.now.lines.items) c.args.line.now (listing c.in-Some.said) _ c.new-in_default-output_of.ensures c.in-Some.ensures c.in_default-output_of.ensures.due

pub returns-then-output-clause-fault : goal.returns-then-output-clause-fault
returns-then-output-clause-fault c = listed_fault c.args.version c.args.group.now c.args.buses (map listing c.args.earlier.now.lines.items) c.args.line.now (listing c.in-Some.said) c.in-Some-output_of.output.due.now _ c.new-then-output.ensures c.in-Some.ensures c.in-Some-output_of.ensures.due (sym c.if-output.true ∙ c.in-Some-output_of.ensures.listed)

pub returns-then-said-output-clause-fault : goal.returns-then-said-output-clause-fault
returns-then-said-output-clause-fault c = period_fault c.args.version c.args.group.now c.args.buses (map listing c.args.earlier.now.lines.items) c.args.line.now (listing c.in-Some.said) c.in-Some-output_of.output.due.now _ c.new-then-said-output.ensures c.in-Some.ensures c.in-Some-output_of.ensures.due (sym c.if-output.false ∙ c.in-Some-output_of.ensures.listed) c.if-said-output.true

pub returns-in-Some-first_sharing-clause-fault : goal.returns-in-Some-first_sharing-clause-fault
returns-in-Some-first_sharing-clause-fault c = shared_fault c.args.version c.args.group.now c.args.buses (map listing c.args.earlier.now.lines.items) c.args.line.now (listing c.in-Some.said) c.in-Some-output_of.output.due.now _ c.new-in-Some-first_sharing.ensures c.in-Some.ensures c.in-Some-output_of.ensures.due (sym c.if-output.false ∙ c.in-Some-output_of.ensures.listed) c.if-said-output.false c.if-buses-said.false c.if-said.false (same_lines (listing c.in-Some.said) _ _ _ c.in-Some-first_sharing.ensures c.deref.ensures.value)

pub returns-then-says_other_hold-clause-fault : goal.returns-then-says_other_hold-clause-fault
returns-then-says_other_hold-clause-fault c = hold_fault c.args.version c.args.group.now c.args.buses (map listing c.args.earlier.now.lines.items) c.args.line.now (listing c.in-Some.said) c.in-Some-output_of.output.due.now _ c.new-then-says_other_hold.ensures c.in-Some.ensures c.in-Some-output_of.ensures.due (sym c.if-output.false ∙ c.in-Some-output_of.ensures.listed) c.if-said-output.false c.if-buses-said.false c.if-said.false (same_lines (listing c.in-Some.said) _ _ _ c.in_default-first_sharing.ensures c.deref.ensures.value) (sym c.if-says_other_hold.true ∙ c.says_other_hold.ensures)

pub returns-clause-says : goal.returns-clause-says
returns-clause-says c = record { said = sym c.in-Some.ensures; period = some_above c.if-said.false; place = sym c.in-Some-output_of.ensures.place }

pub returns-clause-fault : goal.returns-clause-fault
returns-clause-fault c = no_fault c.args.version c.args.group.now c.args.buses (map listing c.args.earlier.now.lines.items) c.args.line.now (listing c.in-Some.said) c.in-Some-output_of.output.due.now c.in-Some.ensures c.in-Some-output_of.ensures.due (sym c.if-output.false ∙ c.in-Some-output_of.ensures.listed) c.if-said-output.false c.if-buses-said.false c.if-said.false (same_lines (listing c.in-Some.said) _ _ _ c.in_default-first_sharing.ensures c.deref.ensures.value) (sym c.if-says_other_hold.false ∙ c.says_other_hold.ensures)
