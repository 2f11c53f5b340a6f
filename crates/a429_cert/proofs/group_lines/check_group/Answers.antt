use Rattle.std.proofs.Common.{◌≡◌, ◌+◌, ◌^◌, ◌<◌, ◌≤◌, ◌∙◌, Err, Fits, List, Ok, OnOk, Result, ℕ, ap, arith, drop, length, subst, w64}
use Rattle.std.proofs.lemmas.List.{drop-drop}
use Rattle.std.proofs.lemmas.Result.{IfOk-from_err, err_from_is_err_and}
use Rattle.a429_cert.specs.declared.line.GroupLine.{GroupLine}
use Rattle.a429_cert.specs.declared.stops.CheckStop.{CheckStop}
use Rattle.a429_cert.specs.declared.stops.CheckStop.TheVariants as stops
use Rattle.a429_cert.specs.Lines.{lines_of}
use Rattle.a429_cert.specs.Faults.{GivesReason, buses_of, group_fault}
use Rattle.a429_cert.proofs.Groups.{passes, fails, group_ends, group_passes, last_gives, last_line}
use Rattle.a429_cert.proofs.group_lines.check_group.Goals as goal

rest_after : (lines rest left last : List (List ℕ)) (n : ℕ) → rest ≡ drop 1 lines → left ≡ drop n rest → last ≡ drop 1 left → last ≡ drop (n + 2) lines
rest_after lines rest left last n e f g =
    rw (g, f, e, drop-drop n 1 lines, drop-drop 1 (1 + n) lines) (ap (λ (k : ℕ). drop k lines) (omega arith))

known : {P : Type 0} (r : Result (Unit {0}) CheckStop) → P → OnOk r P
known (Ok x) p = p
known (Err s) p = tt

next_fits : (a n : ℕ) → a + n + 2 < 2 ^ 64 → Fits w64 (a + 1)
next_fits a n fits = omega arith

outputs_fit : (a n : ℕ) → a + n + 2 < 2 ^ 64 → a + 1 + n < 2 ^ 64
outputs_fit a n fits = omega arith

last_fits : (a n k : ℕ) → a + n + 2 < 2 ^ 64 → k ≡ n → Fits w64 (a + k) × Fits w64 (a + k + 1)
last_fits a n k fits same = (omega arith, omega arith)

pub returns-in_err-check_outputs-clause-answer : goal.returns-in_err-check_outputs-clause-answer
returns-in_err-check_outputs-clause-answer c =
    let P : GroupLine → Type 0 = λ l. (l.buses ≡ buses_of c.args.version c.next_line.result.now) × (1 ≤ l.buses) × (l.buses ≤ 16) in
    let fine = passes c.checked_group.result c.in_ok-buses.field-0 _ (λ r. stops.Refused (record { reason = r; line = c.args.number })) P c.in_ok-buses.ensures c.checked_group.ensures.fault c.checked_group.ensures.says in
    let p = err_from_is_err_and c.from_residual-in_err-check_outputs.result c.from_residual-in_err-check_outputs.ensures.1 in
    rw (p.1, p.2) (group_ends c.args.version c.args.group.now (lines_of c.args.lines.now.rest.now) (lines_of c.next_line.new.self.rest.now) c.next_line.result.now c.args.number c.in_ok-buses.field-0.buses c.in_err-check_outputs.field-0.0
    c.next_line.ensures.line c.next_line.ensures.rest fine.0 fine.1.0 c.in_err-check_outputs.ensures.answer)

pub returns-clause-answer : goal.returns-clause-answer
returns-clause-answer c =
    let P : GroupLine → Type 0 = λ l. (l.buses ≡ buses_of c.args.version c.next_line.result.now) × (1 ≤ l.buses) × (l.buses ≤ 16) in
    let fine = passes c.checked_group.result c.in_ok-buses.field-0 _ (λ r. stops.Refused (record { reason = r; line = c.args.number })) P c.in_ok-buses.ensures c.checked_group.ensures.fault c.checked_group.ensures.says in
    let last = last_line (lines_of c.args.lines.now.rest.now) (lines_of c.next_line.new.self.rest.now) (lines_of c.check_outputs.new.lines.rest.now) (length c.args.group.now.outputs.items) c.next_line.ensures.rest c.in_ok-check_outputs.ensures.rest in
    let count = c.len.ensures ∙ c.args.group.now.outputs.ok.0 in
    group_passes c.args.version c.args.group.now (lines_of c.args.lines.now.rest.now) (lines_of c.next_line.new.self.rest.now) c.next_line.result.now c.next_line-2.result.now c.args.number c.in_ok-buses.field-0.buses c.with_line_number-2.result
    c.next_line.ensures.line c.next_line.ensures.rest fine.0 fine.1.0 c.in_ok-check_outputs.ensures.answer (c.next_line-2.ensures.line ∙ last)
    (last_gives c.checked_bound.result c.with_line_number-2.result _ _ (rw count at c.with_line_number-2.ensures) c.checked_bound.ensures)

pub returns-in_err-buses-clause-answer : goal.returns-in_err-buses-clause-answer
returns-in_err-buses-clause-answer c =
    let p = err_from_is_err_and c.from_residual.result c.from_residual.ensures.1 in
    let fault = subst (λ (line : List ℕ). GivesReason c.checked_group.result (group_fault c.args.version c.args.group.now line)) c.next_line.ensures.line c.checked_group.ensures.fault in
    rw (p.1, p.2) (fails c.checked_group.result c.in_err-buses.field-0.0 _ c.args.number _ c.in_err-buses.ensures fault)

pub returns-in_err-buses-clause-rest : goal.returns-in_err-buses-clause-rest
returns-in_err-buses-clause-rest c = IfOk-from_err _ _ c.from_residual.ensures.0

pub overflow_add-number : goal.overflow_add-number
overflow_add-number c = next_fits _ _ c.requires.fits

pub check_outputs-requires-clause-modest : goal.check_outputs-requires-clause-modest
check_outputs-requires-clause-modest c = c.requires.modest

pub check_outputs-requires-clause-fits : goal.check_outputs-requires-clause-fits
check_outputs-requires-clause-fits c = outputs_fit _ _ c.requires.fits

pub returns-in_err-check_outputs-clause-rest : goal.returns-in_err-check_outputs-clause-rest
returns-in_err-check_outputs-clause-rest c = IfOk-from_err _ _ c.from_residual-in_err-check_outputs.ensures.0

pub checked_bound-requires-clause-modest : goal.checked_bound-requires-clause-modest
checked_bound-requires-clause-modest c = c.requires.modest

pub checked_bound-requires-clause-some : goal.checked_bound-requires-clause-some
checked_bound-requires-clause-some c =
    let P : GroupLine → Type 0 = λ l. (l.buses ≡ buses_of c.args.version c.next_line.result.now) × (1 ≤ l.buses) × (l.buses ≤ 16) in
    (passes c.checked_group.result c.in_ok-buses.field-0 _ (λ r. stops.Refused (record { reason = r; line = c.args.number })) P c.in_ok-buses.ensures c.checked_group.ensures.fault c.checked_group.ensures.says).1.1

pub checked_bound-requires-clause-few : goal.checked_bound-requires-clause-few
checked_bound-requires-clause-few c =
    let P : GroupLine → Type 0 = λ l. (l.buses ≡ buses_of c.args.version c.next_line.result.now) × (1 ≤ l.buses) × (l.buses ≤ 16) in
    (passes c.checked_group.result c.in_ok-buses.field-0 _ (λ r. stops.Refused (record { reason = r; line = c.args.number })) P c.in_ok-buses.ensures c.checked_group.ensures.fault c.checked_group.ensures.says).1.2

pub overflow_add-last : goal.overflow_add-last
overflow_add-last c =
    (last_fits _ _ _ c.requires.fits (c.len.ensures ∙ c.args.group.now.outputs.ok.0)).0

pub overflow_add-last-2 : goal.overflow_add-last-2
overflow_add-last-2 c =
    (last_fits _ _ _ c.requires.fits (c.len.ensures ∙ c.args.group.now.outputs.ok.0)).1

pub returns-clause-rest : goal.returns-clause-rest
returns-clause-rest c =
    known c.with_line_number-2.result (rest_after (lines_of c.args.lines.now.rest.now) _ _ _ (length c.args.group.now.outputs.items) c.next_line.ensures.rest c.in_ok-check_outputs.ensures.rest c.next_line-2.ensures.rest)
