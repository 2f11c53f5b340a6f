use Rattle.std.proofs.Common.{◌≡◌, ◌∙◌, ◌+◌, ◌^◌, ◌<◌, ◌≤◌, Fits, ap, arith, length, drop, map, List, ℕ, refl, subst, sym, w64}
use Rattle.std.proofs.lemmas.List.{map-append}
use Rattle.std.proofs.lemmas.Result.{IfOk-from_err}
use borrow.Author.Count.{falls}
use Rattle.a429_cert.specs.declared.due.DueOutput.{DueOutput}
use Rattle.a429_cert.specs.Earlier.{AreNoted}
use Rattle.a429_cert.specs.Views.{listing}
use Rattle.a429_cert.specs.Lines.{lines_of, line_at}
use Rattle.a429_cert.proofs.Groups.{memory_ends}
use Rattle.a429_cert.proofs.Walk.{walk_starts, walk_done, step_on, step_ends, fault_here, listed_more, line_from, rest_from}
use Rattle.a429_cert.proofs.Noted.{noted_more, place_within}
use Rattle.a429_cert.proofs.output_lines.check_outputs.Goals as goal

in_outputs : (i k n : ℕ) → i < k → k ≡ n → i < n
in_outputs i k n below same = omega arith

line_fits : (a i n k : ℕ) → a + n < 2 ^ 64 → i < k → k ≡ n → Fits w64 (a + i)
line_fits a i n k fits below same = omega arith

is_last : {j n : ℕ} → j ≤ n → n ≤ j → j ≡ n
is_last within past = omega arith

pub returns-in-Err-clause-answer : goal.returns-in-Err-clause-answer
returns-in-Err-clause-answer c =
    let i = c.loop-place.invariant in
    let lt = in_outputs c.loop-place.place _ _ c.loop-place-test.true (c.len-place-end.ensures ∙ c.args.group.now.outputs.ok.0) in
    let here = fault_here c.args.version c.args.group.now c.args.buses c.loop-place.place (lines_of c.args.lines.now.rest.now) _ _ _ _ i.listed i.rest c.next_line-line.ensures.line c.in-Err.ensures.fault in
    rw c.at_line.ensures (i.answer ∙ step_ends c.args.version c.args.group.now c.args.buses c.args.number c.loop-place.place (length c.args.group.now.outputs.items) (lines_of c.args.lines.now.rest.now) c.in-Err.fault lt here)

pub loop-place-preserved : goal.loop-place-preserved
loop-place-preserved c =
    let i = c.loop-place.invariant in
    let lt = in_outputs c.loop-place.place _ _ c.loop-place-test.true (c.len-place-end.ensures ∙ c.args.group.now.outputs.ok.0) in
    let here = fault_here c.args.version c.args.group.now c.args.buses c.loop-place.place (lines_of c.args.lines.now.rest.now) _ _ _ _ i.listed i.rest c.next_line-line.ensures.line c.in-Ok.ensures.fault in
    let at-j : c.next_line-line.result.now ≡ line_at (lines_of c.args.lines.now.rest.now) c.loop-place.place = c.next_line-line.ensures.line ∙ ap (λ (r : List (List ℕ)). line_at r 0) i.rest ∙ line_from (lines_of c.args.lines.now.rest.now) c.loop-place.place in
    let says = c.in-Ok.ensures.says in
    let added = c.in_ok-add-in-Ok.ensures in
    record {
      listed = rw (added.lines, map-append, i.listed, listed_more c.args.version (lines_of c.args.lines.now.rest.now) c.loop-place.place (listing c.in-Ok.checked.said) (rw at-j at says.said)) refl;
      noted = noted_more c.args.group.now.outputs.items c.loop-place.earlier c.add.new.self c.in-Ok.checked.said c.in-Ok.checked.place i.noted says.place says.period added.lines added.listed added.last;
      rest = c.next_line-line.ensures.rest ∙ ap (λ (r : List (List ℕ)). drop 1 r) i.rest ∙ rest_from (lines_of c.args.lines.now.rest.now) c.loop-place.place;
      answer = i.answer ∙ step_on c.args.version c.args.group.now c.args.buses c.args.number c.loop-place.place (length c.args.group.now.outputs.items) (lines_of c.args.lines.now.rest.now) lt here;
    }

pub returns-in_err-earlier-clause-answer : goal.returns-in_err-earlier-clause-answer
returns-in_err-earlier-clause-answer c = memory_ends _ _ c.from_residual.ensures.1

pub returns-in_err-earlier-clause-rest : goal.returns-in_err-earlier-clause-rest
returns-in_err-earlier-clause-rest c = IfOk-from_err _ _ c.from_residual.ensures.0

pub loop-place-init : goal.loop-place-init
loop-place-init c = record {
  listed = ap (map listing) c.in_ok-earlier.ensures.lines;
  noted = subst (λ (os : List DueOutput). AreNoted os c.in_ok-earlier.earlier) c.deref.ensures.value c.in_ok-earlier.ensures.noted;
  rest = refl;
  answer = walk_starts c.args.version c.args.group.now c.args.buses c.args.number (length c.args.group.now.outputs.items) (lines_of c.args.lines.now.rest.now);
}

pub add-requires : goal.add-requires
add-requires c = record {
  place = subst (λ (n : ℕ). c.in-Ok.checked.place < n) (sym c.loop-place.invariant.noted.count) (place_within _ _ _ c.in-Ok.ensures.says.place);
}

pub overflow_add-number : goal.overflow_add-number
overflow_add-number c = line_fits _ _ _ _ c.requires.fits c.loop-place-test.true (c.len-place-end.ensures ∙ c.args.group.now.outputs.ok.0)

pub returns-in_err-add-in-Ok-clause-answer : goal.returns-in_err-add-in-Ok-clause-answer
returns-in_err-add-in-Ok-clause-answer c = memory_ends _ _ c.from_residual-in_err-add-in-Ok.ensures.1

pub returns-in_err-add-in-Ok-clause-rest : goal.returns-in_err-add-in-Ok-clause-rest
returns-in_err-add-in-Ok-clause-rest c = IfOk-from_err _ _ c.from_residual-in_err-add-in-Ok.ensures.0

pub checked_output-requires-clause-modest : goal.checked_output-requires-clause-modest
checked_output-requires-clause-modest c = c.requires.modest

pub checked_output-requires-clause-noted : goal.checked_output-requires-clause-noted
checked_output-requires-clause-noted c = c.loop-place.invariant.noted

pub returns-in-Err-clause-rest : goal.returns-in-Err-clause-rest
returns-in-Err-clause-rest c = tt

pub loop-place-smaller : goal.loop-place-smaller
loop-place-smaller c = falls c.len-place-end.result c.loop-place.place c.loop-place-test.true

pub returns-clause-answer : goal.returns-clause-answer
returns-clause-answer c =
    walk_done c.args.version c.args.group.now c.args.buses c.args.number c.loop-place.place (length c.args.group.now.outputs.items) (lines_of c.args.lines.now.rest.now) _ (subst (λ (n : ℕ). n ≤ c.loop-place.place) (c.len-place-end.ensures ∙ c.args.group.now.outputs.ok.0) c.loop-place-test.false) c.loop-place.invariant.answer

pub returns-clause-rest : goal.returns-clause-rest
returns-clause-rest c =
    c.loop-place.invariant.rest ∙ ap (λ (n : ℕ). drop n (lines_of c.args.lines.now.rest.now)) (is_last c.loop-place.auto.place-end c.loop-place-test.false ∙ c.len-place-end.ensures ∙ c.args.group.now.outputs.ok.0)
