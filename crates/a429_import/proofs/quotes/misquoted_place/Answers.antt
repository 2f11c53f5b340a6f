use Rattle.std.proofs.Common.{◌≡◌, ◌∙◌, ◌+◌, Bool, List, None, Some, ℕ, ap, ap₂, cond, drop, false, get_or, sym, true}
use Rattle.csv.specs.Machine.{step}
use Rattle.csv.specs.declared.parser.Config.{Config}
use Rattle.csv.specs.declared.parser.State.{State}
use Rattle.a429_import.specs.FaultLines.{wrong_from}
use Rattle.a429_import.specs.ImportQuotes.{breaks_quotes}
use Rattle.a429_import.specs.ImportSteps.{begins_field, state_of}
use Rattle.a429_import.specs.Imports.{separated}
use Rattle.a429_import.proofs.FaultLines.{drop_cond, wrong_at_end, wrong_passed}
use Rattle.a429_import.proofs.quotes.misquoted_place.Goals as goal

pub loop-place-preserved : goal.loop-place-preserved
loop-place-preserved c =
    let cfg : Config = separated c.args.separator in
    let text : List ℕ = c.args.text.now in
    let at = c.loop-place in
    let s : State = state_of at.part in
    let next : State = state_of c.pass-next.result in
    let byte : ℕ = get_or text at.place 0 in
    let later : List ℕ = drop (at.place + 1) text in
    let none : breaks_quotes c.args.of_rows s (step cfg s byte).0 ≡ false = sym (ap (λ (t : State). breaks_quotes c.args.of_rows s t) c.pass-next.ensures) ∙ sym c.breaks_quotes.ensures ∙ c.if-breaks_quotes.false in
    let begin : drop c.field_after-begin.result text ≡ cond (begins_field (step cfg s byte).0) later (drop at.begin text) =
    ap (λ (n : ℕ). drop n text) (c.field_after-begin.ensures ∙ ap (λ (t : State). cond (begins_field t) (at.place + 1) at.begin) c.pass-next.ensures)
    ∙ drop_cond (begins_field (step cfg s byte).0) (at.place + 1) at.begin text in
    let field : wrong_from c.args.of_rows cfg s (drop at.begin text) (drop at.place text) ≡ wrong_from c.args.of_rows cfg (step cfg s byte).0 (cond (begins_field (step cfg s byte).0) later (drop at.begin text)) later =
    wrong_passed c.args.of_rows cfg s (drop at.begin text) text at.place c.loop-place-test.true
    ∙ ap (λ (t : Bool). cond t (Some (drop at.begin text)) (wrong_from c.args.of_rows cfg (step cfg s byte).0 (cond (begins_field (step cfg s byte).0) later (drop at.begin text)) later)) none in
    ap₂ (λ (t : State) (f : List ℕ). wrong_from c.args.of_rows cfg t f later) c.pass-next.ensures begin ∙ sym field ∙ at.invariant

pub returns-then-breaks_quotes : goal.returns-then-breaks_quotes
returns-then-breaks_quotes c =
    let cfg : Config = separated c.args.separator in
    let text : List ℕ = c.args.text.now in
    let at = c.loop-place in
    let s : State = state_of at.part in
    let byte : ℕ = get_or text at.place 0 in
    let later : List ℕ = drop (at.place + 1) text in
    let is : breaks_quotes c.args.of_rows s (step cfg s byte).0 ≡ true = sym (ap (λ (t : State). breaks_quotes c.args.of_rows s t) c.pass-next.ensures) ∙ sym c.breaks_quotes.ensures ∙ c.if-breaks_quotes.true in
    sym (wrong_passed c.args.of_rows cfg s (drop at.begin text) text at.place c.loop-place-test.true
    ∙ ap (λ (t : Bool). cond t (Some (drop at.begin text)) (wrong_from c.args.of_rows cfg (step cfg s byte).0 (cond (begins_field (step cfg s byte).0) later (drop at.begin text)) later)) is)
    ∙ at.invariant

pub returns-then-is_inside_quotes : goal.returns-then-is_inside_quotes
returns-then-is_inside_quotes c =
    let at = c.loop-place in
    let field : List ℕ = drop at.begin c.args.text.now in
    sym (wrong_at_end c.args.of_rows (separated c.args.separator) (state_of at.part) field c.args.text.now at.place c.loop-place-test.false
    ∙ ap (λ (t : Bool). cond t (Some field) None) (sym c.is_inside_quotes.ensures ∙ c.if-is_inside_quotes.true)) ∙ at.invariant

pub returns-else-is_inside_quotes : goal.returns-else-is_inside_quotes
returns-else-is_inside_quotes c =
    let at = c.loop-place in
    let field : List ℕ = drop at.begin c.args.text.now in
    sym (wrong_at_end c.args.of_rows (separated c.args.separator) (state_of at.part) field c.args.text.now at.place c.loop-place-test.false
    ∙ ap (λ (t : Bool). cond t (Some field) None) (sym c.is_inside_quotes.ensures ∙ c.if-is_inside_quotes.false)) ∙ at.invariant
