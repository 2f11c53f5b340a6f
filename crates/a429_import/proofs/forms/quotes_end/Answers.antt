use Rattle.std.proofs.Common.{◌≡◌, ◌∙◌, ◌+◌, Bool, List, None, Option, Some, ℕ, ap, arith, cond, drop, length, not, refl, slice_index_or, sym}
use Rattle.std.specs.Prelude.{◌==◌, ◌&&◌}
use Rattle.a429_import.specs.ImportForms.{quotes_end}
use Rattle.a429_import.proofs.ImportForms.{end_at, end_passed}
use Rattle.a429_import.proofs.forms.quotes_end.Goals as goal

pub loop-place-init : goal.loop-place-init
loop-place-init c = record { within = omega arith; same = refl }

pub returns-then-ends_quotes-clause-end : goal.returns-then-ends_quotes-clause-end
returns-then-ends_quotes-clause-end c =
    let text : List ℕ = c.args.text.now in
    let at : ℕ = c.loop-place.place in
    let q : Bool = c.loop-place.is_quote in
    let rest : Option ℕ = quotes_end (not q && (slice_index_or text at 0 == 34)) (at + 1) (drop (at + 1) text) in
    sym (end_passed q text at at c.loop-place-test.true ∙ ap (λ (b : Bool). cond b (Some at) rest) (sym c.ends_quotes.ensures ∙ c.if-ends_quotes.true)) ∙ c.loop-place.invariant.same

pub loop-place-preserved : goal.loop-place-preserved
loop-place-preserved c =
    let text : List ℕ = c.args.text.now in
    let at : ℕ = c.loop-place.place in
    let q : Bool = c.loop-place.is_quote in
    let rest : Option ℕ = quotes_end (not q && (slice_index_or text at 0 == 34)) (at + 1) (drop (at + 1) text) in
    record {
      within = omega (arith, c.loop-place-test.true);
      same =
          ap (λ (b : Bool). quotes_end b (at + 1) (drop (at + 1) text)) c.may_close-is_quote.ensures
          ∙ sym (end_passed q text at at c.loop-place-test.true ∙ ap (λ (b : Bool). cond b (Some at) rest) (sym c.ends_quotes.ensures ∙ c.if-ends_quotes.false))
          ∙ c.loop-place.invariant.same;
    }

pub returns-then-is_quote-clause-end : goal.returns-then-is_quote-clause-end
returns-then-is_quote-clause-end c =
    let text : List ℕ = c.args.text.now in
    let at : ℕ = c.loop-place.place in
    let all : length text ≡ at = omega (arith, c.loop-place.invariant.within, c.loop-place-test.false) in
    ap (λ (n : ℕ). Some n) all
    ∙ sym (end_at c.loop-place.is_quote text at at c.loop-place-test.false ∙ ap (λ (b : Bool). cond b (Some at) None) c.if-is_quote.true) ∙ c.loop-place.invariant.same

pub returns-else-is_quote-clause-end : goal.returns-else-is_quote-clause-end
returns-else-is_quote-clause-end c =
    let text : List ℕ = c.args.text.now in
    let at : ℕ = c.loop-place.place in
    sym (end_at c.loop-place.is_quote text at at c.loop-place-test.false ∙ ap (λ (b : Bool). cond b (Some at) None) c.if-is_quote.false) ∙ c.loop-place.invariant.same
