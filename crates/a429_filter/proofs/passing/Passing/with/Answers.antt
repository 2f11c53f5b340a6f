use Rattle.std.proofs.Common.{ℕ, sym, ap, ◌∙◌, false, Bool, get_or, set, get_or-set_same, get_or-set_other, length-set, le_refl, inl, inr, arith}
use Rattle.std.specs.Prelude.{◌||◌}
use Rattle.std.proofs.lemmas.Bool.{cases_eq}
use Rattle.a429_filter.specs.Filters.{passes}
use Rattle.a429_filter.proofs.passing.Passing.with.Goals as goal

pub loop-value-preserved : goal.loop-value-preserved
loop-value-preserved c =
    let labels = c.loop-value.labels in
    let value = c.loop-value.value in
    let before = c.args.self.now.labels in
    let filter = c.args.filter.now in
    let known = c.loop-value.invariant in
    record {
      sized = length-set labels value _ ∙ known.sized;
      done = λ label below. elim (cases_eq label value) [
        | inl is ↦
            let passed : Bool = get_or labels value false || c.passes-passes.result in
            ap (λ (n : ℕ). get_or (set labels value passed) n false) is ∙ get_or-set_same labels value passed false (omega (arith, known.sized, c.loop-value-test.true))
            ∙ ap (λ (b : Bool). b || c.passes-passes.result) (known.left value (le_refl value))
            ∙ ap (λ (b : Bool). get_or before value false || b) (c.passes-passes.ensures ∙ ap (passes filter) c.new.ensures)
            ∙ ap (λ (n : ℕ). get_or before n false || passes filter n) (sym is)
        | inr away ↦ get_or-set_other labels value label _ false away ∙ known.done label (omega (arith, below, away))
      ];
      left = λ label above. get_or-set_other labels value label _ false (omega (arith, above)) ∙ known.left label (omega (arith, above));
    }
