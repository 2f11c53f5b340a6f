use Rattle.std.proofs.Common.{◌≡◌, ◌<◌, ◌+◌, ◌∙◌, ◌++◌, List, ℕ, suc, ap, ap₂, arith, length, subst, sym, take}
use Rattle.csv.specs.Records.{fields_of}
use Rattle.a429_import.specs.KeptFields.{kept_heading, kept_in, kept_line}
use Rattle.a429_import.proofs.KeptFields.{kept_more, kept_none}
use Rattle.a429_import.proofs.kept.kept_in.Goals as goal

pub loop-place-init : goal.loop-place-init
loop-place-init c = c.new-text.ensures ∙ sym (kept_none (fields_of c.args.heading.now.fields))

pub loop-place-preserved : goal.loop-place-preserved
loop-place-preserved c =
    let heading : List (List ℕ) = fields_of c.args.heading.now.fields in
    let fields : List (List ℕ) = fields_of c.args.line.now.fields in
    let i : ℕ = c.loop-place.place in
    let below : i < length fields = subst (λ (n : ℕ). i < n) c.len-place-end.ensures c.loop-place-test.true in
    let one : suc i ≡ i + 1 = omega arith in
    c.put_line.ensures
    ∙ ap (λ (xs : List ℕ). xs ++ kept_line (kept_heading c.field.result.now) c.field-in-loop-place.result.now) c.loop-place.invariant
    ∙ ap₂ (λ (h f : List ℕ). kept_in heading (take i fields) ++ kept_line (kept_heading h) f) c.field.ensures c.field-in-loop-place.ensures
    ∙ sym (kept_more heading fields i below) ∙ ap (λ (n : ℕ). kept_in heading (take n fields)) one
