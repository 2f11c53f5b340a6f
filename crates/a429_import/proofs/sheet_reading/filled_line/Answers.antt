use Rattle.std.proofs.Common.{◌≡◌, ◌<◌, ◌+◌, ◌∙◌, ◌++◌, ◌∷◌, [], List, ℕ, suc, ap, ap₂, arith, length, subst, sym, take}
use Rattle.csv.specs.Records.{fields_of}
use Rattle.a429_import.specs.FilledLines.{filled_below, filled_from}
use Rattle.a429_import.specs.ImportFields.{field_in}
use Rattle.a429_import.proofs.FilledLines.{filled_more}
use Rattle.a429_import.proofs.sheet_reading.filled_line.Goals as goal

pub loop-place-init : goal.loop-place-init
loop-place-init c = record { fields = c.new-fields.ensures.fields; partial = c.new-fields.ensures.partial }

pub loop-place-preserved : goal.loop-place-preserved
loop-place-preserved c =
    let inv = c.loop-place.invariant in
    let heading : List (List ℕ) = fields_of c.args.heading.now in
    let above : List (List ℕ) = fields_of c.args.above.now in
    let fields : List (List ℕ) = fields_of c.args.line.now.fields in
    let i : ℕ = c.loop-place.place in
    let below : i < length fields = subst (λ (n : ℕ). i < n) c.len-place-end.ensures c.loop-place-test.true in
    let one : suc i ≡ i + 1 = omega arith in
    let here : 0 + i ≡ i = omega arith in
    record {
      fields =
          c.in_ok-push_field.ensures.fields
          ∙ ap₂ (λ (xs : List (List ℕ)) (part : List ℕ). xs ++ (part ++ c.filled_below-field.result.now) ∷ []) inv.fields inv.partial
          ∙ ap (λ (f : List ℕ). filled_from 0 heading above (take i fields) ++ f ∷ []) (c.filled_below-field.ensures ∙ ap₂ (λ (h a : List ℕ). filled_below h a c.field.result.now) c.field_at.ensures c.field_at-in-loop-place.ensures
          ∙ ap (filled_below (field_in i heading) (field_in i above)) c.field.ensures)
          ∙ ap (λ (n : ℕ). filled_from 0 heading above (take i fields) ++ filled_below (field_in n heading) (field_in n above) (field_in i fields) ∷ []) (sym here)
          ∙ sym (filled_more 0 heading above fields i below) ∙ ap (λ (n : ℕ). filled_from 0 heading above (take n fields)) one;
      partial = c.in_ok-push_field.ensures.partial;
    }
