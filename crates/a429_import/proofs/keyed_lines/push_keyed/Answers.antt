use Rattle.std.proofs.Common.{◌≡◌, ◌∙◌, ◌<◌, ◌+◌, ◌++◌, ◌∷◌, [], List, ℕ, suc, ap, ap₂, arith, get_or, length, subst, sym, take}
use Rattle.std.proofs.Math.Seq.{take-suc}
use Rattle.csv.specs.Records.{fields_of}
use Rattle.a429_import.specs.KeyedLines.{with_text}
use Rattle.a429_import.proofs.KeyedLines.{keyed_field, keyed_length}
use Rattle.a429_import.proofs.keyed_lines.push_keyed.Goals as goal

pub loop-place-preserved : goal.loop-place-preserved
loop-place-preserved c =
    let inv = c.loop-place.invariant in
    let fields : List (List ℕ) = fields_of c.args.line.now.fields in
    let whole : List (List ℕ) = with_text c.args.source c.args.key.now fields in
    let i : ℕ = c.loop-place.place in
    let below : i < length fields = subst (λ (n : ℕ). i < n) c.len-place-end.ensures c.loop-place-test.true in
    let within : i < length whole = let l = keyed_length c.args.source c.args.key.now fields in omega (arith, below, l) in
    let one : suc i ≡ i + 1 = omega arith in
    let here : c.keyed_at.result.now ≡ get_or whole i [] = c.keyed_at.ensures ∙ sym (keyed_field c.args.source c.args.key.now fields i below) in
    record {
      fields =
          c.in_ok-push_field.ensures.fields
          ∙ ap₂ (λ (xs : List (List ℕ)) (x : List ℕ). xs ++ x ∷ []) inv.fields (ap (λ (xs : List ℕ). xs ++ c.keyed_at.result.now) inv.partial ∙ here)
          ∙ sym (take-suc whole i [] within) ∙ ap (λ (n : ℕ). take n whole) one;
      partial = c.in_ok-push_field.ensures.partial;
    }
