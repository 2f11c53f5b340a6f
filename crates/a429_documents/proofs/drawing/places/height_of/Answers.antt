use Rattle.std.proofs.Common.{◌≡◌, ◌+◌, ◌∙◌, arith, ap, ap₂, sym, ℕ}
use Rattle.std.specs.Prelude.{Option}
use Rattle.std.specs.Option.{option_map_or}
use Rattle.a429_slots.specs.Tables.{SlotTable}
use Rattle.a429_documents.specs.Drawing.{group_height, height_at}
use Rattle.a429_documents.proofs.Ranges.{summed_more}
use Rattle.a429_documents.proofs.drawing.places.height_of.Goals as goal

pub loop-place-preserved : goal.loop-place-preserved
loop-place-preserved c =
    let form = c.args.form in
    let height : ℕ → ℕ = λ k. height_at form c.args.plan.now (c.args.first + k) in
    let one : c.group_height-height.result ≡ height c.loop-place.place =
    c.group_height-height.ensures.value ∙ sym (ap (λ (t : Option SlotTable). option_map_or (group_height form) t 0) c.group.ensures) in
    let kept = c.loop-place.invariant in (
      ap₂ (λ (a b : ℕ). a + b) kept.0 one ∙ sym (summed_more height c.loop-place.place),
      omega (arith, kept.1, c.group_height-height.ensures.few),
    )
