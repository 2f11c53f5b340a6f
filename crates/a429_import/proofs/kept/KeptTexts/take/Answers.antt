use Rattle.std.proofs.Common.{List, ℕ, subst}
use Rattle.a429_import.specs.declared.kept.KeptText.{KeptText}
use Rattle.a429_import.specs.declared.kept.KeptTexts.{KeptTexts}
use Rattle.a429_import.specs.KeptFields.{TakesText}
use Rattle.a429_import.proofs.KeptFields.{text_taken}
use Rattle.a429_import.proofs.kept.KeptTexts.take.Goals as goal

pub returns-in_ok-push : goal.returns-in_ok-push
returns-in_ok-push c =
    let text : KeptText = record { source = c.in_ok-from_slice.field-0; lines = c.args.lines } in
    let new : KeptTexts = record { texts = c.push.new.self } in
    subst (λ (source : List ℕ). TakesText c.args.self.now new source c.args.lines.items) c.in_ok-from_slice.ensures.items (text_taken c.args.self.now new text c.in_ok-push.ensures.items)
