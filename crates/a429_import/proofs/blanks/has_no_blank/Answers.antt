use Rattle.std.proofs.Common.{◌∙◌, Bool, List, ℕ, ap, drop, length, sym, take}
use Rattle.std.specs.Prelude.{◌==◌, ◌-◌, ◌&&◌}
use Rattle.a429_import.specs.ImportWords.{back_blank, front_blank}
use Rattle.a429_import.proofs.Trimmed.{none_if}
use Rattle.a429_import.proofs.blanks.has_no_blank.Goals as goal

pub returns-then-is_none : goal.returns-then-is_none
returns-then-is_none c =
    let field : List ℕ = c.args.field.now in
    let front = none_if (λ rest. rest.now) c.after_blank.result (front_blank field == 0) c.is_none.result (drop (front_blank field) field) c.after_blank.ensures c.is_none.ensures in
    let back = none_if (λ rest. rest.now) c.before_blank.result (back_blank field == 0) c.is_none-then-is_none.result (take (length field - back_blank field) field) c.before_blank.ensures c.is_none-then-is_none.ensures in
    back ∙ sym (ap (λ (b : Bool). b && (back_blank field == 0)) (sym front ∙ c.if-is_none.true))
