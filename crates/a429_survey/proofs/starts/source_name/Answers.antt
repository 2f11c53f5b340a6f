use Rattle.std.proofs.Common.{◌≡◌, ◌++◌, List, ℕ, IfOk, codes, refl, string_bytes, subst}
use Rattle.a429_survey.specs.Starts.{source_name}
use Rattle.a429_survey.proofs.starts.source_name.Goals as goal

pub returns : goal.returns
returns c =
    let high = c.octal_digit-high.result.now in
    let middle = c.octal_digit-middle.result.now in
    let low = c.octal_digit-low.result.now in
    let suffix = c.sdi_suffix-suffix.result.now in
    let same : c.args.name.now ++ (codes "-" ++ (high ++ (middle ++ (low ++ suffix)))) ≡ source_name c.args.name.now c.args.label c.args.sdi =
    rw (c.octal_digit-high.ensures, c.octal_digit-middle.ensures, c.octal_digit-low.ensures, c.sdi_suffix-suffix.ensures) refl in
    subst (λ (bytes : List ℕ). IfOk c.format.result (λ text. string_bytes text ≡ bytes)) same c.format.ensures.ok
