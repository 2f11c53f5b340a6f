use Rattle.a429_console.proofs.ReadingParts.{read_weaker}
use Rattle.std.proofs.Common.{◌∙◌, ap, inl, map}
use Rattle.std.specs.Prelude.{Err}
use Rattle.std.proofs.lemmas.Result.{err_from_is_err_and}
use Rattle.a429_console.specs.FileReadings.{IsFileRefusal}
use Rattle.a429_console.specs.RefusalText.{OrMemory}
use Rattle.a429_console.proofs.Refused.{failed, or_memory_weaker}
use Rattle.a429_cli.specs.LineReplies.{IsLinesRefusal}
use Rattle.a429_cli.proofs.lines.read_line.Goals as goal

pub returns-in_err-bytes : goal.returns-in_err-bytes
returns-in_err-bytes g c =
    let e = c.in_err-bytes.field-0.0 in
    let p = err_from_is_err_and c.from_residual.result c.from_residual.ensures.1 in
    read_weaker c.in_err-bytes.ensures (λ file bad.
    let none = IsLinesRefusal file c.args.name.now (map (λ f. f.now) c.args.filters.now) in
    failed c.from_residual.result _ (OrMemory none) e (p.1 ∙ ap Err p.2)
    (or_memory_weaker (IsFileRefusal file c.args.name.now) none e (λ one. inl one) bad))
