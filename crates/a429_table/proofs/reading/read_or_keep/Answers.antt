use Rattle.std.proofs.lemmas.Result.{err_from_is_err_and}
use Rattle.toml.specs.View.{view}
use Rattle.a429_table.proofs.Documents.{no_root_passes}
use Rattle.a429_table.proofs.reading.read_or_keep.Goals as goal

pub returns-in_err-root : goal.returns-in_err-root
returns-in_err-root c =
    let p = err_from_is_err_and c.from_residual.result c.from_residual.ensures.1 in
    rw (p.1, p.2) (no_root_passes view (λ e. e) c.args.bytes.now c.in_err-root.field-0.0 c.in_err-root.ensures)
