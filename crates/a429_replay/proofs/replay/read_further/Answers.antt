use Rattle.std.proofs.Common.{◌∙◌, ap, map}
use Rattle.std.specs.Prelude.{Err}
use Rattle.std.proofs.lemmas.Result.{err_from_is_err_and}
use Rattle.a429_console.proofs.ReadingParts.{read_weaker}
use Rattle.a429_console.specs.FileReadings.{IsFirstUnread}
use Rattle.a429_console.specs.RefusalText.{OrMemory}
use Rattle.a429_console.proofs.Refused.{failed}
use Rattle.a429_replay.proofs.replay.read_further.Goals as goal

pub returns-in_err-tables : goal.returns-in_err-tables
returns-in_err-tables g c =
    let p = err_from_is_err_and c.from_residual.result c.from_residual.ensures.1 in
    read_weaker c.in_err-tables.ensures (λ file bad. failed c.from_residual.result _ (OrMemory (IsFirstUnread file (map (λ n. n.now) c.args.names.now))) c.in_err-tables.field-0.0 (p.1 ∙ ap Err p.2) bad)
