use Rattle.std.proofs.lemmas.Result.{IfOk-from_err}
use Rattle.a429_cert.proofs.text.write_head.Goals as goal

pub returns-in_err-writeln : goal.returns-in_err-writeln
returns-in_err-writeln c = IfOk-from_err _ _ c.from_residual.ensures.0
