use Rattle.std.proofs.Common.{ℕ, List, subst}
use Rattle.a429_cert.specs.Judged.{IsVerdictOnBytes}
use Rattle.a429_cert.specs.Verdicts.{verdict_of}
use Rattle.a429_cli.proofs.checks.verdict_on.Goals as goal

pub returns-in-Ok : goal.returns-in-Ok
returns-in-Ok c =
    let due = c.in-Ok.ensures.answer in
    subst (λ (t : List ℕ). IsVerdictOnBytes c.args.table.now t (verdict_of c.in-Ok.refusal)) c.deref.ensures.value (c.in_ok-equipment.equipment, due.0, c.in_ok-equipment.ensures, due.1, due.2)
