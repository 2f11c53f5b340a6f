use Rattle.std.proofs.Common.{inr, refl}
use Rattle.std.proofs.lemmas.Result.{on_ok_weaker}
use Rattle.a429_console.specs.declared.refusals.CommandRefusal.TheVariants.{Memory}
use Rattle.a429_console.proofs.refusals.put_refusal.Goals as goal

pub returns-clause-line : goal.returns-clause-line
returns-clause-line g c = on_ok_weaker c.refuse_memory_as.result (λ line. (Memory, inr refl, line)) c.refuse_memory_as.ensures.line
