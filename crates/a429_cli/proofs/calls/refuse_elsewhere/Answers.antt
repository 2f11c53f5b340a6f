use Rattle.std.specs.Prelude.{true}
use Rattle.a429_arguments.specs.Usage.{elsewhere}
use Rattle.a429_cli.proofs.calls.refuse_elsewhere.Goals as goal

pub returns : goal.returns
returns g c = c.explained.ensures.ends (elsewhere true) c.other_call_error-error.ensures
