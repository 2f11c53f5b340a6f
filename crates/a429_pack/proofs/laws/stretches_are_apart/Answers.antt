use Rattle.a429_pack.proofs.Tables.{stretches_apart, stretch_within}
use Rattle.a429_pack.proofs.laws.stretches_are_apart.Goals as goal

pub returns-clause-apart : goal.returns-clause-apart
returns-clause-apart c = stretches_apart

pub returns-clause-within : goal.returns-clause-within
returns-clause-within c = stretch_within
