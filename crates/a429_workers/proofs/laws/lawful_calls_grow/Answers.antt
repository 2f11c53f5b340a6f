use Rattle.a429_workers.proofs.Growing.{lawful_push, standing_push, loads_push}
use Rattle.a429_workers.proofs.laws.lawful_calls_grow.Goals as goal

pub returns-clause-lawful : goal.returns-clause-lawful
returns-clause-lawful c = lawful_push

pub returns-clause-standing : goal.returns-clause-standing
returns-clause-standing c = standing_push

pub returns-clause-loads : goal.returns-clause-loads
returns-clause-loads c = loads_push
