use Rattle.std.proofs.Common.{zero-le, le_refl}
use Rattle.a429_equipment.specs.Agreement.{is_of}
use Rattle.a429_equipment.proofs.Cutting.{found, least}
use Rattle.a429_equipment.proofs.laws.agreement_is_computed.Goals as goal

pub returns-clause-found : goal.returns-clause-found
returns-clause-found c = λ t r last A loads e. found (is_of t r) A 0 loads last zero-le e

pub returns-clause-least : goal.returns-clause-least
returns-clause-least c = λ t r last A loads h. least (is_of t r) A 0 0 loads last (le_refl 0) zero-le h
