-- The station of a plan on which a command works.
use Rattle.std.proofs.Common.{◌≡◌, ℕ, List, subst, sym}
use Rattle.std.specs.Prelude.{None, Ok, Option, Some}
use Rattle.a429_equipment.specs.TableRecord.{TableRecord}
use Rattle.a429_slots.specs.Planned.{IsPlanOf}
use Rattle.a429_slots.specs.Proposed.{Proposed}
use Rattle.a429_table.specs.Reading.{reading}
use Rattle.a429_given.specs.GivenPlans.{IsPlanIn}

-- the table states it, and the plan is one of it
pub given_station : (plan : Option (List ℕ)) (table : List ℕ) (q : Proposed) → IsPlanIn plan table q → (reading table ≡ Ok q.station) × IsPlanOf q.station q.plan
given_station None table q is = (is.0, is.1)
given_station (Some text) table q is = (subst (λ (e : TableRecord). reading table ≡ Ok e) (sym is.3.station) is.2.0, is.0)
