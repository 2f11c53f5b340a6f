-- A proposal: the record of a station with the plan of its groups (vocabulary of contracts).
use Rattle.a429_equipment.specs.TableRecord.{TableRecord}
use Rattle.a429_slots.specs.Tables.{PlanTable}

pub record Proposed : Type 0 where
  pub station : TableRecord
  pub plan : PlanTable
