-- What is true of each `Equipment` of the code (vocabulary of contracts).
use Rattle.std.specs.Prelude.{length}
use Rattle.a429_equipment.specs.declared.equipment.Equipment.TheInside.{Inside}
use Rattle.a429_equipment.specs.TableRecord.{TableRecord, record_of}
use Rattle.a429_equipment.specs.Sound.{IsSound}
use Rattle.a429_equipment.specs.Index.{IsIndex}

-- the record that it stands for
abbrev pub record_inside : Inside → TableRecord
record_inside e = record_of e.rows

-- the record is sound, and the index is that of its sources
pub record IsSoundInside (e : Inside) : Type 0 where
  pub sound : IsSound (record_inside e)
  pub index : IsIndex e.index.places.items (length e.rows.receivers.items) e.rows.sources.items
