-- Seats at a table (vocabulary of contracts).
use Rattle.std.specs.Prelude.{◌≡◌, ◌<◌, ℕ, [], length}
use Rattle.atomic_table.specs.Seated.{TableId}
use Rattle.atomic_table.specs.declared.shared.Seat.{Seat}
use Rattle.a429_equipment.specs.TableRecord.{TableRecord}
use Rattle.a429_values.specs.declared.view.View.{View}

-- the seat is one of this table, and holds no slot
abbrev pub IsSeatOf : TableId → Seat (Unit {0}) View → Type 0
IsSeatOf z s = (s.table_id ≡ z) × (s.me.1 ≡ [])

abbrev pub Stays : Seat (Unit {0}) View → Seat (Unit {0}) View → Type 0
Stays s t = IsSeatOf s.table_id t

-- the same, and the table has words
abbrev pub SitsAt : TableId → Seat (Unit {0}) View → Type 0
SitsAt z s = IsSeatOf z s × (0 < z.words)

-- the source is one of the station, and the table has its word
abbrev pub HasWordOf : TableId → TableRecord → ℕ → Type 0
HasWordOf z t source = (source < length t.sources) × (source < z.words)
