-- Places of outputs as blocks of cells (profile: layout; docs/RULES.md, Plans that stay).
use Rattle.std.specs.Prelude.{ℕ, ◌+◌, ◌-◌, ◌*◌, ◌/◌, ◌%◌, ◌^◌, List, Option, Some, None, find, fold, if◌then◌else◌, map, max, nat_lt, option_and_then, slice_get, unwrap_or}
use Rattle.a429_equipment.specs.declared.rows.SourceRow.{SourceRow}
use Rattle.a429_grid.specs.Reversal.{reversed}
use Rattle.a429_slots.specs.declared.group_plan.SlotPlace.{SlotPlace}
use Rattle.a429_slots.specs.Tables.{Placed, SlotTable, buses_of, outputs_of}
use Rattle.a429_cert.specs.PlanText.{source_name}
use Rattle.a429_keep.specs.declared.blocks.Stand.{Stand}
use Rattle.a429_keep.specs.Rows.{Listed, is_row}

-- the greatest period, by its exponent: the frame
abbrev pub frame_period : SlotTable → ℕ
frame_period t = fold (λ greatest o. max greatest o.place.period) 0 (outputs_of t)

-- the start of the block of an output with this period, bus and offset: the blocks of its size on a bus are in the order of the
-- offsets with their digits in reverse
abbrev pub block_start : ℕ → ℕ → ℕ → ℕ → ℕ
block_start frame period bus offset = bus * 2 ^ frame + reversed period (offset % 2 ^ period) * 2 ^ (frame - period)

-- the place of an output whose block begins here
abbrev pub place_at : ℕ → ℕ → ℕ → SlotPlace
place_at frame period start =
    record { bus = start / 2 ^ frame; offset = reversed period (start / 2 ^ (frame - period) % 2 ^ period); period = period }

-- the start of the block of an output that is listed so, if its bus is still there
abbrev pub start_in : ℕ → ℕ → ℕ → Listed → Option ℕ
start_in frame period buses row = if nat_lt row.said.bus buses then Some (block_start frame period row.said.bus row.said.offset) else None

-- an output of a group on this number of buses: it stays if it was listed with the same group, source and period, and its bus is still there
abbrev pub stand_of : List Listed → List ℕ → List SourceRow → ℕ → ℕ → Placed → Stand
stand_of rows group sources frame buses o = record {
  cells = 2 ^ (frame - o.place.period);
  start = option_and_then (start_in frame o.place.period buses) (find (is_row group (source_name sources o.source) (2 ^ o.place.period)) rows);
}

-- those that stay, in table order
abbrev pub stands_of : List Listed → List ℕ → List SourceRow → SlotTable → List Stand
stands_of rows group sources t = map (stand_of rows group sources (frame_period t) (buses_of t)) (outputs_of t)

-- the start of the block of an output; 0 if it has none
abbrev pub start_at : List Stand → ℕ → ℕ
start_at stands o = unwrap_or (option_and_then (λ s. s.start) (slice_get stands o)) 0
