-- A plan whose outputs stay, as far as they can (profile: docs/RULES.md, Plans that stay).
use Rattle.std.specs.Prelude.{◌≡◌, ◌⊎◌, ◌<◌, ◌^◌, ◌&&◌, ℕ, List, Bool, false, Some, Ok, Err, length, map, nat_le, nat_lt, slice_get, ⊤}
use Rattle.std.specs.List.{list_all, range_with_len}
use Rattle.a429_equipment.specs.TableRecord.{TableRecord}
use Rattle.a429_equipment.specs.declared.rows.GroupRow.{GroupRow}
use Rattle.a429_equipment.specs.declared.rows.SourceRow.{SourceRow}
use Rattle.a429_slots.specs.declared.group_plan.SlotPlace.{SlotPlace}
use Rattle.a429_slots.specs.Moves.{HaveCommonCell, IsMoved}
use Rattle.a429_slots.specs.Proposed.{Proposed}
use Rattle.a429_slots.specs.Tables.{SlotTable, buses_of, frame_of, groups_of, outputs_of, placed_at}
use Rattle.a429_keep.specs.declared.blocks.Stand.{Stand}
use Rattle.a429_keep.specs.Places.{frame_period, place_at, stands_of, start_at}
use Rattle.a429_keep.specs.Placing.{place_all}
use Rattle.a429_keep.specs.Readings.{reading}
use Rattle.a429_keep.specs.Rows.{Listed}
use Rattle.a429_keep.specs.declared.fault.KeepFault.{KeepFault}
use Rattle.a429_keep.specs.declared.fault.KeepFault.TheVariants as faults

-- the blocks of the outputs of a group, in table order
abbrev pub kept_stands : List SourceRow → List Listed → GroupRow → SlotTable → List Stand
kept_stands sources rows g t = place_all (buses_of t) (frame_period t) (stands_of rows g.name sources t)

-- the places of outputs with these blocks, by their numbers
abbrev pub places_of : SlotTable → ℕ → List Stand → List SlotPlace
places_of t frame stands = map (λ o. place_at frame (placed_at t o).place.period (start_at stands o)) (range_with_len 0 (length (outputs_of t)))

-- the places that the outputs of a group keep, by the rows of an earlier text
abbrev pub kept_places : List SourceRow → List Listed → GroupRow → SlotTable → List SlotPlace
kept_places sources rows g t = places_of t (frame_period t) (kept_stands sources rows g t)

-- the place is on a bus of the group, at an offset below its period, which is not above the frame
abbrev pub is_inside : ℕ → ℕ → SlotPlace → Bool
is_inside buses slots p = nat_lt p.bus buses && (nat_lt p.offset (2 ^ p.period) && nat_le (2 ^ p.period) slots)

abbrev pub are_inside : SlotTable → List SlotPlace → Bool
are_inside t places = list_all (is_inside (buses_of t) (frame_of t)) places

-- the outputs of a group cannot have these places
abbrev pub CannotHave : SlotTable → List SlotPlace → Type 0
CannotHave t places = (are_inside t places ≡ false) ⊎ HaveCommonCell places

-- the outputs have these places; if they cannot, those of the own plan
abbrev pub KeepsTable : List SlotPlace → SlotTable → SlotTable → Type 0
KeepsTable places t u = IsMoved t u places ⊎ ((u ≡ t) × CannotHave t places)

-- the outputs of group k have the places that they keep
pub record KeepsGroup (rows : List Listed) (p q : Proposed) (k : ℕ) : Type 0 where
  pub group : GroupRow
  pub own : SlotTable
  pub kept : SlotTable
  pub row : slice_get p.station.groups k ≡ Some group
  pub before : slice_get (groups_of p.plan) k ≡ Some own
  pub after : slice_get (groups_of q.plan) k ≡ Some kept
  pub keeps : KeepsTable (kept_places p.station.sources rows group own) own kept

-- in the second plan, of the same table, the outputs of the earlier text stay
pub record IsKept (earlier : List ℕ) (p q : Proposed) : Type 0 where
  pub rows : List Listed
  pub read : reading p.station earlier ≡ Ok rows
  pub station : q.station ≡ p.station
  pub count : length (groups_of q.plan) ≡ length (groups_of p.plan)
  pub groups : (k : ℕ) → k < length (groups_of p.plan) → KeepsGroup rows p q k

-- the earlier text is refused at this line, or an allocation failed
abbrev pub IsKeepFault : TableRecord → List ℕ → KeepFault → Type 0
IsKeepFault e earlier (faults.Line line reason) = reading e earlier ≡ Err (faults.Line line reason)
IsKeepFault e earlier faults.NoMemory = ⊤
