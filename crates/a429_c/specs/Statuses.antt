-- The statuses of calls from C: their numbers, and their texts (profile: docs/C.md, The calls).
use Rattle.std.specs.Prelude.{ℕ, List, codes}
use Rattle.a429_slots.specs.declared.answers.Refusal.{Refusal}
use Rattle.a429_slots.specs.declared.answers.Refusal.TheVariants as why
use Rattle.a429_console.specs.declared.refusals.CommandRefusal.{CommandRefusal}
use Rattle.a429_console.specs.declared.refusals.CommandRefusal.TheVariants as refused
use Rattle.a429_c.specs.declared.statuses.Status.{Status}
use Rattle.a429_c.specs.declared.statuses.Status.TheVariants.{NoSuch, Parity, Filtered, NoSource, CountSpent, FrameEnd, MidFrame, SlotsSpent, StationDiffers, Closed, Memory, TooLarge, NoRoom, Field}

-- the numbers of the header; 0 is success, 12 to 14 are for tables, 18 is for plan texts
abbrev pub code_of : Status → ℕ
code_of NoSuch = 1
code_of Parity = 2
code_of Filtered = 3
code_of NoSource = 4
code_of CountSpent = 5
code_of FrameEnd = 6
code_of MidFrame = 7
code_of SlotsSpent = 8
code_of StationDiffers = 9
code_of Closed = 10
code_of Memory = 11
code_of TooLarge = 15
code_of NoRoom = 16
code_of Field = 17

-- as the program prints refusals of events, and of memory (profile: output); the last three, and that of a closed station, are the library's
abbrev pub line_of : Status → List ℕ
line_of NoSuch = codes "refused no-such"
line_of Parity = codes "refused parity"
line_of Filtered = codes "refused filtered"
line_of NoSource = codes "refused no-source"
line_of CountSpent = codes "refused count-spent"
line_of FrameEnd = codes "refused frame-end"
line_of MidFrame = codes "refused mid-frame"
line_of SlotsSpent = codes "refused slots-spent"
line_of StationDiffers = codes "refused station-differs"
line_of Closed = codes "refused closed"
line_of Memory = codes "refused memory"
line_of TooLarge = codes "refused too-large"
line_of NoRoom = codes "refused no-room"
line_of Field = codes "refused field"

abbrev pub status_for : Refusal → Status
status_for why.NoSuch = NoSuch
status_for why.Parity = Parity
status_for why.Filtered = Filtered
status_for why.NoSource = NoSource
status_for why.CountSpent = CountSpent
status_for why.FrameEnd = FrameEnd
status_for why.MidFrame = MidFrame
status_for why.SlotsSpent = SlotsSpent
status_for why.StationDiffers = StationDiffers

-- a fault of the table, an output that no period fits, a group of too many buses, a line of a plan text; there is no other cause but memory
abbrev pub table_code : CommandRefusal → ℕ
table_code (refused.Table kind place) = 12
table_code (refused.Unfit group source) = 13
table_code (refused.TooManyBuses group needed) = 14
table_code (refused.PlanLine line kind) = 18
table_code _ = 11
