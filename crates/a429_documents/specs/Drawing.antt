-- The slot tables of a plan as an image (profile: drawing): its marks, which are the cells with an output, and its height.
use Rattle.std.specs.Prelude.{⊤, ◌≡◌, ◌<◌, ◌↔◌, ℕ, ◌+◌, ◌*◌, List, [], Option, None, Some, length, max, min, option_map, slice_get}
use Rattle.std.specs.Int.{div_ceil}
use Rattle.std.specs.List.{IsAmong, flat_map, range_with_len, sum_by}
use Rattle.std.specs.Option.{option_map_or, option_to_list}
use Rattle.a429_slots.specs.Tables.{SlotTable, PlanTable, buses_of, cell_at, frame_of, groups_of, outputs_of}
use Rattle.a429_documents.specs.declared.drawing.DrawingFault.{DrawingFault}
use Rattle.a429_documents.specs.declared.drawing.DrawingFault.TheVariants.{NoMemory, TooHigh}
use Rattle.a429_documents.specs.declared.drawing.DrawingForm.{DrawingForm}
use Rattle.a429_documents.specs.declared.drawing.marks.CellMark.{CellMark}

-- ---- what is drawn

-- the number of slots that are drawn of each bus: the number that the form asks for, at most 8192 (the longest frame); by default a frame, at most 256
abbrev pub slots_drawn : Option ℕ → ℕ → ℕ
slots_drawn None frame = min frame 256
slots_drawn (Some slots) frame = min slots 8192

-- the same for a group
abbrev pub slots_of : DrawingForm → SlotTable → ℕ
slots_of form t = slots_drawn form.slots (frame_of t)

-- the groups that are drawn, one or all: the number of the first, and how many
abbrev pub first_drawn : Option ℕ → ℕ
first_drawn None = 0
first_drawn (Some group) = group

abbrev pub groups_drawn : Option ℕ → PlanTable → ℕ
groups_drawn None p = length (groups_of p)
groups_drawn (Some group) p = 1

-- ---- the marks

-- the mark of a cell, if it has an output: its group, its bus, its slot and that output
abbrev pub cell_marks : ℕ → SlotTable → ℕ → ℕ → List CellMark
cell_marks g t bus slot = option_to_list (option_map (λ o. record { group = g; bus = bus; slot = slot; output = o }) (cell_at t bus slot))

-- the marks of a bus in the first slots, up to a count; slots after the frame are those of the next frames
abbrev pub bus_marks : ℕ → SlotTable → ℕ → ℕ → List CellMark
bus_marks g t slots bus = flat_map (cell_marks g t bus) (range_with_len 0 slots)

-- the marks of a group, bus by bus
abbrev pub group_marks : ℕ → SlotTable → ℕ → List CellMark
group_marks g t slots = flat_map (bus_marks g t slots) (range_with_len 0 (buses_of t))

-- the marks of the group with this number, in the slots that the form asks for
abbrev pub marks_at : DrawingForm → PlanTable → ℕ → List CellMark
marks_at form p g = option_map_or (λ t. group_marks g t (slots_of form t)) (slice_get (groups_of p) g) []

-- the marks of a plan, of one group or of all in table order
abbrev pub marks_of : PlanTable → DrawingForm → Option ℕ → List CellMark
marks_of p form group = flat_map (λ k. marks_at form p (first_drawn group + k)) (range_with_len 0 (groups_drawn group p))

-- the group is drawn
abbrev pub IsDrawn : Option ℕ → ℕ → Type 0
IsDrawn None g = ⊤
IsDrawn (Some group) g = g ≡ group

-- The cell of a mark is in the slot table of this group, and is drawn.
abbrev pub IsMarkIn : DrawingForm → SlotTable → CellMark → Type 0
IsMarkIn form t mark = (mark.slot < slots_of form t) × (mark.bus < buses_of t) × (cell_at t mark.bus mark.slot ≡ Some mark.output)

-- A mark is drawn if and only if its group is drawn, its bus is one of the group, its slot is drawn, and its output is in that cell.
abbrev pub MarksAreCells : Type 0
MarksAreCells =
    (p : PlanTable) (form : DrawingForm) (group : Option ℕ) (mark : CellMark)
    → IsAmong (marks_of p form group) mark ↔ ((t : SlotTable) × IsDrawn group mark.group × (slice_get (groups_of p) mark.group ≡ Some t) × IsMarkIn form t mark)

-- ---- the height, in pixels

-- Slots are in rows, which are folded below one another. A fold has a line of slot numbers, and a row for each bus. The number of slots in a row is the one
-- that the form asks for, 64 to 256; by default it is 64.
abbrev pub row_slots : Option ℕ → ℕ
row_slots None = 64
row_slots (Some width) = max 64 (min width 256)

abbrev pub fold_width : DrawingForm → ℕ
fold_width form = row_slots form.width

abbrev pub folds_of : DrawingForm → SlotTable → ℕ
folds_of form t = div_ceil (slots_of form t) (fold_width form)

-- the upper edge of a fold, below the title of the group
abbrev pub fold_top : SlotTable → ℕ → ℕ
fold_top t fold = 26 + fold * (22 + 18 * buses_of t)

-- the upper edge of the legend, below the last fold
abbrev pub legend_top : DrawingForm → SlotTable → ℕ
legend_top form t = fold_top t (folds_of form t) + 4

-- the height of a group, with its legend, which has two outputs in a line
abbrev pub group_height : DrawingForm → SlotTable → ℕ
group_height form t = legend_top form t + 20 * div_ceil (length (outputs_of t)) 2 + 24

-- the height of a group by its number
abbrev pub height_at : DrawingForm → PlanTable → ℕ → ℕ
height_at form p g = option_map_or (group_height form) (slice_get (groups_of p) g) 0

-- the height of a count of groups from a first one on, one below the other
abbrev pub height_of : PlanTable → DrawingForm → ℕ → ℕ → ℕ
height_of p form first count = sum_by (λ k. height_at form p (first + k)) (range_with_len 0 count)

-- the height of the image of one group of a plan, or of all
abbrev pub image_height : PlanTable → DrawingForm → Option ℕ → ℕ
image_height p form group = height_of p form (first_drawn group) (groups_drawn group p)

-- Many viewers show at most 32767 pixels: a higher image is refused.
abbrev pub IsDrawingFault : PlanTable → DrawingForm → Option ℕ → DrawingFault → Type 0
IsDrawingFault p form group NoMemory = ⊤
IsDrawingFault p form group TooHigh = 32767 < image_height p form group
