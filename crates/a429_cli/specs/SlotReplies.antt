-- The command `slots`: what it writes, its status, and when it is refused (profile: output).
use Rattle.std.specs.Prelude.{◌≡◌, ℕ, List, Option, Result, Some, if◌then◌else◌}
use Rattle.a429_text.specs.Sheets.{sheet_text}
use Rattle.a429_slots.specs.Proposed.{Proposed}
use Rattle.a429_documents.specs.KeptColumns.{kept_sheet, kept_texts}
use Rattle.a429_documents.specs.SlotBoard.{board_columns, board_rows}
use Rattle.a429_documents.specs.SlotHeader.{header_text}
use Rattle.a429_documents.specs.SlotRows.{slot_columns, slot_rows}
use Rattle.a429_arguments.specs.Given.{Given, form_of, has_given}
use Rattle.a429_arguments.specs.declared.options.OptionName.TheVariants as option
use Rattle.a429_console.specs.declared.refusals.CommandRefusal.{CommandRefusal}
use Rattle.a429_cli.specs.Drawings.{IsNoGroup, group_asked}
use Rattle.a429_console.specs.WholeReplies.{Replies}
use Rattle.a429_console.specs.declared.reply.Reply.{Reply}
use Rattle.a429_cli.specs.declared.slots.SlotsForm.{SlotsForm}

-- whether a header for C is asked for; otherwise whether rows for a bus board are; otherwise whether the empty cells have rows too; and the form
-- of the rows
abbrev pub slots_form : Given → SlotsForm
slots_form given = record { code = has_given given option.Code; board = has_given given option.Board; all = has_given given option.All; rows = form_of given }

-- the slot tables of the plan of a table, of the group of this number or of all
abbrev pub slots_text : SlotsForm → List ℕ → Proposed → Option ℕ → List ℕ
slots_text form table q group =
    if form.code then header_text q.station q.plan group
    else if form.board then sheet_text form.rows board_columns (board_rows q.station q.plan group)
    else kept_sheet form.rows (kept_texts table) slot_columns 6 (slot_rows q.station q.plan group form.all)

-- the same of the group of this name, with status 0
abbrev pub HasSlots : SlotsForm → List ℕ → Proposed → Option (List ℕ) → ℕ → List ℕ → Type 0
HasSlots form table q group status bytes =
    (number : Option ℕ) × (group_asked q.station.groups group ≡ Some number) × (bytes ≡ slots_text form table q number) × (status ≡ 0)

-- these, or that no group has the name
abbrev pub GivesSlots : SlotsForm → List ℕ → Proposed → Option (List ℕ) → Result Reply CommandRefusal → Type 0
GivesSlots form table q group = Replies (HasSlots form table q group) (IsNoGroup q.station.groups group)
