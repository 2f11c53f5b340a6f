-- The command `load`: what it writes, and its status (profile: output).
use Rattle.std.specs.Prelude.{◌≡◌, ℕ, List, Option, max, min, option_map}
use Rattle.a429_text.specs.Sheets.{sheet_text}
use Rattle.a429_text.specs.declared.sheets.SheetForm.{SheetForm}
use Rattle.a429_slots.specs.Proposed.{Proposed}
use Rattle.a429_console.specs.WholeReplies.{finding_status}
use Rattle.a429_documents.specs.Load.{any_above, load_columns, load_rows}

-- the limit in per cent: the rules of the command line let only 1 to 100 through
abbrev pub limit_of : Option ℕ → Option ℕ
limit_of = option_map (λ limit. max 1 (min limit 100))

-- the load of each bus of a proposal's plan, in a form; 1 if a bus is above the limit
abbrev pub IsLoad : Proposed → Option ℕ → SheetForm → ℕ → List ℕ → Type 0
IsLoad q limit form status bytes =
    (bytes ≡ sheet_text form load_columns (load_rows limit q.station q.plan)) × (status ≡ finding_status (any_above limit q.plan))
