-- A table, and the text of a plan of it if one is given: the names of their files, or what is in these (vocabulary of contracts).
use Rattle.std.specs.Prelude.{◌≡◌, ◌⊎◌, ℕ, List, Option, None, Some, Result, MatchResult, option_map}
use Rattle.a429_arguments.specs.Given.{text_given}
use Rattle.a429_arguments.specs.Requests.{AskedBytes}
use Rattle.a429_arguments.specs.declared.options.OptionName.TheVariants as option
use Rattle.a429_console.specs.FileReadings.{IsFileRefusal, readable}
use Rattle.a429_console.specs.RefusalText.{OrMemory}
use Rattle.a429_console.specs.declared.refusals.CommandRefusal.{CommandRefusal}
use Rattle.a429_given.specs.declared.tables.GivenTable.{GivenTable}
use Rattle.a429_given.specs.declared.tables.TableNames.{TableNames}

pub record TableTexts : Type 0 where
  pub table : List ℕ
  pub plan : Option (List ℕ)

-- the table that a request names first, with the plan of `--plan`
abbrev pub named_table : AskedBytes → TableTexts
named_table r = record { table = r.first; plan = text_given r.given option.Plan }

-- the bytes of the plan's file, if one is named
abbrev pub IsPlanRead : (List ℕ → Option (List ℕ)) → Option (List ℕ) → Option (List ℕ) → Type 0
IsPlanRead file None plan = plan ≡ None
IsPlanRead file (Some name) plan = (bytes : List ℕ) × (plan ≡ Some bytes) × (readable (file name) ≡ Some bytes)

-- the bytes of the files of these names
abbrev pub IsTableRead : (List ℕ → Option (List ℕ)) → TableTexts → TableTexts → Type 0
IsTableRead file names i = (readable (file names.table) ≡ Some i.table) × IsPlanRead file names.plan i.plan

-- a plan is named, and its file cannot be read
abbrev pub IsPlanUnread : (List ℕ → Option (List ℕ)) → Option (List ℕ) → CommandRefusal → Type 0
IsPlanUnread file None refusal = ⊥
IsPlanUnread file (Some name) refusal = IsFileRefusal file name refusal

-- of these files the first that cannot be read
abbrev pub IsTableUnread : (List ℕ → Option (List ℕ)) → TableTexts → CommandRefusal → Type 0
IsTableUnread file names refusal =
    IsFileRefusal file names.table refusal
    ⊎ ((bytes : List ℕ) × (readable (file names.table) ≡ Some bytes) × IsPlanUnread file names.plan refusal)

-- ---- by the values of the program

abbrev pub table_names : TableNames → TableTexts
table_names n = record { table = n.table.now; plan = option_map (λ p. p.now) n.plan }

abbrev pub table_texts : GivenTable → TableTexts
table_texts t = record { table = t.table.items; plan = option_map (λ p. p.items) t.plan }

-- what reading both gives
abbrev pub IsTableReading : (List ℕ → Option (List ℕ)) → TableTexts → Result GivenTable CommandRefusal → Type 0
IsTableReading file names result = MatchResult result (λ t. IsTableRead file names (table_texts t)) (OrMemory (IsTableUnread file names))
