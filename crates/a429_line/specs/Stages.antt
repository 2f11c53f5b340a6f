-- What a reader does at each symbol, for its own proof: the public clauses do not speak of it (vocabulary of contracts).
use Rattle.std.specs.Prelude.{ℕ, List, [], ◌∷◌, ◌++◌, Option, Some, None, ◌+◌, ◌*◌, ◌%◌, ◌^◌, if◌then◌else◌, nat_lt, bit_or}
use Rattle.std.specs.Option.{option_to_list}
use Rattle.a429_line.specs.Reports.{report_of_32}
use Rattle.a429_line.specs.declared.found.Symbol.{Symbol}
use Rattle.a429_line.specs.declared.found.Symbol.TheVariants.{Hi, Null, Lo}
use Rattle.a429_line.specs.declared.found.Found.{Found}
use Rattle.a429_line.specs.declared.found.Found.TheVariants.{Short, Long, Gap}
use Rattle.a429_line.specs.declared.stage.Stage.{Stage}
use Rattle.a429_line.specs.declared.stage.Stage.TheVariants.{Between, Within, Reported}

-- ---- one symbol

-- the report that is due at a Null
abbrev pub due_at_null : Stage → Option Found
due_at_null (Between nulls) = None
due_at_null (Within len raw) = Some (if nat_lt len 32 then Short len else report_of_32 raw)
due_at_null Reported = None

-- the stage after a Null
abbrev pub after_null : Stage → Stage
after_null (Between nulls) = Between (if nat_lt nulls 4 then nulls + 1 else nulls)
after_null (Within len raw) = Between 1
after_null Reported = Between 1

-- the report that is due at a one or a zero
abbrev pub due_at_bit : Stage → Option Found
due_at_bit (Between nulls) = if nat_lt nulls 4 then Some (Gap nulls) else None
due_at_bit (Within len raw) = if nat_lt len 32 then None else Some Long
due_at_bit Reported = None

-- the stage after a one or a zero
abbrev pub after_bit : ℕ → Stage → Stage
after_bit bit (Between nulls) = if nat_lt nulls 4 then Reported else Within 1 bit
after_bit bit (Within len raw) = if nat_lt len 32 then Within (len + 1) (bit_or raw (bit * 2 ^ len % 2 ^ 32)) else Reported
after_bit bit Reported = Reported

-- the report that is due at a symbol
abbrev pub due : Stage → Symbol → Option Found
due stage Hi = due_at_bit stage
due stage Null = due_at_null stage
due stage Lo = due_at_bit stage

-- the stage after a symbol
abbrev pub after : Stage → Symbol → Stage
after stage Hi = after_bit 1 stage
after stage Null = after_null stage
after stage Lo = after_bit 0 stage

-- ---- symbols one after another

-- the reports that are due in symbols, in order
unfoldable pub due_in : Stage → List Symbol → List Found
due_in stage [] = []
due_in stage (s ∷ x) = option_to_list (due stage s) ++ due_in (after stage s) x

-- the stage after symbols
unfoldable pub after_all : Stage → List Symbol → Stage
after_all stage [] = stage
after_all stage (s ∷ x) = after_all (after stage s) x
