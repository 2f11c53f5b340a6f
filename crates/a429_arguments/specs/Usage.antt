-- Arguments other than a request: calls for help or for the version, and usage errors (profile: status 0, 1 and 2).
use Rattle.std.specs.Prelude.{◌≡◌, ◌≢◌, ◌∷◌, [], ℕ, Bool, true, false, not, List, Option, Some, None, Result, MatchResult, codes, find, if◌then◌else◌}
use Rattle.std.specs.List.{list_all, list_any}
use Rattle.std.specs.Option.{option_map_or}
use Rattle.std.specs.Str.{bytes_eq}
use Rattle.clap.specs.Kinds.{or_else}
use Rattle.clap.specs.Words.{HasKind, Kinds, Row, Text, fault_of, subcommand_of}
use Rattle.clap.specs.declared.error.Error.{Error}
use Rattle.clap.specs.declared.error.kind.ErrorKind.{ErrorKind}
use Rattle.clap.specs.declared.error.kind.ErrorKind.TheVariants.{DisplayHelp, DisplayVersion, InvalidSubcommand, InvalidValue}
use Rattle.a429_arguments.specs.CommandLine.{command_line, row_of, table_row, verbs}
use Rattle.a429_arguments.specs.Given.{are_refused, given_in}
use Rattle.a429_arguments.specs.declared.forms.AnswerForm.{AnswerForm}
use Rattle.a429_arguments.specs.declared.forms.AnswerForm.TheVariants as answer
use Rattle.a429_arguments.specs.declared.forms.Verb.{Verb}
use Rattle.a429_arguments.specs.declared.requests.Asked.{Asked}

-- the command that was found is `live`
abbrev pub is_live : Option (Text × List Row) → Bool
is_live None = false
is_live (Some p) = bytes_eq p.0 (codes "live")

-- the command is none of the call's
abbrev pub elsewhere : Bool → Kinds
elsewhere true = InvalidSubcommand ∷ []
elsewhere false = []

-- the command of this name
abbrev pub verb_named : Text → Option Verb
verb_named name = find (λ (v : Verb). bytes_eq (row_of v).name name) verbs

-- an option has a value that it does not take, or options do not go together
abbrev pub breaks_rules : Option (Text × List Row) → Bool
breaks_rules None = false
breaks_rules (Some p) = option_map_or (λ (v : Verb). are_refused v (given_in p.1)) (verb_named p.0) false

-- what may be answered to arguments that the rules of the command line accept, instead of a request: by what was found of them and by whether another
-- call does the command
abbrev pub found_kinds : Option (Text × List Row) → Bool → Kinds
found_kinds found is_elsewhere = if breaks_rules found then InvalidValue ∷ [] else elsewhere is_elsewhere

-- what `command` may answer to arguments instead of a request, by the rules of the command line, and since `live` is not one of its commands; empty
-- if they ask for something
abbrev pub kinds_of_words : List (List ℕ) → Kinds
kinds_of_words words = or_else (fault_of command_line words) (found_kinds (subcommand_of command_line words) (is_live (subcommand_of command_line words)))

-- the same of `command_live`, of which `live` is the one command
abbrev pub live_kinds_of_words : List (List ℕ) → Kinds
live_kinds_of_words words =
    or_else (fault_of command_line words) (found_kinds (subcommand_of command_line words) (not (is_live (subcommand_of command_line words))))

-- ---- how a command answers, by its row

abbrev is_station : AnswerForm → Bool
is_station answer.Station = true
is_station _ = false

abbrev is_one_piece : AnswerForm → Bool
is_one_piece answer.Whole = true
is_one_piece _ = false

-- the command is the one of `command_live`
abbrev pub is_run : Verb → Bool
is_run v = is_station (table_row v).4.form

-- it prints nothing before it has its whole answer
abbrev pub is_whole : Verb → Bool
is_whole v = is_one_piece (table_row v).4.form

-- the status of a refusal: 2, if it keeps 1 for what it finds, such as `lint` (profile: status 0, 1 and 2)
abbrev pub trouble_of : Verb → ℕ
trouble_of v = (table_row v).4.trouble

-- it answers by the plan of one table
abbrev pub is_on_plan : Verb → Bool
is_on_plan v = (table_row v).4.is_on_plan

-- the kinds that arguments have for a call: an error has one of them, and a request means that there is none, or that another call does it
abbrev pub ComesTo : Kinds → (Verb → Bool) → Result Asked Error → Type 0
ComesTo kinds is_another result = MatchResult result (λ asked. kinds ≡ elsewhere (is_another asked.verb)) (HasKind kinds)

-- the help or the version
abbrev pub is_help : ErrorKind → Bool
is_help DisplayHelp = true
is_help DisplayVersion = true
is_help _ = false

-- help or the version is all that may be answered
abbrev pub AreHelp : Kinds → Type 0
AreHelp kinds = (kinds ≢ []) × (list_all is_help kinds ≡ true)

-- something is answered, and it is neither help nor the version
abbrev pub AreMistakes : Kinds → Type 0
AreMistakes kinds = (kinds ≢ []) × (list_any is_help kinds ≡ false)
