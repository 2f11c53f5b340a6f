-- The command line of the program: a row for each command, and what the rules of the command line make of the rows
-- (the clap library; profile: docs/FORMATS.md, Usage errors).
use denote.Enum.Declared.{tag_of}
use Rattle.std.specs.Borrow.{Bor}
use Rattle.std.specs.Prelude.{◌≡◌, [], ℕ, Bool, List, Option, true, false, Some, None, codes, fold, get_or, if◌then◌else◌, map, option_map}
use Rattle.std.specs.Str.Parse.{digits_value, without_leading_plus}
use Rattle.clap.specs.ValueTests.{is_unsigned_in}
use Rattle.clap.specs.Words.{App, Rule, Shape, Text, new_app, new_rule, rule_of, with_rule, with_subcommand}
use Rattle.clap.specs.declared.builder.arg.Arg.{Arg}
use Rattle.clap.specs.declared.builder.action.ArgAction.TheVariants.{Append, SetTrue}
use Rattle.clap.specs.declared.builder.value_parser.ValueParser.TheVariants as reads
use Rattle.a429_arguments.specs.contracts.forms.Verb.{the_type as verb_type}
use Rattle.a429_arguments.specs.contracts.options.OptionName.{the_type as option_type}
use Rattle.a429_arguments.specs.declared.command_line.Given.{Given}
use Rattle.a429_arguments.specs.declared.command_line.Given.TheVariants as thing
use Rattle.a429_arguments.specs.declared.forms.Answers.{Answers}
use Rattle.a429_arguments.specs.declared.command_forms.CommandForm.{CommandForm}
use Rattle.a429_arguments.specs.declared.options.OptionKind.{OptionKind}
use Rattle.a429_arguments.specs.declared.options.OptionKind.TheVariants as given
use Rattle.a429_arguments.specs.declared.options.OptionName.{OptionName}
use Rattle.a429_arguments.specs.declared.options.OptionName.TheVariants as option
use Rattle.a429_arguments.specs.declared.options.TheConstants.{OPTIONS}
use Rattle.a429_arguments.specs.declared.forms.TheConstants.{COMMANDS, WHOLE}
use Rattle.a429_arguments.specs.declared.forms.Verb.{Verb}
use Rattle.a429_arguments.specs.declared.forms.Verb.TheVariants as verb

-- ---- the rule of each kind of argument

abbrev pub required_rule : Text → Rule
required_rule id = record (new_rule id) { required = true }

-- how many frames a group can send in one run of `live` (profile: docs/RULES.md, Limits)
abbrev pub most_frames : ℕ
most_frames = 1000000

-- a whole number of frames, up to the most
abbrev pub number_rule : Text → Rule
number_rule id = record (required_rule id) { parser = Some (reads.Unsigned 0 most_frames) }

-- as many values as are given
abbrev pub many_rule : Text → Rule
many_rule id = record (new_rule id) { action = Some Append }

-- how far recorded times may be wrong at most, in microseconds: the longest interval of an output (profile: docs/RULES.md, Limits)
abbrev pub most_tolerance : ℕ
most_tolerance = 30000000

-- ---- the numbers of arguments

-- the whole number of a text, up to the most; nothing if the text is no such number
unfoldable pub number_up_to : ℕ → Text → Option ℕ
number_up_to most text = if is_unsigned_in 0 most text then Some (digits_value 10 (without_leading_plus text)) else None

-- ---- the options: the rows of the program (`OPTIONS`), each at the place of its name

abbrev pub OptionRow : Type 0
OptionRow = OptionName × (record { now : Text }) × OptionKind

abbrev no_row : OptionRow
no_row = (option.Csv, record { now = [] }, given.Flag)

abbrev pub option_row : OptionName → OptionRow
option_row name = get_or OPTIONS.now (tag_of option_type name) no_row

-- its name without the two hyphens
abbrev pub id_of : OptionName → Text
id_of name = (option_row name).1.now

-- what is given with it
abbrev pub kind_of : OptionName → OptionKind
kind_of name = (option_row name).2

abbrev pub is_switch : OptionKind → Bool
is_switch given.Flag = true
is_switch _ = false

-- the option has no value
abbrev pub is_flag : OptionName → Bool
is_flag name = is_switch (kind_of name)

-- a value that is given with an option
abbrev value_rule : Rule
value_rule = record (new_rule []) { value_names = 1 }

-- the rule of an option of this kind, apart from its name
abbrev unnamed_rule : OptionKind → Rule
unnamed_rule given.Flag = record (new_rule []) { action = Some SetTrue }
unnamed_rule (given.Text form) = value_rule
unnamed_rule (given.Texts form) = record value_rule { action = Some Append }
unnamed_rule (given.Number least most) = record value_rule { parser = Some (reads.Unsigned least most) }

abbrev pub kind_rule : Text → OptionKind → Rule
kind_rule id kind = record (unnamed_rule kind) { id = id; long = Some id }

abbrev pub option_rule : OptionName → Rule
option_rule name = kind_rule (id_of name) (kind_of name)

-- ---- the commands: the rows of the program (`COMMANDS`), each at the place of its command

-- what a command is given: one or two names, perhaps a number of frames, perhaps as many names as one likes, and options
pub record CommandRow : Type 0 where
  pub name : Text
  pub first : Text
  pub second : Option Text
  pub number : Option Text
  pub more : Option Text
  pub options : List Rule

abbrev pub Name : Type 0
Name = record { now : Text }

-- a row of the program: the command, its name, what it is given, its options, and how it answers
abbrev pub TableRow : Type 0
TableRow = Verb × Name × (Name × Option Name × Option Name × Option Name) × (record { now : List OptionName }) × Answers

abbrev no_command : TableRow
no_command = (verb.Import, record { now = [] }, (record { now = [] }, None, None, None), record { now = [] }, WHOLE)

abbrev pub table_row : Verb → TableRow
table_row v = get_or COMMANDS.now (tag_of verb_type v) no_command

abbrev pub row_of : Verb → CommandRow
row_of v = record {
  name = (table_row v).1.now;
  first = (table_row v).2.0.now;
  second = option_map (λ n. n.now) (table_row v).2.1;
  number = option_map (λ n. n.now) (table_row v).2.2;
  more = option_map (λ n. n.now) (table_row v).2.3;
  options = map option_rule (table_row v).3.now;
}

-- the options of a command, in the order in which help lists them
abbrev pub options_of : Verb → List OptionName
options_of v = (table_row v).3.now

-- all of them, in the order in which help lists them
abbrev pub verbs : List Verb
verbs = map (λ row. row.0) COMMANDS.now

-- ---- the command line

-- with an argument of this rule more, if there is one
abbrev pub with_any : (Text → Rule) → App → Option Text → App
with_any rule app None = app
with_any rule app (Some id) = with_rule app (rule id)

-- what is given apart from options
abbrev pub with_names : App → CommandRow → App
with_names app row =
    with_any many_rule (with_any number_rule (with_any required_rule (with_rule app (required_rule row.first)) row.second) row.number) row.more

abbrev pub row_app : CommandRow → App
row_app row = fold with_rule (with_names (new_app row.name) row) row.options

abbrev pub top_shape : Shape
top_shape = record ((new_app (codes "a429")).top) { has_version = true; no_binary_name = true; arg_required_else_help = true; subcommand_required = true }

-- the command line without its commands
abbrev pub bare_line : App
bare_line = record { top = top_shape; subs = [] }

-- with these commands more
abbrev pub with_commands : App → List CommandRow → App
with_commands line rows = fold (λ (a : App) (row : CommandRow). with_subcommand a (row_app row).top) line rows

unfoldable pub command_line : App
command_line = with_commands bare_line (map row_of verbs)

-- ---- by the values of the program

-- an argument of this rule, for one command alone
abbrev pub HasRule : Arg → Rule → Type 0
HasRule a rule = (rule_of a ≡ rule) × (a.global ≡ false)

-- what a command is given that is no option
abbrev pub given_rule : Given → Text → Rule
given_rule thing.Name = required_rule
given_rule thing.Number = number_rule
given_rule thing.Names = many_rule

-- the name of an argument, if there is one
abbrev pub name_id : Option (Bor Text) → Option Text
name_id name = option_map (λ n. n.now) name

abbrev pub form_row : CommandForm → CommandRow
form_row form = record {
  name = form.name.now;
  first = form.first.now;
  second = name_id form.second;
  number = name_id form.number;
  more = name_id form.more;
  options = map option_rule form.options.now;
}

-- the form is that of its command
abbrev pub IsRow : CommandForm → Type 0
IsRow form = form_row form ≡ row_of form.verb
