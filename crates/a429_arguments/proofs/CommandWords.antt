-- The outcome of words that name a command, by that of the words after the name.
use Rattle.std.proofs.Common.{◌≡◌, ◌∙◌, ap, ap₂, refl, subst, sym, true, false, List, [], ◌∷◌, ◌++◌, fold}
use Rattle.std.specs.Prelude.{Option, Some, Bool, ◌&&◌, find, is_some, option_map}
use Rattle.std.specs.List.{list_all}
use Rattle.std.specs.Option.{option_map_or}
use Rattle.clap.specs.Words.{App, Row, Shape, Text, is_simple, is_simple_and_free, subcommand_of, takes}
use Rattle.clap.specs.Walk.{Held, Names, Walk, answers_to, finished, nothing_held, rows_after, stop_after, walk, walk_from, walked}
use Rattle.clap.specs.Simple.{argument_words, built, built_leaf, entered, inherited, label_of, names_of, rows_at}
use Rattle.clap.specs.Takes.{built_takes, default_passes, entered_passes, is_valid, level_passes, settle_passes, turn_passes, walk_passes}
use Rattle.clap.proofs.OnLiterals.{clap_on_literals}
use Rattle.clap.proofs.WalkLemmas.{walk_stopped}
use Rattle.a429_arguments.specs.CommandLine.{command_line, row_of, top_shape}
use Rattle.a429_arguments.specs.Requests.{AskedBytes}
use Rattle.a429_arguments.specs.RequestRows.{AsksFor, IsAskedBy, IsFound}

pub is_simple_here : is_simple command_line ≡ true
unfolding command_line clap_on_literals
is_simple_here = refl

pub is_free_here : is_simple_and_free command_line ≡ true
unfolding command_line clap_on_literals
is_free_here = refl

-- a command of the command line as it is built
abbrev pub leaf : App → Shape
leaf app = built_leaf (inherited top_shape app.top)

-- ---- the command line, up to the words after the command's name

abbrev pub top : Shape
top = (built command_line).top

abbrev pub commands : Names
commands = names_of (built command_line)

-- after a command's name and these words
abbrev pub stopped_at : Text → List Text → Walk
stopped_at name words = record (walk_from nothing_held) { stopped = Some (name, words) }

-- a word names a command, which is built so
pub record IsNamed (name : Text) (s : Shape) : Type 0 where
  pub stops : walked top.rules commands (walk_from nothing_held) name ≡ stopped_at name []
  pub passes : turn_passes top commands (walk_from nothing_held) name ≡ true
  pub leads : find (λ (x : Shape). answers_to name (label_of x)) (built command_line).subs ≡ Some s
  pub label : s.name ≡ name

all_words : (words : List Text) → argument_words command_line words ≡ words
unfolding command_line
all_words words = refl

-- all words after the name are kept for the command
words_pass : (s : Shape) (names : Names) (w : Walk) (p : Text × List Text) (words : List Text) → walk_passes s names (record w { stopped = Some p }) words ≡ true
unfolding walk_passes walked
words_pass s names w p [] = refl
words_pass s names w p (word ∷ words) = words_pass s names w (p.0, p.1 ++ word ∷ []) words

-- the command line passes at the end of a walk that entered a command
abbrev line_ends : Held → Bool → Bool
line_ends h has = settle_passes top.rules top.args_override_self h && (list_all default_passes top.rules && is_valid top (finished top.rules h) has)

entered_ends : line_ends nothing_held true ≡ true
unfolding command_line clap_on_literals
entered_ends = refl

module _ (name : Text) (s : Shape) (words : List Text) (n : IsNamed name s) where
  line_walked : walk top.rules commands nothing_held (name ∷ words) ≡ stopped_at name words
  line_walked =
      ap (λ (w : Walk). fold (walked top.rules commands) w words) n.stops ∙ sym (walk_stopped top.rules commands (walk_from nothing_held) name [] words)

  line_found : subcommand_of command_line (name ∷ words) ≡ Some (name, rows_after s.rules [] words)
  line_found =
      ap (λ (ws : List Text). entered (built command_line) (stop_after top.rules commands ws)) (all_words (name ∷ words))
      ∙ (ap (λ (w : Walk). entered (built command_line) w.stopped) line_walked
      ∙ (ap (option_map (λ (x : Shape). rows_at x words)) n.leads ∙ ap (λ (x : Text). Some (x, rows_after s.rules [] words)) n.label))

  line_passes : walk_passes top commands (walk_from nothing_held) (name ∷ words) ≡ true
  unfolding walk_passes
  line_passes =
      ap₂ (λ (b : Bool) (w : Walk). b && walk_passes top commands w words) n.passes n.stops ∙ words_pass top commands (walk_from nothing_held) (name, []) words

  line_takes : level_passes s [] nothing_held words false ≡ true → takes command_line (name ∷ words) ≡ true
  line_takes level =
      ap₂ (λ (b : Bool) (ws : List Text). b && built_takes (built command_line) nothing_held ws) is_simple_here (all_words (name ∷ words))
      ∙ (ap₂ (λ (b : Bool) (w : Walk). entered_passes (built command_line) w.stopped && (b && line_ends w.held (is_some (entered (built command_line) w.stopped)))) line_passes line_walked
      ∙ (ap (λ (leaf_met : Option Shape). option_map_or (λ (x : Shape). level_passes x [] nothing_held words false) leaf_met true
      && (true && line_ends nothing_held (is_some (option_map (λ (x : Shape). rows_at x words) leaf_met)))) n.leads ∙ ap₂ (λ (a b : Bool). a && b) level entered_ends))

  -- the words ask for what their values ask for
  pub asks_for : (r : AskedBytes) → name ≡ (row_of r.verb).name → level_passes s [] nothing_held words false ≡ true → IsAskedBy (rows_after s.rules [] words) r
      → AsksFor (name ∷ words) r
  unfolding AsksFor
  asks_for r named level is = (line_takes level, subst (λ (f : Option (Text × List Row)). IsFound f r) (sym line_found) (named, is))
