-- The plain form of a request asks for it. What the rules of the command line have for the row of each command is computed.
use denote.Enum.Declared.{tag_of}
use mathlib.Core.Path.{fun_ext}
use Rattle.std.proofs.Common.{Bool, List, [], ap, ap₂, arith, false, map, refl, rules, subst, sym, true, ℕ, ◌++◌, ◌+◌, ◌∙◌, ◌∷◌, ◌≡◌}
use Rattle.std.proofs.lemmas.List.Folds.{flat_map-map}
use Rattle.std.proofs.lemmas.Option.{cond_some, same_Some}
use Rattle.std.specs.Fmt.{decimal}
use Rattle.std.specs.List.{AllByRecursion, flat_map, list_all}
use Rattle.std.specs.Option.{option_map_or}
use Rattle.std.specs.Prelude.{MatchOption, None, Option, Some, if◌then◌else◌, min, not, option_and_then, option_map, slice_get, unwrap_or, ℕ, ◌&&◌, ◌||◌, ◌≤◌}
use Rattle.std.specs.Str.Parse.{digits_value, without_leading_plus}
use Rattle.clap.proofs.OnLiterals.{clap_on_literals}
use Rattle.clap.specs.Facts.{explicit_source}
use Rattle.clap.specs.Lexer.{usize_max}
use Rattle.clap.specs.Simple.{filled, with_index}
use Rattle.clap.specs.Takes.{default_passes, is_given, is_valid, level_passes}
use Rattle.clap.specs.ValueTests.{is_unsigned_in}
use Rattle.clap.specs.Walk.{nothing_held, walk_from, walked}
use Rattle.clap.specs.Words.{Row, Rule, Shape, Text, first_of}
use Rattle.a429_arguments.specs.CommandLine.{CommandRow, command_line, id_of, is_flag, is_switch, kind_of, kind_rule, many_rule, most_frames, number_rule, number_up_to, option_rule, options_of, required_rule, row_app, row_of}
use Rattle.a429_arguments.specs.Given.{Given, given_by, given_in, nothing, values_of}
use Rattle.a429_arguments.specs.RequestRows.{AsksFor, IsAskedBy}
use Rattle.a429_arguments.specs.Requests.{AskedBytes, CanBeGiven, HasWords, IsName, has_option, words_if, words_of, words_with}
use Rattle.a429_arguments.specs.Usage.{verb_named}
use Rattle.a429_arguments.specs.contracts.options.OptionName.{the_type as option_type}
use Rattle.a429_arguments.specs.declared.forms.Verb.TheVariants as verb
use Rattle.a429_arguments.specs.declared.forms.Verb.{Verb}
use Rattle.a429_arguments.specs.declared.options.OptionKind.TheVariants as given
use Rattle.a429_arguments.specs.declared.options.OptionKind.{OptionKind}
use Rattle.a429_arguments.specs.declared.options.OptionName.TheVariants as option
use Rattle.a429_arguments.specs.declared.options.OptionName.{OptionName}
use Rattle.a429_arguments.specs.declared.options.TheConstants.{OPTIONS}
use Rattle.a429_arguments.proofs.CommandWords.{IsNamed, asks_for, leaf}
use Rattle.a429_arguments.proofs.Decimals.{decimal_is_name, decimal_up_to}
use Rattle.a429_arguments.proofs.ReadWords.{CanBe, IsOption, Reads, Use, all_new, by_name, end_found, found_at, often, once, row_at, row_of_values, row_or, rows_of_use, rules_met, use_id, uses_read, with_defaults, words_of_use}

-- the command, as it is built
abbrev pub shape : Verb → Shape
shape v = leaf (row_app (row_of v))

-- what is found if nothing is given
abbrev pub unused : Verb → List Row
unused v = with_defaults [] (shape v).rules

-- ---- all options

abbrev pub all_options : List OptionName
all_options = map (λ row. row.0) OPTIONS.now

at_its_place : {A : Type 0} (f : OptionName → A) (name : OptionName) → slice_get (map f all_options) (tag_of option_type name) ≡ Some (f name)
at_its_place f option.Csv = refl
at_its_place f _ = refl

-- what is alike in the list of all options is alike for each
pub for_each : {A : Type 0} (f g : OptionName → A) → map f all_options ≡ map g all_options → (name : OptionName) → f name ≡ g name
for_each f g same name =
    same_Some (f name) (g name) (sym (at_its_place f name) ∙ (ap (λ xs. slice_get xs (tag_of option_type name)) same ∙ at_its_place g name))

-- ---- the arguments of a command, with what is given of each

abbrev pub once_use : (Text → Rule) → ℕ → Text → Text → Use
once_use rule i word id = record { way = once; rule = with_index i (filled (rule id)); values = word ∷ [] }

abbrev pub names_use : ℕ → List Text → Text → Use
names_use i words id = record { way = often; rule = with_index i (filled (many_rule id)); values = words }

abbrev pub option_use : Given → OptionName → Use
option_use given name = record { way = by_name (is_flag name); rule = filled (option_rule name); values = given name }

-- with one argument before others, if it is there
abbrev pub use_if : (Text → Use) → Option Text → List Use → List Use
use_if f None us = us
use_if f (Some id) us = f id ∷ us

abbrev pub next_if : ℕ → Option Text → ℕ
next_if i None = i
next_if i (Some id) = min (i + 1) usize_max

-- the command of this name
pub verb_found : (v : Verb) → verb_named (row_of v).name ≡ Some v
verb_found verb.Word = refl
verb_found _ = refl

-- no two commands have one name
pub same_verb : (v w : Verb) → (row_of v).name ≡ (row_of w).name → v ≡ w
same_verb v w named = same_Some v w (sym (verb_found v) ∙ ap verb_named named ∙ verb_found w)

abbrev pub is_used : Option Row → Bool
is_used found = option_map_or (λ r. explicit_source r.source) found false

module _ (name other text : Text) (words : List Text) (given : Given) where
  abbrev pub uses : Verb → List Use
  uses v =
      let row = row_of v in
      let place = next_if 2 row.second in
      once_use required_rule 1 name row.first
      ∷ use_if (once_use required_rule 2 other) row.second (use_if (once_use number_rule place text) row.number (use_if (names_use (next_if place row.number) words) row.more (map (option_use given) (options_of v))))

  -- what is found at the end
  abbrev pub found : Verb → Text → Option Row
  found v id = found_at id (uses v) (row_at id (unused v))

  pub record Facts (v : Verb) : Type 0 where
    pub named : IsNamed (row_of v).name (shape v)
    pub met : rules_met (shape v).rules 1 (uses v) ≡ map (λ (u : Use). (Some u.rule, Some u.rule)) (uses v)
    -- no two arguments have one id
    pub new : all_new [] (map use_id (uses v)) ≡ true
    -- nothing but the rules themselves says whether the words that they take are enough
    pub valid : (rows : List Row) → (list_all default_passes (shape v).rules && is_valid (shape v) rows false) ≡ list_all (λ a. not a.required || is_given a.id rows) (shape v).rules
    pub required : list_all (λ a. not a.required || is_used (found v a.id)) (shape v).rules ≡ true
    -- what is found of each argument
    pub first : found v (row_of v).first ≡ Some (row_of_values (row_of v).first (name ∷ []))
    pub second : option_map (found v) (row_of v).second ≡ option_map (λ id. Some (row_of_values id (other ∷ []))) (row_of v).second
    pub number : option_map (found v) (row_of v).number ≡ option_map (λ id. Some (row_of_values id (text ∷ []))) (row_of v).number
    pub more : option_map (found v) (row_of v).more ≡ option_map (λ id. row_or id words None) (row_of v).more
    pub options : (unset : OptionName → Option Row) → map (λ o. found_at (id_of o) (uses v) (unset o)) all_options
        ≡ map (λ o. if has_option (options_of v) o then row_or (id_of o) (given o) (unset o) else unset o) all_options
    pub none : map (given_in (unused v)) all_options ≡ map nothing all_options

  pub facts : (v : Verb) → Facts v
  unfolding command_line clap_on_literals walked
  facts verb.Word = search rules
  facts _ = search rules

-- ---- what can be given passes the rules

abbrev Can : Use → Type 0
Can u = CanBe u.way u.rule u.values

can_if : (Absent Present : Type 0) (f : Text → Use) (given : Option Text) (us : List Use) → MatchOption given Absent (λ _. Present) → ((id : Text) → Present → Can (f id))
    → AllByRecursion Can us → AllByRecursion Can (use_if f given us)
can_if Absent Present f None us is one all = all
can_if Absent Present f (Some id) us is one all = (one id is, all)

is_option : (name : OptionName) → IsOption (id_of name)
is_option option.Csv = (refl, refl)
is_option _ = (refl, refl)

option_can : (id : Text) (kind : OptionKind) (texts : List Text) → IsOption id → CanBeGiven kind texts → CanBe (by_name (is_switch kind)) (filled (kind_rule id kind)) texts
unfolding clap_on_literals
option_can id given.Flag [] o can = tt
option_can id kind [] o can = tt
option_can id (given.Texts form) (text ∷ []) o can = absurd can
option_can id kind (text ∷ []) o can = search rules
option_can id kind (text ∷ more ∷ texts) o can = absurd can

-- the text of the number is one that is read as it
abbrev NumberText : Option Text → Text → ℕ → Type 0
NumberText given text n = MatchOption given (n ≡ 0) (λ _. IsName text × (number_up_to most_frames text ≡ Some n))

number_passes : (text : Text) (n : ℕ) → number_up_to most_frames text ≡ Some n → is_unsigned_in 0 most_frames text ≡ true
unfolding number_up_to
number_passes text n is = (cond_some (is_unsigned_in 0 most_frames text) (digits_value 10 (without_leading_plus text)) n is).0

-- ---- what is given is found

abbrev first_in : Option Row → Option Text
first_in found = option_and_then (λ r. slice_get r.values 0) found

abbrev values_in : Option Row → List Text
values_in found = unwrap_or (option_map (λ r. r.values) found) []

option_given : (kind : OptionKind) (id : Text) (texts : List Text) (other : Option Row) → given_by kind (values_in other) ≡ [] → CanBeGiven kind texts → given_by kind (values_in (row_or id texts other)) ≡ texts
option_given kind id [] other none can = none
option_given given.Flag id (text ∷ []) other none can = rw can refl
option_given kind id (text ∷ []) other none can = refl
option_given kind id (text ∷ more ∷ texts) other none can = absurd can

values_given : (id : Text) (texts : List Text) → values_in (row_or id texts None) ≡ texts
values_given id [] = refl
values_given id (text ∷ texts) = refl

module _ (r : AskedBytes) (text : Text) (has : HasWords r) (number_is : NumberText (row_of r.verb).number text r.number) where
  abbrev row_here : CommandRow
  row_here = row_of r.verb

  abbrev s : Shape
  s = shape r.verb

  abbrev us : List Use
  us = uses r.first r.second text r.more r.given r.verb

  f : Facts r.first r.second text r.more r.given r.verb
  f = facts r.first r.second text r.more r.given r.verb

  -- ---- the words are read

  options_can : (names : List OptionName) → AllByRecursion Can (map (option_use r.given) names)
  options_can [] = tt
  options_can (name ∷ names) = (option_can (id_of name) (kind_of name) (r.given name) (is_option name) (has.options name), options_can names)

  can : AllByRecursion Can us
  can = (
    search (rules, has.first),
    can_if _ _ (once_use required_rule 2 r.second) row_here.second _ has.second (λ id name. search rules)
        (can_if _ _ (once_use number_rule _ text) row_here.number _ number_is (λ id is. search (rules, number_passes text r.number is.1))
        (can_if _ _ (names_use _ r.more) row_here.more _ has.more (λ id all. search rules) (options_can (options_of r.verb)))),
  )

  reads : Reads s (walk_from nothing_held) (flat_map words_of_use us) (flat_map rows_of_use us)
  reads = uses_read s us 1 [] f.met can f.new nothing_held false [] (λ id none. refl) (record { passes = refl; comes = refl; skip = refl })

  -- ---- and this is found

  abbrev end : List Row
  end = with_defaults (flat_map rows_of_use us) s.rules

  abbrev found_by_id : Text → Option Row
  found_by_id = found r.first r.second text r.more r.given r.verb

  found_here : (id : Text) → row_at id end ≡ found_by_id id
  found_here id = end_found id us s.rules

  -- what is found of an argument that the command may have
  field : (Absent Present : Type 0) (Is : Text → Type 0) (expected : Text → Option Row) (given : Option Text) → option_map found_by_id given ≡ option_map expected given
      → MatchOption given Absent (λ _. Present) → ((id : Text) → row_at id end ≡ expected id → Present → Is id) → MatchOption given Absent Is
  field Absent Present Is expected None are can is = can
  field Absent Present Is expected (Some id) are can is = is id (found_here id ∙ same_Some (found_by_id id) (expected id) are) can

  -- what is found of an option that is not given, and of one that the command has or has not
  abbrev unset : OptionName → Option Row
  unset name = row_at (id_of name) (unused r.verb)

  abbrev expected : OptionName → Bool → Option Row
  expected name had = if had then row_or (id_of name) (r.given name) (unset name) else unset name

  option_field : (name : OptionName) → given_in end name ≡ r.given name
  option_field name =
      ap (λ row. given_by (kind_of name) (values_in row)) (found_here (id_of name) ∙ for_each (λ o. found_at (id_of o) us (unset o)) (λ o. expected o (has_option (options_of r.verb) o)) (f.options unset) name)
      ∙ by_command (has_option (options_of r.verb) name) refl
    where
      none : given_in (unused r.verb) name ≡ []
      none = for_each (given_in (unused r.verb)) nothing f.none name

      by_command : (b : Bool) → has_option (options_of r.verb) name ≡ b → given_by (kind_of name) (values_in (expected name b)) ≡ r.given name
      by_command true is = option_given (kind_of name) (id_of name) (r.given name) (unset name) none (has.options name)
      by_command false is = none ∙ sym (has.others name is)

  asked : IsAskedBy end r
  asked = record {
    first = ap first_in (found_here row_here.first ∙ f.first);
    second = field _ _ (λ id. first_of id end ≡ Some r.second) _ row_here.second f.second has.second (λ id at name. ap first_in at);
    number = field _ _ (λ id. option_and_then (number_up_to most_frames) (first_of id end) ≡ Some r.number) _ row_here.number f.number number_is
        (λ id at is. ap (λ row. option_and_then (number_up_to most_frames) (first_in row)) at ∙ is.1);
    more = field _ _ (λ id. values_of id end ≡ r.more) _ row_here.more f.more has.more (λ id at names. ap values_in at ∙ values_given id r.more);
    options = option_field;
    taken = has.rules;
  }

  -- ---- so the words ask for it

  valid : (list_all default_passes s.rules && is_valid s end false) ≡ true
  valid = f.valid end ∙ (ap (λ (rows : Text → Option Row). list_all (λ a. not a.required || is_used (rows a.id)) s.rules) (fun_ext found_here) ∙ f.required)

  passes : level_passes s [] nothing_held (flat_map words_of_use us) false ≡ true
  passes =
      ap₂ (λ (a b : Bool). a && b) reads.passes
      (ap₂ (λ (a b : Bool). a && b) reads.settles.passes (ap (λ (rows : List Row). list_all default_passes s.rules && is_valid s (with_defaults rows s.rules) false) reads.settles.comes ∙ valid))

  if_words : (f : Text → Use) (given : Option Text) (others : List Use) (words : List Text) → ((id : Text) → words_of_use (f id) ≡ words)
      → flat_map words_of_use (use_if f given others) ≡ words_if given words ++ flat_map words_of_use others
  if_words f None others words are = refl
  if_words f (Some id) others words are = ap (λ (ws : List Text). ws ++ flat_map words_of_use others) (are id)

  words_are : row_here.name ∷ flat_map words_of_use us ≡ words_with text r
  words_are =
      ap (λ (ws : List Text). row_here.name ∷ r.first ∷ ws)
      (if_words (once_use required_rule 2 r.second) row_here.second _ (r.second ∷ []) (λ id. refl) ∙ ap (λ (ws : List Text). words_if row_here.second (r.second ∷ []) ++ ws)
      (if_words (once_use number_rule _ text) row_here.number _ (text ∷ []) (λ id. refl) ∙ ap (λ (ws : List Text). words_if row_here.number (text ∷ []) ++ ws)
      (if_words (names_use _ r.more) row_here.more _ r.more (λ id. refl) ∙ ap (λ (ws : List Text). words_if row_here.more r.more ++ ws)
      (flat_map-map words_of_use (option_use r.given) (options_of r.verb)))))

  pub asks_with : AsksFor (words_with text r) r
  asks_with =
      subst (λ (words : List Text). AsksFor words r) words_are
      (asks_for row_here.name s (flat_map words_of_use us) f.named r refl passes (subst (λ (rows : List Row). IsAskedBy (with_defaults rows s.rules) r) (sym reads.settles.comes) asked))

-- ---- with its number in decimal digits

decimal_text : (given : Option Text) (n : ℕ) → MatchOption given (n ≡ 0) (λ _. n ≤ most_frames) → NumberText given (decimal n) n
decimal_text None n none = none
decimal_text (Some id) n few = (decimal_is_name n (omega (arith, few)), decimal_up_to most_frames n few (omega (arith, few)))

pub words_ask : (r : AskedBytes) → HasWords r → AsksFor (words_of r) r
words_ask r has = asks_with r (decimal r.number) has (decimal_text (row_of r.verb).number r.number has.number)

pub live_words : (r : AskedBytes) (text : Text) → HasWords r → r.verb ≡ verb.Live → IsName text → number_up_to most_frames text ≡ Some r.number → AsksFor (words_with text r) r
live_words r text has live name is = asks_with r text has (subst (λ (v : Verb). NumberText (row_of v).number text r.number) (sym live) (name, is))
