-- How the words of one argument are read, and then those of several, and what is found of each at the end.
use Rattle.std.proofs.Common.{Bool, List, [], ap, append-nil, append_assoc, ap₂, codes, drop, false, fold, inl, inr, map, refl, subst, sym, true, ℕ, ◌++◌, ◌+◌, ◌∙◌, ◌∷◌, ◌≡◌}
use Rattle.std.proofs.Math.Bool.{and-false}
use Rattle.clap.proofs.SimpleLemmas.{is_false}
use Rattle.std.proofs.lemmas.Bool.{and_parts, cases_Bool, ne_eqb, or_parts}
use Rattle.std.proofs.lemmas.List.Folds.{find-append, list_any-append}
use Rattle.std.proofs.lemmas.Option.{same_Some}
use Rattle.std.proofs.lemmas.Slice.Eq.{bytes_eq-Decides}
use Rattle.std.specs.List.{AllByRecursion, flat_map, list_any}
use Rattle.std.specs.Option.{option_or}
use Rattle.std.specs.Prelude.{None, Option, Some, find, if◌then◌else◌, min, not, slice_get, ⊤, ◌&&◌}
use Rattle.std.specs.Str.{bytes_eq}
use Rattle.clap.specs.Lexer.{long_of, short_of, usize_max}
use Rattle.clap.specs.Simple.{missing_of, values_of}
use Rattle.clap.specs.Takes.{settle_passes, step_passes, turn_passes, value_passes, walk_passes, word_passes}
use Rattle.clap.specs.Walk.{Held, Step, Waiting, Walk, after_step, arg_by_id, arg_by_index, arg_by_long, at_row, has_row, idle, is_multiple, is_pending, more_values, next, option, plain_word, positional, reading_by, settled_rows, subcommand_met, takes_several, value, walked, with_default, with_values, without, word_met}
use Rattle.clap.specs.Words.{Row, Rule, Shape, Text}
use Rattle.clap.specs.declared.builder.action.ArgAction.TheVariants.{Append, Set, SetTrue}
use Rattle.clap.specs.declared.builder.action.ArgAction.{ArgAction}
use Rattle.clap.specs.declared.builder.value_parser.Reading.TheVariants.{AsWritten}
use Rattle.clap.specs.declared.parser.matches.ValueSource.TheVariants.{CommandLine, DefaultValue}
use Rattle.a429_arguments.specs.Requests.{IsName, option_words}

-- ---- rows

-- what is found of an argument with these values
abbrev pub row_of_values : Text → List Text → Row
row_of_values id values = record { id = id; values = values; count = None; source = Some CommandLine; reading = AsWritten }

abbrev pub rows_of_values : Text → List Text → List Row
rows_of_values id [] = []
rows_of_values id (word ∷ words) = row_of_values id (word ∷ words) ∷ []

pub same_text : (t : Text) → bytes_eq t t ≡ true
same_text t = (bytes_eq-Decides t t).1 refl

-- what is done to the row of an id leaves the rows before it
at_later : (id : Text) (change : Row → List Row) (missing rows later : List Row) → has_row id rows ≡ false → at_row id change missing (rows ++ later) ≡ rows ++ at_row id change missing later
at_later id change missing [] later none = refl
at_later id change missing (r ∷ rows) later none =
    let parts = or_parts (bytes_eq r.id id) (has_row id rows) none in
    rw parts.0 (ap (λ (rs : List Row). r ∷ rs) (at_later id change missing rows later parts.1))

pub at_missing : (id : Text) (change : Row → List Row) (missing rows : List Row) → has_row id rows ≡ false → at_row id change missing rows ≡ rows ++ missing
at_missing id change missing rows none = ap (at_row id change missing) (sym (append-nil rows)) ∙ at_later id change missing rows [] none

-- the values of a first use are at the end
first_use : (id : Text) (rows : List Row) (values : List Text) → has_row id rows ≡ false → with_values id AsWritten CommandLine values (without id rows) ≡ rows ++ row_of_values id values ∷ []
first_use id rows values none =
    ap (with_values id AsWritten CommandLine values) (at_missing id (λ _. []) [] rows none)
    ∙ at_later id (more_values CommandLine values) (row_of_values id values ∷ []) rows [] none

-- and so are those of one use more
next_use : (id : Text) (rows : List Row) (values : List Text) (word : Text) → has_row id rows ≡ false
    → with_values id AsWritten CommandLine (word ∷ []) (rows ++ rows_of_values id values) ≡ rows ++ rows_of_values id (values ++ word ∷ [])
next_use id rows [] word none = at_later id (more_values CommandLine (word ∷ [])) (row_of_values id (word ∷ []) ∷ []) rows [] none
next_use id rows (v ∷ values) word none =
    at_later id (more_values CommandLine (word ∷ [])) (row_of_values id (word ∷ []) ∷ []) rows (row_of_values id (v ∷ values) ∷ []) none ∙ rw (same_text id) refl

-- ---- one word

-- these words of an argument wait
abbrev pub held_with : List Row → Option (Text × List Text) → Held
held_with rows pending = record { rows = rows; pending = pending; skip = 0 }

-- all that is held passes, and gives these rows
pub record Settles (s : Shape) (h : Held) (rows : List Row) : Type 0 where
  pub passes : settle_passes s.rules s.args_override_self h ≡ true
  pub comes : settled_rows s.rules h.pending h.rows ≡ rows
  pub skip : h.skip ≡ 0

-- the words pass from here, and come to these rows
pub record Reads (s : Shape) (from : Walk) (words : List Text) (rows : List Row) : Type 0 where
  pub passes : walk_passes s [] from words ≡ true
  pub settles : Settles s (fold (walked s.rules []) from words).held rows

-- before the next argument of a command, which has no subcommands
abbrev pub at_word : Held → Waiting → ℕ → Walk
at_word h waiting position = record { held = h; waiting = waiting; position = position; is_trailing = false; stopped = None }

-- a word passes, and the others are read from the place to which it leads
reads_on : (s : Shape) (h : Held) (w : Waiting) (i : ℕ) (word : Text) (words : List Text) (rows : List Row) (met : Held × Step) (to : Walk) → word_passes s [] false w word h ≡ true
    → word_met s.rules [] false w i word h ≡ met → step_passes s i met.0 met.1 ≡ true → after_step s.rules word (at_word h w i) met.0 met.1 ≡ to → Reads s to words rows
    → Reads s (at_word h w i) (word ∷ words) rows
unfolding walk_passes walked
reads_on s h w i word words rows met to passes is step leads rest =
    let turn : turn_passes s [] (at_word h w i) word ≡ true = ap₂ (λ (b : Bool) (m : Held × Step). b && step_passes s i m.0 m.1) passes is ∙ step in
    let goes : walked s.rules [] (at_word h w i) word ≡ to = ap (λ (m : Held × Step). after_step s.rules word (at_word h w i) m.0 m.1) is ∙ leads in
    record {
      passes = ap₂ (λ (b : Bool) (x : Walk). b && walk_passes s [] x words) turn goes ∙ rest.passes;
      settles = subst (λ (x : Walk). Settles s (fold (walked s.rules []) x words).held rows) (sym goes) rest.settles;
    }

-- a name is no option
plain : (t : Text) → IsName t → (bytes_eq t (45 ∷ 45 ∷ []) ≡ false) × (long_of t ≡ None) × (short_of t ≡ None)
plain [] name = (refl, refl, refl)
plain (x ∷ xs) name =
    let other = ne_eqb x 45 name in
    (rw other refl, rw other refl, rw other refl)

no_command : (w : Waiting) (word : Text) → subcommand_met [] w word ≡ None
no_command idle word = refl
no_command positional word = refl
no_command (option id) word = refl

name_met : (s : Shape) (w : Waiting) (i : ℕ) (t : Text) (h : Held) → IsName t → (word_passes s [] false w t h ≡ true) × (word_met s.rules [] false w i t h ≡ plain_word s.rules w t h)
name_met s w i t h name =
    let p = plain t name in
    rw (no_command w t, p.0, p.1, p.2) (refl, refl)

-- what waits: nothing, or a positional that takes more
abbrev pub waiting_if : Bool → Waiting
waiting_if many = if many then positional else idle

is_value : (c : List Rule) (many : Bool) (t : Text) (h : Held) → plain_word c (waiting_if many) t h ≡ (h, value)
is_value c true t h = refl
is_value c false t h = refl

-- ---- one argument

-- each use has one value, or none
pub record IsUsed (a : Rule) (how : ArgAction) : Type 0 where
  pub range : a.range ≡ Some (record { start_inclusive = values_of how; end_inclusive = values_of how })
  pub action : a.action ≡ Some how
  pub reading : reading_by a ≡ AsWritten
  pub trailing : a.trailing_var_arg ≡ false
  pub missing : a.missing ≡ missing_of how

-- the word `--id` names an option
abbrev pub IsOption : Text → Type 0
IsOption id = (bytes_eq (codes "--" ++ id) (45 ∷ 45 ∷ []) ≡ false) × (long_of (codes "--" ++ id) ≡ Some (id, None))

abbrev pub Passes : Rule → Text → Type 0
Passes a word = IsName word × (value_passes a word ≡ true)

module _ (s : Shape) (a : Rule) (by : arg_by_id s.rules a.id ≡ Some a) (rows : List Row) where
  value_settles : (word : Text) → IsUsed a Set → has_row a.id rows ≡ false → value_passes a word ≡ true
      → Settles s (held_with rows (Some (a.id, word ∷ []))) (rows ++ row_of_values a.id (word ∷ []) ∷ [])
  value_settles word is none passes = record {
    passes = rw (by, is.range, is.action, none, passes) refl;
    comes = rw (by, is.action, is.reading) (first_use a.id rows (word ∷ []) none);
    skip = refl;
  }

  -- a word at its place waits, and all before it is settled
  place_read : (many before : Bool) (i : ℕ) (word : Text) (words : List Text) (h : Held) (now end : List Row) → a.range ≡ Some (record { start_inclusive = 1; end_inclusive = 1 })
      → is_multiple a ≡ many → a.trailing_var_arg ≡ false → arg_by_index s.rules i ≡ Some a → IsName word → Settles s h now
      → Reads s (at_word (held_with now (Some (a.id, word ∷ []))) (waiting_if many) (if many then i else min (i + 1) usize_max)) words end
      → Reads s (at_word h (waiting_if before) i) (word ∷ words) end
  place_read many before i word words h now end range multiple trailing at name settles rest =
      let several : (is_pending a h.pending && takes_several a) ≡ false = rw range (and-false (is_pending a h.pending)) in
      let met = name_met s (waiting_if before) i word h name in
      reads_on s h (waiting_if before) i word words end (h, value) _ met.0 (met.1 ∙ is_value s.rules before word h) (rw (at, several) settles.passes)
      (rw (at, several, settles.comes, settles.skip, multiple, trailing) refl) rest

  next_settles : (values : List Text) (word : Text) → IsUsed a Append → has_row a.id rows ≡ false → value_passes a word ≡ true
      → Settles s (held_with (rows ++ rows_of_values a.id values) (Some (a.id, word ∷ []))) (rows ++ rows_of_values a.id (values ++ word ∷ []))
  next_settles values word is none passes = record {
    passes = rw (by, is.range, is.action, passes) refl;
    comes = rw (by, is.action, is.reading) (next_use a.id rows values word none);
    skip = refl;
  }

  -- as many words as are given, and then others
  often_read : (i : ℕ) (before more words : List Text) (h : Held) (m : Bool) (end : List Row) → IsUsed a Append → arg_by_index s.rules i ≡ Some a → has_row a.id rows ≡ false
      → ((word : Text) → value_passes a word ≡ true) → AllByRecursion IsName more → Settles s h (rows ++ rows_of_values a.id before)
      → ((g : Held) (n : Bool) → Settles s g (rows ++ rows_of_values a.id (before ++ more)) → Reads s (at_word g (waiting_if n) i) words end)
      → Reads s (at_word h (waiting_if m) i) (more ++ words) end
  often_read i before [] words h m end is at none passes all settles rest =
      rest h m (subst (λ (values : List Text). Settles s h (rows ++ rows_of_values a.id values)) (sym (append-nil before)) settles)
  often_read i before (word ∷ more) words h m end is at none passes (name, all) settles rest =
      let now = rows ++ rows_of_values a.id before in
      place_read true m i word (more ++ words) h now end is.range (rw (is.range, is.action) refl) is.trailing at name settles
      (often_read i (before ++ word ∷ []) more words (held_with now (Some (a.id, word ∷ []))) true end is at none passes all (next_settles before word is none (passes word))
      (λ g n settled. rest g n (subst (λ (values : List Text). Settles s g (rows ++ rows_of_values a.id values)) (append_assoc before (word ∷ []) more) settled)))

-- ---- several arguments

-- how an argument is given: at its place, once or often, or by its name, which may be a flag
pub data Way : Type 0 where
  once : Way
  often : Way
  by_name : Bool → Way

-- an argument, and what is given of it
pub record Use : Type 0 where
  pub way : Way
  pub rule : Rule
  pub values : List Text

abbrev pub words_by : Way → Text → List Text → List Text
words_by (by_name flag) id values = option_words id flag (slice_get values 0)
words_by _ id values = values

abbrev pub words_of_use : Use → List Text
words_of_use u = words_by u.way u.rule.id u.values

abbrev pub rows_of_use : Use → List Row
rows_of_use u = rows_of_values u.rule.id u.values

abbrev pub use_id : Use → Text
use_id u = u.rule.id

-- what is given passes the rule
abbrev pub CanBe : Way → Rule → List Text → Type 0
CanBe once a (word ∷ []) = IsUsed a Set × Passes a word
CanBe often a words = IsUsed a Append × ((word : Text) → value_passes a word ≡ true) × AllByRecursion IsName words
CanBe (by_name flag) a [] = ⊤
CanBe (by_name false) a (word ∷ []) = IsUsed a Set × IsOption a.id × Passes a word
CanBe (by_name true) a (word ∷ []) = IsUsed a SetTrue × IsOption a.id × (value_passes a (codes "true") ≡ true) × (word ≡ codes "true")
CanBe _ a _ = ⊥

-- the place after it
abbrev pub place_after : Way → ℕ → ℕ
place_after once i = min (i + 1) usize_max
place_after _ i = i

abbrev pub rule_met : List Rule → ℕ → Way → Text → Option Rule
rule_met c i (by_name flag) id = arg_by_long c id
rule_met c i _ id = arg_by_index c i

use_read : (s : Shape) (i : ℕ) (way : Way) (a : Rule) (values : List Text) → rule_met s.rules i way a.id ≡ Some a → arg_by_id s.rules a.id ≡ Some a → CanBe way a values
    → (h : Held) (m : Bool) (rows end : List Row) (words : List Text) → has_row a.id rows ≡ false → Settles s h rows
    → ((g : Held) (n : Bool) → Settles s g (rows ++ rows_of_values a.id values) → Reads s (at_word g (waiting_if n) (place_after way i)) words end)
    → Reads s (at_word h (waiting_if m) i) (words_by way a.id values ++ words) end
use_read s i once a (word ∷ []) at by (is, (name, passes)) h m rows end words none settles rest =
    place_read s a by rows false m i word words h rows end is.range (rw (is.range, is.action) refl) is.trailing at name settles
    (rest (held_with rows (Some (a.id, word ∷ []))) false (value_settles s a by rows word is none passes))
use_read s i often a values at by (is, passes, all) h m rows end words none settles rest =
    often_read s a by rows i [] values words h m end is at none passes all (subst (Settles s h) (sym (append-nil rows)) settles) rest
use_read s i (by_name flag) a [] at by can h m rows end words none settles rest = rest h m (subst (Settles s h) (sym (append-nil rows)) settles)
-- an option and its value
use_read s i (by_name false) a (word ∷ []) at by (is, o, (name, passes)) h m rows end words none settles rest =
    let held = held_with rows (Some (a.id, [])) in
    let read = held_with rows (Some (a.id, word ∷ [])) in
    let met = name_met s (option a.id) i word held name in
    let none_here = no_command (waiting_if m) (codes "--" ++ a.id) in
    reads_on s h (waiting_if m) i (codes "--" ++ a.id) (word ∷ words) end (held, next (option a.id)) _ (rw (none_here, o.0, o.1, at, is.range) settles.passes)
    (rw (none_here, o.0, o.1, at, is.range, settles.comes, settles.skip) refl) refl refl
    (reads_on s held (option a.id) i word words end (read, next idle) _ met.0 (met.1 ∙ rw (by, is.range, same_text a.id) refl) refl refl
    (rest read false (value_settles s a by rows word is none passes)))
-- an option without a value
use_read s i (by_name true) a (word ∷ []) at by (is, o, passes, set) h m rows end words none settles rest =
    let read = held_with (rows ++ row_of_values a.id (codes "true" ∷ []) ∷ []) None in
    let none_here = no_command (waiting_if m) (codes "--" ++ a.id) in
    reads_on s h (waiting_if m) i (codes "--" ++ a.id) words end (read, next idle) _
    (rw (none_here, o.0, o.1, at, is.range, settles.passes, settles.comes, is.action, is.missing, none, passes) refl)
    (rw (none_here, o.0, o.1, at, is.range, settles.comes, settles.skip, is.action, is.missing, is.reading)
    (ap (λ (rs : List Row). (held_with rs None, next idle)) (first_use a.id rows (codes "true" ∷ []) none))) refl refl
    (rest read false (record { passes = refl; comes = rw set refl; skip = refl }))
use_read s i way a values at by can h m rows end words none settles rest = absurd can

-- these ids have this one
abbrev pub has_id : List Text → Text → Bool
has_id ids id = list_any (λ x. bytes_eq x id) ids

-- each of the second is new after the first and those before it
abbrev pub all_new : List Text → List Text → Bool
all_new ids [] = true
all_new ids (x ∷ xs) = not (has_id ids x) && all_new (x ∷ ids) xs

-- the rows have ids of these alone
abbrev Within : List Row → List Text → Type 0
Within rows ids = (id : Text) → has_id ids id ≡ false → has_row id rows ≡ false

within_use : (u : Use) (rows : List Row) (ids : List Text) → Within rows ids → Within (rows ++ rows_of_use u) (use_id u ∷ ids)
within_use u rows ids within id none =
    let parts = or_parts (bytes_eq u.rule.id id) (has_id ids id) none in
    list_any-append (λ r. bytes_eq r.id id) rows (rows_of_use u) ∙ rw (within id parts.1) (one parts.0 u.values)
  where
    one : bytes_eq u.rule.id id ≡ false → (values : List Text) → has_row id (rows_of_values u.rule.id values) ≡ false
    one other [] = refl
    one other (word ∷ words) = rw other refl

-- the rules that the words of arguments meet from this place on, and those of their ids
abbrev pub rules_met : List Rule → ℕ → List Use → List (Option Rule × Option Rule)
rules_met c i [] = []
rules_met c i (u ∷ us) = (rule_met c i u.way u.rule.id, arg_by_id c u.rule.id) ∷ rules_met c (place_after u.way i) us

pub uses_read : (s : Shape) (us : List Use) (i : ℕ) (ids : List Text) → rules_met s.rules i us ≡ map (λ (u : Use). (Some u.rule, Some u.rule)) us
    → AllByRecursion (λ (u : Use). CanBe u.way u.rule u.values) us → all_new ids (map use_id us) ≡ true → (h : Held) (m : Bool) (rows : List Row) → Within rows ids → Settles s h rows
    → Reads s (at_word h (waiting_if m) i) (flat_map words_of_use us) (rows ++ flat_map rows_of_use us)
unfolding walk_passes
uses_read s [] i ids met can new h m rows within settles = record { passes = refl; settles = subst (Settles s h) (sym (append-nil rows)) settles }
uses_read s (u ∷ us) i ids met (one, can) new h m rows within settles =
    let here = same_Some (rule_met s.rules i u.way u.rule.id, arg_by_id s.rules u.rule.id) (Some u.rule, Some u.rule) (ap (λ (xs : List (Option Rule × Option Rule)). slice_get xs 0) met) in
    let parts = and_parts (not (has_id ids u.rule.id)) (all_new (u.rule.id ∷ ids) (map use_id us)) new in
    use_read s i u.way u.rule u.values (ap (λ p. p.0) here) (ap (λ p. p.1) here) one h m rows (rows ++ (rows_of_use u ++ flat_map rows_of_use us)) (flat_map words_of_use us)
    (within u.rule.id (is_false (has_id ids u.rule.id) parts.0)) settles
    (λ g n settled. subst (Reads s (at_word g (waiting_if n) (place_after u.way i)) (flat_map words_of_use us)) (append_assoc rows (rows_of_use u) (flat_map rows_of_use us))
    (uses_read s us (place_after u.way i) (u.rule.id ∷ ids) (ap (λ (xs : List (Option Rule × Option Rule)). drop 1 xs) met) can parts.1 g n (rows ++ rows_of_use u) (within_use u rows ids within) settled))

-- ---- what is found at the end

-- the first row of this id
abbrev pub row_at : Text → List Row → Option Row
row_at id rows = find (λ r. bytes_eq r.id id) rows

abbrev pub with_defaults : List Row → List Rule → List Row
with_defaults rows rules = fold with_default rows rules

or_none : (found : Option Row) → option_or found None ≡ found
or_none None = refl
or_none (Some r) = refl

or_assoc : (a b c : Option Row) → option_or (option_or a b) c ≡ option_or a (option_or b c)
or_assoc None b c = refl
or_assoc (Some r) b c = refl

-- an id that is there is found there
is_there : (id : Text) (rows : List Row) (other : Option Row) → has_row id rows ≡ true → row_at id rows ≡ option_or (row_at id rows) other
is_there id [] other has = absurd (cc has)
is_there id (r ∷ rows) other has = elim (cases_Bool (bytes_eq r.id id)) [
  | inl same ↦ rw same refl
  | inr differs ↦ rw differs (is_there id rows other (rw differs at has))
]

one_default : (id : Text) (rows : List Row) (a : Rule) → row_at id (with_default rows a) ≡ option_or (row_at id rows) (row_at id (with_default [] a))
one_default id rows a = go (has_row a.id rows) refl a.defaults refl
  where
    made : List Text → Row
    made values = record { id = a.id; values = values; count = None; source = Some DefaultValue; reading = reading_by a }

    passed : (b : Bool) (r : Row) → bytes_eq a.id id ≡ b → has_row a.id rows ≡ true → row_at id rows ≡ option_or (row_at id rows) (if b then Some r else None)
    passed false r same has = sym (or_none (row_at id rows))
    passed true r same has = is_there id rows (Some r) (rw (← (bytes_eq-Decides a.id id).0 same) has)

    go : (b : Bool) → has_row a.id rows ≡ b → (values : List Text) → a.defaults ≡ values → row_at id (with_default rows a) ≡ option_or (row_at id rows) (row_at id (with_default [] a))
    go true has [] is = rw (has, is) (sym (or_none (row_at id rows)))
    go false none [] is = rw (none, is) (sym (or_none (row_at id rows)))
    go true has (v ∷ vs) is = rw (has, is) (passed (bytes_eq a.id id) (made (v ∷ vs)) refl has)
    go false none (v ∷ vs) is =
        rw (none, is) (ap (row_at id) (at_missing a.id (more_values DefaultValue (v ∷ vs)) (made (v ∷ vs) ∷ []) rows none) ∙ find-append (λ r. bytes_eq r.id id) rows (made (v ∷ vs) ∷ []))

defaults_found : (id : Text) (rules : List Rule) (rows : List Row) → row_at id (with_defaults rows rules) ≡ option_or (row_at id rows) (row_at id (with_defaults [] rules))
defaults_found id [] rows = sym (or_none (row_at id rows))
defaults_found id (a ∷ rules) rows =
    let one = with_default [] a in
    let others = row_at id (with_defaults [] rules) in
    defaults_found id rules (with_default rows a)
    ∙ (ap (λ found. option_or found others) (one_default id rows a)
    ∙ (or_assoc (row_at id rows) (row_at id one) others ∙ ap (option_or (row_at id rows)) (sym (defaults_found id rules one))))

-- what is given of an argument; if nothing is, this
abbrev pub row_or : Text → List Text → Option Row → Option Row
row_or id [] other = other
row_or id (word ∷ words) other = Some (row_of_values id (word ∷ words))

-- of all arguments with this id
abbrev pub found_at : Text → List Use → Option Row → Option Row
found_at id [] other = other
found_at id (u ∷ us) other = if bytes_eq u.rule.id id then row_or u.rule.id u.values (found_at id us other) else found_at id us other

rows_found : (id : Text) (us : List Use) (other : Option Row) → option_or (row_at id (flat_map rows_of_use us)) other ≡ found_at id us other
rows_found id [] other = refl
rows_found id (u ∷ us) other = go u.values (bytes_eq u.rule.id id) refl (rows_found id us other)
  where
    go : (values : List Text) (b : Bool) → bytes_eq u.rule.id id ≡ b → option_or (row_at id (flat_map rows_of_use us)) other ≡ found_at id us other
        → option_or (row_at id (rows_of_values u.rule.id values ++ flat_map rows_of_use us)) other ≡ (if b then row_or u.rule.id values (found_at id us other) else found_at id us other)
    go [] true same rest = rest
    go [] false same rest = rest
    go (v ∷ vs) true same rest = rw same refl
    go (v ∷ vs) false same rest = rw same rest

pub end_found : (id : Text) (us : List Use) (rules : List Rule)
    → row_at id (with_defaults (flat_map rows_of_use us) rules) ≡ found_at id us (row_at id (with_defaults [] rules))
end_found id us rules = defaults_found id rules (flat_map rows_of_use us) ∙ rows_found id us (row_at id (with_defaults [] rules))
