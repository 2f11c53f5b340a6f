-- What arguments ask for (profile: docs/FORMATS.md, Usage errors).
use Rattle.std.specs.Prelude.{◌≡◌, ◌≤◌, ◌≢◌, ◌∷◌, ◌++◌, [], ℕ, Bool, true, false, List, Option, Some, None, MatchOption, Result, MatchResult, codes, if◌then◌else◌, ⊤}
use Rattle.std.specs.Fmt.{decimal}
use Rattle.std.specs.List.{AllByRecursion, flat_map, list_any}
use Rattle.std.specs.Str.{bytes_eq}
use Rattle.clap.specs.ValueTests.{is_unsigned_in}
use Rattle.clap.specs.Words.{Text, found_of, kind_of as kind_of_error, rows_of}
use Rattle.clap.specs.declared.error.Error.{Error}
use Rattle.clap.specs.declared.error.kind.ErrorKind.TheVariants.{OutOfMemory}
use Rattle.a429_arguments.specs.CommandLine.{id_of, is_flag, kind_of, most_frames, options_of, row_of}
use Rattle.a429_arguments.specs.Given.{Given, are_refused, given_in, nothing, text_given}
use Rattle.a429_arguments.specs.Texts.{texts_of}
use Rattle.a429_arguments.specs.declared.options.OptionKind.{OptionKind}
use Rattle.a429_arguments.specs.declared.options.OptionKind.TheVariants as given
use Rattle.a429_arguments.specs.declared.options.OptionName.{OptionName}
use Rattle.a429_arguments.specs.declared.forms.Verb.{Verb}
use Rattle.a429_arguments.specs.declared.requests.Asked.{Asked}

-- What is asked for, by the bytes of its texts: what contracts see of an `Asked`. A command that is given one name has no second one, and so with the
-- number (of frames) and further names.
pub record AskedBytes : Type 0 where
  pub verb : Verb
  pub first : Text
  pub second : Text
  pub number : ℕ
  pub more : List Text
  pub given : Given

-- a command with these names, and without a number or options
abbrev pub asked_by_names : Verb → Text → Text → List Text → AskedBytes
asked_by_names v first second more = record {
  verb = v;
  first = first;
  second = second;
  number = 0;
  more = more;
  given = nothing;
}

-- ---- its arguments

-- the arguments of an option with this name, which may be a flag, of which this is given
abbrev pub option_words : Text → Bool → Option Text → List Text
option_words id flag None = []
option_words id flag (Some word) = (codes "--" ++ id) ∷ (if flag then [] else word ∷ [])

-- the arguments of options, in this order
abbrev pub words_of_options : Given → List OptionName → List Text
words_of_options given = flat_map (λ name. option_words (id_of name) (is_flag name) (text_given given name))

-- these arguments, of a command that has them
abbrev pub words_if : Option Text → List Text → List Text
words_if None words = []
words_if (Some _) words = words

-- its arguments in their plain form: the command, what it names, and then its options; with this text of the number
abbrev pub words_with : Text → AskedBytes → List Text
words_with number r =
    (row_of r.verb).name ∷ r.first
    ∷ (words_if (row_of r.verb).second (r.second ∷ []) ++ (words_if (row_of r.verb).number (number ∷ [])
    ++ (words_if (row_of r.verb).more r.more ++ words_of_options r.given (options_of r.verb))))

abbrev pub words_of : AskedBytes → List Text
words_of r = words_with (decimal r.number) r

-- ---- which requests have arguments

-- a name of a file, which no option can be
abbrev pub IsName : Text → Type 0
IsName [] = ⊤
IsName (x ∷ xs) = x ≢ 45

-- a text can be given with an option of this kind, in the plain form, which gives no option several times
abbrev pub IsValueOf : OptionKind → Text → Type 0
IsValueOf given.Flag text = text ≡ codes "true"
IsValueOf (given.Text form) text = IsName text
IsValueOf (given.Texts form) text = ⊥
IsValueOf (given.Number least most) text = IsName text × (is_unsigned_in least most text ≡ true)

abbrev pub CanBeGiven : OptionKind → List Text → Type 0
CanBeGiven kind [] = ⊤
CanBeGiven kind (text ∷ []) = IsValueOf kind text
CanBeGiven kind _ = ⊥

abbrev pub has_option : List OptionName → OptionName → Bool
has_option names name = list_any (λ x. bytes_eq (id_of x) (id_of name)) names

-- a request has arguments in their plain form: each text of it is a name, its numbers can be asked for, and its command takes all that it has
pub record HasWords (r : AskedBytes) : Type 0 where
  pub first : IsName r.first
  pub second : MatchOption (row_of r.verb).second (r.second ≡ []) (λ _. IsName r.second)
  pub number : MatchOption (row_of r.verb).number (r.number ≡ 0) (λ _. r.number ≤ most_frames)
  pub more : MatchOption (row_of r.verb).more (r.more ≡ []) (λ _. AllByRecursion IsName r.more)
  pub options : (name : OptionName) → CanBeGiven (kind_of name) (r.given name)
  -- what is given goes together
  pub rules : are_refused r.verb r.given ≡ false
  pub others : (name : OptionName) → has_option (options_of r.verb) name ≡ false → r.given name ≡ []

-- ---- the bytes of what was read of the arguments

abbrev pub asked_of : Asked → AskedBytes
asked_of q = record {
  verb = q.verb;
  first = q.first.now;
  second = q.second.now;
  number = q.number;
  more = texts_of q.more.items;
  given = given_in (rows_of (found_of q.found));
}

-- this was asked for and was read, or an allocation failed
abbrev pub IsRead : AskedBytes → Result Asked Error → Type 0
IsRead r result = MatchResult result (λ q. asked_of q ≡ r) (λ e. kind_of_error e ≡ OutOfMemory)
