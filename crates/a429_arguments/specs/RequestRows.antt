-- What is asked for by the values that were read of a command's arguments (profile: docs/FORMATS.md, Usage errors).
use Rattle.std.specs.Prelude.{◌≡◌, [], ℕ, List, Option, Some, None, true, false, MatchOption, option_and_then}
use Rattle.clap.specs.Words.{Row, Text, first_of, subcommand_of, takes}
use Rattle.a429_arguments.specs.CommandLine.{command_line, most_frames, number_up_to, row_of}
use Rattle.a429_arguments.specs.Given.{are_refused, given_in, values_of}
use Rattle.a429_arguments.specs.Requests.{AskedBytes, HasWords, IsName, words_of, words_with}
use Rattle.a429_arguments.specs.declared.options.OptionName.{OptionName}
use Rattle.a429_arguments.specs.declared.forms.Verb.TheVariants as verb

-- a text, a number and texts are what is found of an argument, if there is one; otherwise they are empty, and the number is 0
abbrev pub IsGivenText : List Row → Option Text → Text → Type 0
IsGivenText rows argument text = MatchOption argument (text ≡ []) (λ id. first_of id rows ≡ Some text)

abbrev pub IsGivenNumber : List Row → Option Text → ℕ → Type 0
IsGivenNumber rows argument n = MatchOption argument (n ≡ 0) (λ id. option_and_then (number_up_to most_frames) (first_of id rows) ≡ Some n)

abbrev pub AreGivenTexts : List Row → Option Text → List Text → Type 0
AreGivenTexts rows argument texts = MatchOption argument (texts ≡ []) (λ id. values_of id rows ≡ texts)

-- this is asked for by the values of its command; what the command is not given is empty
pub record IsAskedBy (rows : List Row) (r : AskedBytes) : Type 0 where
  pub first : first_of (row_of r.verb).first rows ≡ Some r.first
  pub second : IsGivenText rows (row_of r.verb).second r.second
  pub number : IsGivenNumber rows (row_of r.verb).number r.number
  pub more : AreGivenTexts rows (row_of r.verb).more r.more
  pub options : (name : OptionName) → given_in rows name ≡ r.given name
  -- and breaks no rule
  pub taken : are_refused r.verb r.given ≡ false

-- by what was found of the arguments: the command's name and its values
abbrev pub IsFound : Option (Text × List Row) → AskedBytes → Type 0
IsFound None r = ⊥
IsFound (Some p) r = (p.0 ≡ (row_of r.verb).name) × IsAskedBy p.1 r

-- the rules of the command line accept these arguments, and by the values that they give them this is asked for
unfoldable pub AsksFor : List Text → AskedBytes → Type 0
AsksFor words r = (takes command_line words ≡ true) × IsFound (subcommand_of command_line words) r

-- the arguments of `live` ask for it with each spelling of FRAMES that the rules accept
abbrev pub LiveWordsAsk : Type 0
LiveWordsAsk =
    (r : AskedBytes) (text : Text) → HasWords r → r.verb ≡ verb.Live → IsName text → number_up_to most_frames text ≡ Some r.number → AsksFor (words_with text r) r

-- a request in its plain form, which is what it names and then its options, asks for it
abbrev pub PlainWordsAsk : Type 0
PlainWordsAsk = (r : AskedBytes) → HasWords r → AsksFor (words_of r) r
