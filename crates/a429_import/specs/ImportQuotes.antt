-- How a field in quotes ends: with a quote, and then comes a separator, a line end or the end of the text (RFC 4180; profile: import).
use Rattle.std.specs.Prelude.{ℕ, ◌-◌, ◌&&◌, ◌||◌, Bool, true, false, List, [], ◌∷◌, length, take}
use Rattle.csv.specs.Machine.{step}
use Rattle.csv.specs.Reading.{strip_bom}
use Rattle.csv.specs.declared.parser.Config.{Config}
use Rattle.csv.specs.declared.parser.State.{State}
use Rattle.csv.specs.declared.parser.State.TheVariants as st

-- the library `csv` is inside the quotes of a field
abbrev pub is_inside_quotes : State → Bool
is_inside_quotes st.InQuoted = true
is_inside_quotes _ = false

-- its last byte was a quote inside quotes: it closes them, or it is the first of two
abbrev pub is_after_quote : State → Bool
is_after_quote st.AfterQuote = true
is_after_quote _ = false

-- its last byte was one of a field, outside quotes
abbrev pub is_in_text : State → Bool
is_in_text st.InField = true
is_in_text _ = false

-- text follows the quote that closes a field, by the states before and after a byte; only the quotes of rows are looked at
abbrev pub breaks_quotes : Bool → State → State → Bool
breaks_quotes of_rows before after = of_rows && (is_after_quote before && is_in_text after)

-- a text ends inside quotes, or text follows the quote that closes a field; the text begins in this state
unfoldable pub is_misquoted_from : Bool → Config → State → List ℕ → Bool
is_misquoted_from of_rows cfg s [] = is_inside_quotes s
is_misquoted_from of_rows cfg s (c ∷ rest) = breaks_quotes of_rows s (step cfg s c).0 || is_misquoted_from of_rows cfg (step cfg s c).0 rest

-- the same, for a whole text. A byte order mark may come first
abbrev pub is_misquoted : Bool → Config → List ℕ → Bool
is_misquoted of_rows cfg text = is_misquoted_from of_rows cfg st.StartRecord (strip_bom text)

-- what comes before the end of a text
abbrev pub text_before : List ℕ → List ℕ → List ℕ
text_before end text = take (length text - length end) text

-- the lines above the heading end inside quotes, or the quotes of the rows are wrong: those of the text from the heading on
abbrev pub has_wrong_quotes : Config → List ℕ → List ℕ → Bool
has_wrong_quotes cfg rows text = is_misquoted false cfg (text_before rows text) || is_misquoted true cfg rows
