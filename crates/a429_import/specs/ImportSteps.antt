-- How the library `csv` passes a byte (vocabulary of contracts).
use Rattle.std.specs.Prelude.{Bool, false, true}
use Rattle.csv.specs.declared.parser.State.{State}
use Rattle.csv.specs.declared.parser.State.TheVariants as st
use Rattle.a429_import.specs.declared.lines.Part.{Part}
use Rattle.a429_import.specs.declared.lines.Part.TheVariants as part

-- the state in which the library `csv` is then
abbrev pub state_of : Part → State
state_of part.Row = st.StartRecord
state_of part.Return = st.AfterCr
state_of part.Field = st.StartField
state_of part.Text = st.InField
state_of part.Quoted = st.InQuoted
state_of part.Quote = st.AfterQuote

-- the next byte is the first of a field, or comes before a row
abbrev pub begins_field : State → Bool
begins_field st.StartRecord = true
begins_field st.AfterCr = true
begins_field st.StartField = true
begins_field _ = false
