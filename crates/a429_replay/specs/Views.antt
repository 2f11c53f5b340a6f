-- Which answers `replay` prints, by its options, and in which form (profile: docs/FORMATS.md, Output of `replay`).
use Rattle.std.specs.Prelude.{◌≡◌, ◌==◌, ◌&&◌, ◌||◌, ◌++◌, ◌∷◌, [], ℕ, Bool, true, false, List, Option, Some, None, codes, drop, if◌then◌else◌, not, option_map}
use Rattle.std.specs.Fmt.{decimal}
use Rattle.a429_word.specs.Hexadecimal.{hex}
use Rattle.a429_slots.specs.declared.answers.Answer.{Answer}
use Rattle.a429_slots.specs.declared.answers.Answer.TheVariants.{Accepted, Sent, Changed, Published, Refused}
use Rattle.a429_arguments.specs.Given.{Given, has_given, text_given}
use Rattle.a429_arguments.specs.declared.options.OptionName.TheVariants as option
use Rattle.a429_console.specs.Names.{Naming, name_at, number_named}
use Rattle.a429_console.specs.RefusalText.{refusal_line}
use Rattle.a429_console.specs.Tables.{IsGroupRefusal}
use Rattle.a429_console.specs.declared.refusals.CommandRefusal.{CommandRefusal}
use Rattle.a429_replay.specs.AnswerLines.{answer_line, refusal_text}
use Rattle.a429_replay.specs.declared.script.ScriptEvent.{ScriptEvent}
use Rattle.a429_replay.specs.declared.script.ScriptEvent.TheVariants.{Arrive, Cell, Frame, Publish}
use Rattle.a429_replay.specs.declared.views.ReplayForm.{ReplayForm}
use Rattle.a429_replay.specs.declared.views.View.{View}

-- ---- what is asked for

-- only the answers of cells that are sent; only those for a group of this name; as rows with commas
pub record AskedView : Type 0 where
  pub quiet : Bool
  pub only : Option (List ℕ)
  pub commas : Bool

-- with the options of a request
abbrev pub view_given : Given → AskedView
view_given given = record { quiet = has_given given option.Quiet; only = text_given given option.Only; commas = has_given given option.Csv }

-- by the bytes of the name
abbrev pub asked_view : ReplayForm → AskedView
asked_view f = record { quiet = f.quiet; only = option_map (λ name. name.now) f.only; commas = f.commas }

-- the same by the number of the group
abbrev pub with_only : AskedView → Option ℕ → View
with_only asked only = record { quiet = asked.quiet; only = only; commas = asked.commas }

-- of a station with these names; None if no group has the name
abbrev pub view_by : Naming → AskedView → Option (List ℕ) → Option View
view_by names asked None = Some (with_only asked None)
view_by names asked (Some name) = option_map (λ g. with_only asked (Some g)) (number_named names.groups name)

abbrev pub view_of : Naming → AskedView → Option View
view_of names asked = view_by names asked asked.only

-- no group has the name that is asked for
abbrev pub IsNoGroup : Naming → AskedView → CommandRefusal → Type 0
IsNoGroup names asked refusal = (name : List ℕ) × (asked.only ≡ Some name) × (number_named names.groups name ≡ None) × IsGroupRefusal name refusal

-- ---- which answers are printed

-- the answers for a group are printed, if they are asked for of this one, or of all
abbrev pub is_of : Option ℕ → ℕ → Bool
is_of None g = true
is_of (Some only) g = g == only

-- the answers that are for no group
abbrev pub is_of_all : Option ℕ → Bool
is_of_all None = true
is_of_all (Some only) = false

-- an event is for a group if it asks for its next cell, or its next frame
abbrev pub is_for : Option ℕ → ScriptEvent → Bool
is_for only (Arrive receiver raw) = is_of_all only
is_for only (Cell g) = is_of only g
is_for only (Frame g) = is_of only g
is_for only (Publish n) = is_of_all only

-- a cell is sent, with a word or empty
abbrev pub is_sent : Answer → Bool
is_sent (Sent bus slot word) = true
is_sent _ = false

-- the answer to an event is printed, if it is or is not that of a cell that is sent
abbrev pub shows : View → ScriptEvent → Bool → Bool
shows view event sent = is_for view.only event && (sent || not view.quiet)

-- ---- as rows with commas

-- the heading of the rows
abbrev pub row_heading : List ℕ
row_heading = codes "event,group,bus,slot,word,source,receiver,plan,refused\n"

-- what happens, and the group that it is for
abbrev pub event_fields : Naming → ScriptEvent → List ℕ
event_fields names (Arrive receiver raw) = codes "arrive,,"
event_fields names (Cell g) = codes "cell," ++ (name_at names.groups g ++ codes ",")
event_fields names (Frame g) = codes "frame," ++ (name_at names.groups g ++ codes ",")
event_fields names (Publish n) = codes "publish,,"

abbrev pub word_field : Option ℕ → List ℕ
word_field None = []
word_field (Some raw) = hex raw

abbrev pub sent_fields : ℕ → ℕ → Option ℕ → List ℕ
sent_fields bus slot word = decimal bus ++ (codes "," ++ (decimal slot ++ (codes "," ++ (word_field word ++ codes ","))))

abbrev pub arrival_fields : ScriptEvent → List ℕ
arrival_fields (Arrive receiver raw) = codes ",," ++ (hex raw ++ codes ",")
arrival_fields _ = codes ",,,"

-- the bus, the slot and the word of a cell, or these fields
abbrev pub sent_or : List ℕ → Answer → List ℕ
sent_or fields (Sent bus slot word) = sent_fields bus slot word
sent_or fields _ = fields

-- the bus, the slot and the word of a cell, or the word that comes in
abbrev pub cell_fields : ScriptEvent → Answer → List ℕ
cell_fields event a = sent_or (arrival_fields event) a

-- the source that accepts a word
abbrev pub source_field : Naming → Answer → List ℕ
source_field names (Accepted source) = name_at names.sources source
source_field names _ = []

-- the receiver at which a word comes in
abbrev pub receiver_field : Naming → ScriptEvent → List ℕ
receiver_field names (Arrive receiver raw) = name_at names.receivers receiver
receiver_field names _ = []

-- the number of a plan, and why the event is refused
abbrev pub end_fields : Answer → List ℕ
end_fields (Changed n) = decimal n ++ codes ",\n"
end_fields (Published n) = decimal n ++ codes ",\n"
end_fields (Refused why) = codes "," ++ (refusal_text why ++ codes "\n")
end_fields _ = codes ",\n"

abbrev pub answer_row : Naming → ScriptEvent → Answer → List ℕ
answer_row names event a =
    event_fields names event ++ (cell_fields event a ++ (source_field names a ++ (codes "," ++ (receiver_field names event ++ (codes "," ++ end_fields a)))))

-- of a table that was to be published: what follows `refused ` in its line
abbrev pub refusal_row : CommandRefusal → List ℕ
refusal_row refusal = codes "publish,,,,,,,," ++ (drop 8 (refusal_line refusal) ++ codes "\n")

-- ---- what is printed

-- before the answers
abbrev pub heading : View → List ℕ
heading view = if view.commas then row_heading else []

abbrev pub answer_as : View → Naming → ScriptEvent → Answer → List ℕ
answer_as view names event a = if view.commas then answer_row names event a else answer_line names.sources a

-- of an answer to an event
abbrev pub told_answer : View → Naming → ScriptEvent → Answer → List ℕ
told_answer view names event a = if shows view event (is_sent a) then answer_as view names event a else []

abbrev pub refusal_as : View → CommandRefusal → List ℕ
refusal_as view refusal = if view.commas then refusal_row refusal else refusal_line refusal ++ 10 ∷ []

-- of the refusal of a table that was to be published
abbrev pub told_refusal : View → CommandRefusal → List ℕ
told_refusal view refusal = if shows view (Publish 1) false then refusal_as view refusal else []
