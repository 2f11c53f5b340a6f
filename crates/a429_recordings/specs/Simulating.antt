-- What a simulation does and prints: steps of the machine by a timeline, what happens in them, and the lines of that
-- (profile: docs/FORMATS.md, Output of `simulate`).
use Rattle.std.specs.Prelude.{◌==◌, ◌+◌, ◌-◌, ◌%◌, ◌++◌, ◌∷◌, [], ℕ, List, Option, Some, None, if◌then◌else◌, codes, filter_map, length, map, replicate, unwrap_or}
use Rattle.std.specs.Fmt.{decimal}
use Rattle.std.specs.List.{flat_map}
use Rattle.a429_word.specs.Hexadecimal.{hex}
use Rattle.a429_equipment.specs.Agreement.{last_of}
use Rattle.a429_equipment.specs.Limits.{count_bits}
use Rattle.a429_slots.specs.Times.{slots_us}
use Rattle.a429_slots.specs.Events.{Event, Arrive, Cell, Frame}
use Rattle.a429_slots.specs.History.{Opening}
use Rattle.a429_slots.specs.Proposed.{Proposed}
use Rattle.a429_slots.specs.Tables.{buses_of, frame_of, source_at}
use Rattle.a429_slots.specs.Answers.{answer}
use Rattle.a429_slots.specs.declared.answers.Answer.{Answer}
use Rattle.a429_slots.specs.declared.answers.Answer.TheVariants.{Accepted, Sent, Refused}
use Rattle.a429_console.specs.Names.{name_at, naming_of}
use Rattle.a429_replay.specs.AnswerLines.{refusal_text}
use Rattle.a429_recordings.specs.Timeline.{rate_of, table_of}
use Rattle.a429_recordings.specs.declared.simulate.lines.LineStyle.{LineStyle}
use Rattle.a429_recordings.specs.declared.simulate.lines.LineStyle.TheVariants as style
use Rattle.a429_recordings.specs.declared.simulate.log.LogWord.{LogWord}
use Rattle.a429_recordings.specs.declared.simulate.machine.Happening.{Happening}
use Rattle.a429_recordings.specs.declared.simulate.machine.Happening.TheVariants.{Refuses, Sends}
use Rattle.a429_recordings.specs.declared.simulate.machine.Heard.{Heard}
use Rattle.a429_recordings.specs.declared.simulate.machine.SentWord.{SentWord}
use Rattle.a429_recordings.specs.declared.simulate.moments.Moment.{Moment}
use Rattle.a429_recordings.specs.declared.simulate.moments.Moment.TheVariants.{Word, Slot}

-- ---- steps

pub data Step : Type 0 where
  -- this word comes in
  Comes : LogWord → Step
  -- this group is asked for its next cell, in this slot
  Asks : ℕ → ℕ → Step
  -- this group is asked to go on to its next frame
  Turns : ℕ → Step

abbrev pub event_of : Step → Event
event_of (Comes w) = Arrive w.receiver w.raw
event_of (Asks g t) = Cell g
event_of (Turns g) = Frame g

-- after the last slot of a frame its group goes on to the next
abbrev pub turn_after : Proposed → ℕ → ℕ → List Step
turn_after q g t = if (t + 1) % frame_of (table_of q g) == 0 then Turns g ∷ [] else []

-- in a slot a group is asked for a cell of each of its buses
abbrev pub cells_in : Proposed → ℕ → ℕ → List Step
cells_in q g t = replicate (buses_of (table_of q g)) (Asks g t)

-- a word comes in; a slot has its cells, and after the last one of a frame its group goes on
unfoldable pub steps_in : Proposed → Moment → List Step
steps_in q (Word w) = Comes w ∷ []
steps_in q (Slot g t) = cells_in q g t ++ turn_after q g t

-- the steps of a timeline
abbrev pub steps_of : Proposed → List Moment → List Step
steps_of q moments = flat_map (steps_in q) moments

-- ---- answers

-- a station of this plan, from slot 0
abbrev pub opening_of : Proposed → Opening
opening_of q = record { proposal = q; first = 0 }

-- what has happened to it after steps
abbrev pub history_of : List Step → List Event
history_of steps = map event_of steps

-- what it answers to a step that comes after these
abbrev pub answer_after : Proposed → List Step → Step → Answer
answer_after q past step = answer count_bits (opening_of q) (history_of past) (event_of step)

-- a word that is accepted: its source, and its time
abbrev pub accepted_in : Step → Answer → List (ℕ × ℕ)
accepted_in (Comes w) (Accepted source) = (source, w.time) ∷ []
accepted_in _ _ = []

-- the accepted words of steps that come after these
abbrev pub accepted_from : Proposed → List Step → List Step → List (ℕ × ℕ)
accepted_from q past [] = []
accepted_from q past (step ∷ steps) = accepted_in step (answer_after q past step) ++ accepted_from q (past ++ step ∷ []) steps

-- the time, if the word is of this source
abbrev pub time_for : ℕ → ℕ × ℕ → Option ℕ
time_for source w = if w.0 == source then Some w.1 else None

-- the times of the accepted words of a source in steps
unfoldable pub times_of : Proposed → List Step → ℕ → List ℕ
times_of q past source = filter_map (time_for source) (accepted_from q [] past)

-- the last of the words of a source that came in at these times: its number among them, and its time; 0 before the first one, when no word of the
-- source is sent
abbrev pub last_word : List ℕ → Heard
last_word times = record { word = length times; time = unwrap_or (last_of times) 0 }

-- ---- what happens

-- the source of the output in a cell of a group
abbrev pub source_in : Proposed → ℕ → ℕ → ℕ → ℕ
source_in q g bus slot = unwrap_or (source_at (table_of q g) bus slot) 0

-- a word of a source that a group sends on a bus in slot t, with the number and the time of the last accepted word of that source. An equal word that
-- is accepted again is another word.
abbrev pub word_sent : ℕ → ℕ → ℕ → ℕ → ℕ → Heard → SentWord
word_sent g t bus raw source heard = record {
  group = g;
  bus = bus;
  raw = raw;
  source = source;
  send = record { slot = t; word = heard.word; time = heard.time };
}

-- what happens in a step by its answer; `times` gives those of the accepted words: a word is refused, or a cell has a word
abbrev pub happening_by : Proposed → (ℕ → List ℕ) → Step → Answer → Option Happening
happening_by q times (Comes w) (Refused why) = Some (Refuses w why)
happening_by q times (Asks g t) (Sent bus slot (Some raw)) =
    Some (Sends (word_sent g t bus raw (source_in q g bus slot) (last_word (times (source_in q g bus slot)))))
happening_by q times _ _ = None

abbrev pub happening_after : Proposed → List Step → Step → Option Happening
happening_after q past step = happening_by q (times_of q past) step (answer_after q past step)

abbrev pub listed : {X : Type 0} → Option X → List X
listed None = []
listed (Some x) = x ∷ []

-- what happens in steps that come after these
abbrev pub happenings_after : Proposed → List Step → List Step → List Happening
happenings_after q past [] = []
happenings_after q past (step ∷ steps) = listed (happening_after q past step) ++ happenings_after q (past ++ step ∷ []) steps

-- what happens in steps from the begin of a simulation
abbrev pub happenings_of : Proposed → List Step → List Happening
happenings_of q steps = happenings_after q [] steps

-- ---- lines

-- what separates the fields of a line
abbrev pub separator : LineStyle → List ℕ
separator style.Commas = codes ","
separator _ = codes " "

-- what ends the line of a word that is sent: with commas the two fields of words that are not taken are empty
abbrev pub sent_end : LineStyle → List ℕ
sent_end style.Commas = codes ",," ++ 10 ∷ []
sent_end _ = 10 ∷ []

-- as a line of a log: the slot's beginning, the bus as GROUP.BUS, and the word
abbrev pub log_line : Proposed → SentWord → List ℕ
log_line q s =
    decimal (slots_us (rate_of q s.group) s.send.slot) ++ codes " " ++ name_at (naming_of q.station).groups s.group ++ codes "." ++ decimal s.bus ++ codes " "
    ++ hex s.raw ++ 10 ∷ []

-- the slot's beginning, the group, the bus, the word, its source, and its age at the slot's end; or as a line of a log
abbrev pub sent_line : Proposed → LineStyle → SentWord → List ℕ
sent_line q style.Log s = log_line q s
sent_line q style s =
    decimal (slots_us (rate_of q s.group) s.send.slot) ++ separator style ++ name_at (naming_of q.station).groups s.group ++ separator style ++ decimal s.bus
    ++ separator style ++ hex s.raw ++ separator style ++ name_at (naming_of q.station).sources s.source ++ separator style
    ++ decimal (slots_us (rate_of q s.group) (s.send.slot + 1) - s.send.time) ++ sent_end style

-- its time, the receiver, the word, and why it is refused
abbrev pub refused_line : Proposed → LogWord → List ℕ → List ℕ
refused_line q w reason =
    decimal w.time ++ codes " " ++ name_at (naming_of q.station).receivers w.receiver ++ codes " " ++ hex w.raw ++ codes " refused " ++ reason ++ 10 ∷ []

-- the same with commas, in which the fields of a word that is sent are empty
abbrev pub refused_row : Proposed → LogWord → List ℕ → List ℕ
refused_row q w reason =
    decimal w.time ++ codes ",,," ++ hex w.raw ++ codes ",,," ++ name_at (naming_of q.station).receivers w.receiver ++ codes "," ++ reason ++ 10 ∷ []

-- the line of a word that is refused; a log of sent words has none
abbrev pub refusal_line_of : Proposed → LineStyle → LogWord → List ℕ → List ℕ
refusal_line_of q style.Spaces w reason = refused_line q w reason
refusal_line_of q style.Commas w reason = refused_row q w reason
refusal_line_of q style.Log w reason = []

-- the line of a word that is sent, and of one that is refused
abbrev pub line_of : Proposed → LineStyle → Happening → List ℕ
line_of q style (Refuses w why) = refusal_line_of q style w (refusal_text why)
line_of q style (Sends s) = sent_line q style s

-- the lines of what happens
abbrev pub text_of : Proposed → LineStyle → List Happening → List ℕ
text_of q style happenings = flat_map (line_of q style) happenings
