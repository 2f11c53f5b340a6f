-- What the lines of a slot's cells have in common (profile: docs/FORMATS.md, Output of `simulate`).
use Rattle.std.specs.Prelude.{◌≡◌, ◌+◌, ◌<◌, ◌≤◌, ◌++◌, ◌∷◌, [], ℕ, List, Result, OnErr, codes, drop, length}
use Rattle.std.specs.Fmt.{decimal}
use Rattle.a429_word.specs.Hexadecimal.{hex}
use Rattle.a429_word.specs.Written.{Gains}
use Rattle.a429_slots.specs.Times.{slots_us}
use Rattle.a429_slots.specs.Proposed.{Proposed}
use Rattle.a429_console.specs.Names.{name_at, naming_of}
use Rattle.a429_recordings.specs.Simulating.{line_of, sent_end, separator}
use Rattle.a429_recordings.specs.SimulationReplies.{heading}
use Rattle.a429_recordings.specs.Timeline.{rate_of}
use Rattle.a429_recordings.specs.declared.simulate.lines.LineStyle.{LineStyle}
use Rattle.a429_recordings.specs.declared.simulate.lines.LineStyle.TheVariants as style
use Rattle.a429_recordings.specs.declared.simulate.lines.PendingLines.{PendingLines}
use Rattle.a429_recordings.specs.declared.simulate.lines.SlotBegin.{SlotBegin}
use Rattle.a429_recordings.specs.declared.simulate.machine.Happening.{Happening}

-- what separates the bus from the group
abbrev pub bus_separator : LineStyle → List ℕ
bus_separator style.Log = codes "."
bus_separator style = separator style

-- what they begin with: the slot's beginning, and the group
abbrev pub begin_of : Proposed → LineStyle → ℕ → ℕ → List ℕ
begin_of q style g t = decimal (slots_us (rate_of q g) t) ++ separator style ++ name_at (naming_of q.station).groups g ++ bus_separator style

-- the source of a word and its age, with what ends the line
abbrev pub origin_of : Proposed → LineStyle → ℕ → ℕ → List ℕ
origin_of q style source age = separator style ++ name_at (naming_of q.station).sources source ++ separator style ++ decimal age ++ sent_end style

-- what follows the word of one: these, but in a log only the end of the line
abbrev pub word_end : Proposed → LineStyle → ℕ → ℕ → List ℕ
word_end q style.Log source age = 10 ∷ []
word_end q style source age = origin_of q style source age

-- and the rest of one: the bus, the word, and what follows it
abbrev pub rest_of : Proposed → LineStyle → ℕ → ℕ → ℕ → ℕ → List ℕ
rest_of q style bus raw source age = decimal bus ++ separator style ++ hex raw ++ word_end q style source age

-- this is what those of this slot begin with, which is short, and when the slot ends
pub record BeginsSlot (q : Proposed) (style : LineStyle) (g t : ℕ) (b : SlotBegin) : Type 0 where
  pub group : b.group ≡ g
  pub slot : b.slot ≡ t
  pub room : length b.room ≡ 64
  pub within : b.at ≤ 64
  pub short : 24 ≤ b.at
  pub begin_is : drop b.at b.room ≡ begin_of q style g t
  pub end_is : b.end ≡ slots_us (rate_of q g) (t + 1)

-- the same of the slot that it names, if a simulation has that one
abbrev pub IsBeginOfSlot : Proposed → LineStyle → SlotBegin → Type 0
IsBeginOfSlot q style b = b.slot < 300000000000 → BeginsSlot q style b.group b.slot b

-- the heading, and no slot
pub record IsHeading (style : LineStyle) (lines : PendingLines) : Type 0 where
  pub text : lines.text.items ≡ heading style
  pub begin : (q : Proposed) → IsBeginOfSlot q style lines.begin

-- the line of what happens is appended; if an allocation fails, nothing is
pub record PushesLine {T E : Type 0} (q : Proposed) (style : LineStyle) (h : Happening) (old new : PendingLines) (result : Result T E) : Type 0 where
  pub line : Gains result old.text.items new.text.items (line_of q style h)
  pub kept : OnErr result (new.text.items ≡ old.text.items)
  pub begin : IsBeginOfSlot q style new.begin
