-- The lines that the program writes, each without its line feed (profile: output).
use Rattle.std.specs.Prelude.{◌++◌, ◌∷◌, [], ℕ, List, Option, Some, None, codes}
use Rattle.std.specs.Fmt.{decimal}
use Rattle.a429_word.specs.Hexadecimal.{hex}
use Rattle.a429_slots.specs.declared.answers.Answer.{Answer}
use Rattle.a429_slots.specs.declared.answers.Answer.TheVariants.{Accepted, Sent, Changed, Published, Refused}
use Rattle.a429_slots.specs.declared.answers.Refusal.{Refusal}
use Rattle.a429_slots.specs.declared.answers.Refusal.TheVariants as why
use Rattle.a429_console.specs.Names.{name_at}

abbrev pub refusal_text : Refusal → List ℕ
refusal_text why.NoSuch = codes "no-such"
refusal_text why.Parity = codes "parity"
refusal_text why.Filtered = codes "filtered"
refusal_text why.NoSource = codes "no-source"
refusal_text why.CountSpent = codes "count-spent"
refusal_text why.FrameEnd = codes "frame-end"
refusal_text why.MidFrame = codes "mid-frame"
refusal_text why.SlotsSpent = codes "slots-spent"
refusal_text why.StationDiffers = codes "station-differs"

abbrev pub cell_text : Option ℕ → List ℕ
cell_text None = codes "none"
cell_text (Some raw) = hex raw

-- by the names of the sources
abbrev pub answer_text : List (List ℕ) → Answer → List ℕ
answer_text names (Accepted source) = codes "accepted " ++ name_at names source
answer_text names (Sent bus slot word) = codes "sent " ++ decimal bus ++ codes " " ++ decimal slot ++ codes " " ++ cell_text word
answer_text names (Changed number) = codes "changed " ++ decimal number
answer_text names (Published number) = codes "published " ++ decimal number
answer_text names (Refused refusal) = codes "refused " ++ refusal_text refusal

abbrev pub answer_line : List (List ℕ) → Answer → List ℕ
answer_line names answer = answer_text names answer ++ 10 ∷ []
