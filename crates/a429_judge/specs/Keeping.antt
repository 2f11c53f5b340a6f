-- How a judge keeps the words that it notes, each with the output that it is of.
use Rattle.std.specs.Prelude.{◌≡◌, ℕ, ◌+◌, ◌<◌, ◌≤◌, ◌==◌, List, [], ◌∷◌, ◌++◌, Bool, true, false, Option, None, if◌then◌else◌, length, map, option_map, slice_get, slice_index_or}
use Rattle.std.specs.List.{find}
use Rattle.a429_judge.specs.declared.duties.Duty.{Duty}
use Rattle.a429_judge.specs.declared.duties.Heard.{Heard}
use Rattle.a429_judge.specs.declared.duties.Sent.{Sent}
use Rattle.a429_judge.specs.declared.facts.Mark.{Mark}
use Rattle.a429_judge.specs.Recordings.{IsKept, Recording, accepted_of, duty_at, fits, foreign_of, group_at, sends_of}

-- ---- the outputs of a group by their labels

-- This is the first output with this label from a place on, or the number of the outputs if there is none.
pub record IsNext (duties : List Duty) (label from place : ℕ) : Type 0 where
  pub above : from ≤ place
  pub within : place ≤ length duties
  pub skipped : (o : ℕ) → from ≤ o → o < place → ((duty_at duties o).label == label) ≡ false
  pub here : place < length duties → ((duty_at duties place).label == label) ≡ true

-- after each output comes the next one that has its label
pub record AreLinked (duties : List Duty) (next : List ℕ) : Type 0 where
  pub places : length next ≡ length duties
  pub links : (o d : ℕ) → o < length duties → IsNext duties (duty_at duties o).label (o + 1) (slice_index_or next o d)

-- the first output with each label, and the next ones
pub record IsIndexed (duties : List Duty) (first next : List ℕ) : Type 0 where
  pub labels : length first ≡ 256
  pub starts : (label d : ℕ) → label < 256 → IsNext duties label 0 (slice_index_or first label d)
  pub linked : AreLinked duties next

-- ---- the words of a group

-- a word if this is so, otherwise none
abbrev pub marks_if : Bool → Mark → List Mark
marks_if keeps mark = if keeps then mark ∷ [] else []

-- no list has a word
abbrev pub AreEmpty : List (List Mark) → Type 0
AreEmpty lists = (k : ℕ) → slice_index_or lists k [] ≡ []

-- a word is added to the words of each output that it is of
pub record AreNoted (duties : List Duty) (word : Sent) (old new : List (List Mark)) : Type 0 where
  pub lists : length new ≡ length old
  pub words : (o : ℕ) → o < length duties → slice_index_or new o [] ≡ slice_index_or old o [] ++ marks_if (fits (duty_at duties o) word) word.mark

-- The outputs of a group, the words that each of them sent, the words of the group that are of none, and the time of its first word.
pub record Grouped : Type 0 where
  pub outputs : List Duty
  pub sends : List (List Mark)
  pub foreign : List Sent
  pub first : Option ℕ

-- a group without words
abbrev pub IsUnsent : List Duty → Grouped → Type 0
IsUnsent duties b = (b.outputs ≡ duties) × (length b.sends ≡ length duties) × AreEmpty b.sends × (b.foreign ≡ []) × (b.first ≡ None)

-- these are the words of group g among all that were sent
pub record IsGroup (g : ℕ) (sent : List Sent) (b : Grouped) : Type 0 where
  pub own : (o : ℕ) → o < length b.outputs → (duty_at b.outputs o).group ≡ g
  pub lists : length b.sends ≡ length b.outputs
  pub sends : (o : ℕ) → o < length b.outputs → slice_index_or b.sends o [] ≡ sends_of (duty_at b.outputs o) sent
  pub foreign : b.foreign ≡ foreign_of b.outputs g sent
  pub first : b.first ≡ option_map (λ w. w.mark.time) (find (λ w. w.group == g) sent)

-- ---- the words of a judge

abbrev pub outputs_of : List Grouped → List (List Duty)
outputs_of groups = map (λ b. b.outputs) groups

-- groups with these outputs, without words
pub record AreUnsent (duties : List (List Duty)) (groups : List Grouped) : Type 0 where
  pub count : length groups ≡ length duties
  pub each : (g : ℕ) (d : Grouped) → g < length groups → IsUnsent (group_at duties g) (slice_index_or groups g d)

abbrev pub AreGroups : List Sent → List Grouped → Type 0
AreGroups sent groups = (g : ℕ) (d : Grouped) → g < length groups → IsGroup g sent (slice_index_or groups g d)

-- these are the accepted words of the sources with the first numbers
abbrev pub AreAccepted : List Heard → List (List Mark) → Type 0
AreAccepted heard lists = (source : ℕ) → source < length lists → slice_index_or lists source [] ≡ accepted_of source heard

-- each output's source has a number below this one
abbrev pub AreBelow : ℕ → List Duty → Type 0
AreBelow count duties = (o : ℕ) → o < length duties → (duty_at duties o).source < count

abbrev pub AreAllBelow : ℕ → List (List Duty) → Type 0
AreAllBelow count duties = (g : ℕ) → AreBelow count (group_at duties g)

-- the time of the first word that was sent
abbrev pub first_time : List Sent → Option ℕ
first_time sent = option_map (λ w. w.mark.time) (slice_get sent 0)

-- A judge keeps this recording.
pub record AreKept (groups : List Grouped) (accepted : List (List Mark)) (first : Option ℕ) (in_order : Bool) (r : Recording) : Type 0 where
  pub sent : AreGroups r.sent groups
  pub below : AreAllBelow (length accepted) (outputs_of groups)
  pub heard : AreAccepted r.heard accepted
  pub opens : first ≡ first_time r.sent
  pub ordered : in_order ≡ true → IsKept r
