-- What the answers of a history say of how far apart a group sends words of one source (profile: docs/RULES.md, Sending).
use Rattle.std.specs.Prelude.{◌≡◌, ◌+◌, ◌<◌, ◌≤◌, ℕ, Bool, false, Option, Some, None, length, take}
use Rattle.a429_slots.specs.Tables.{Placed}
use Rattle.a429_slots.specs.Events.{Cell}
use Rattle.a429_slots.specs.History.{accepted_by, answered_cells, is_held, last_of}
use Rattle.a429_slots.specs.Spacing.{EmptyCellsAreFirst, EmptyCellsFollowWords, OpeningPlanEmptiesNone, WordsAreApart}
use Rattle.a429_slots.specs.declared.answers.Answer.TheVariants.{Sent}
use Rattle.a429_slots.specs.Answers.{answer}
use Rattle.a429_core.specs.Histories.{GroupHistory, HasOpeningTable, IsCellAt, IsSpacedAt, number_of_plan}

-- at place k of the history the group is asked for a cell, which has this output, and the answer has this word, or none
pub record CellIsAnswered (C : ℕ) (E : GroupHistory) (k : ℕ) (output : Placed) (slot : ℕ) (word : Option ℕ) : Type 0 where
  pub cell : IsCellAt E k output slot
  pub answered : answer C E.opening (take k E.events) (Cell E.group) ≡ Sent cell.cell.0 slot word

-- the last accepted word of the output's source was sent there as often as the output may send one word
abbrev pub is_held_at : ℕ → GroupHistory → ℕ → Placed → Bool
is_held_at C E k output =
    is_held (answered_cells C E.opening E.group E.table (take k E.events)) output.source output.limits.hold
    (length (accepted_by C E.opening output.source (take k E.events)))

-- the last word that the output's source accepted before place k
abbrev pub last_word_at : ℕ → GroupHistory → ℕ → Placed → Option ℕ
last_word_at C E k output = last_of (accepted_by C E.opening output.source (take k E.events))

-- Before place k the group sent a word of the output's source, fewer slots before than words of the output are apart; and since its plan
-- came into force it had no cell of that source.
pub record IsFirstCell (C : ℕ) (E : GroupHistory) (k : ℕ) (output : Placed) (slot : ℕ) : Type 0 where
  pub place : ℕ
  pub before : place < k
  pub earlier : Placed
  pub at : ℕ
  pub word : ℕ
  pub sent : CellIsAnswered C E place earlier at (Some word)
  pub same : earlier.source ≡ output.source
  pub close : slot < at + output.limits.spacing
  pub first : (i : ℕ) (x : Placed) (s : ℕ) → i < k → IsCellAt E i x s → x.source ≡ output.source → ¬ (number_of_plan E i ≡ number_of_plan E k)

-- what is true of the spacing of words and of the cells that are empty for it (`a429_slots::laws`)
pub record AreSpaced : Type 0 where
  pub apart : WordsAreApart
  pub only : EmptyCellsFollowWords
  pub first : EmptyCellsAreFirst
  pub opening : OpeningPlanEmptiesNone

-- ---- laws

-- two words of one source that are answered are as far apart as the plan in force at the second asks
abbrev pub SentWordsAreApart : Type 0
SentWordsAreApart =
    (C : ℕ) (E : GroupHistory) (j k : ℕ) (earlier now : Placed) (u t w x : ℕ) → HasOpeningTable E → j < k
    → CellIsAnswered C E j earlier u (Some w) → CellIsAnswered C E k now t (Some x) → earlier.source ≡ now.source → u + now.limits.spacing ≤ t

-- a word that was accepted and is not held is missing only in the first cell of its output since the plan came into force
abbrev pub OnlyFirstCellsAreEmpty : Type 0
OnlyFirstCellsAreEmpty =
    (C : ℕ) (E : GroupHistory) (k : ℕ) (now : Placed) (t word : ℕ) → HasOpeningTable E
    → IsSpacedAt E k → CellIsAnswered C E k now t None → last_word_at C E k now ≡ Some word
    → is_held_at C E k now ≡ false → IsFirstCell C E k now t

-- by one plan each later cell of a source has its last accepted word, unless that is held
abbrev pub LaterCellsAreFull : Type 0
LaterCellsAreFull =
    (C : ℕ) (E : GroupHistory) (i k : ℕ) (x now : Placed) (s t : ℕ) → HasOpeningTable E
    → IsSpacedAt E k → i < k → IsCellAt E i x s → x.source ≡ now.source → number_of_plan E i ≡ number_of_plan E k
    → IsCellAt E k now t → is_held_at C E k now ≡ false → CellIsAnswered C E k now t (last_word_at C E k now)

-- by the opening plan every cell has the last accepted word of its source, unless that is held
abbrev pub OpeningCellsAreFull : Type 0
OpeningCellsAreFull =
    (C : ℕ) (E : GroupHistory) (k : ℕ) (now : Placed) (t : ℕ) → HasOpeningTable E
    → IsSpacedAt E k → IsCellAt E k now t → number_of_plan E k ≡ E.opening.proposal.plan.number
    → is_held_at C E k now ≡ false → CellIsAnswered C E k now t (last_word_at C E k now)
