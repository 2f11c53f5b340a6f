-- What is kept of a label and an SDI: only of those that came (vocabulary of contracts).
use Rattle.std.specs.Prelude.{◌≡◌, ℕ, ◌+◌, ◌<◌, ◌≤◌, ◌==◌, List, [], ◌∷◌, if◌then◌else◌, length, slice_index_or}
use Rattle.a429_survey.specs.declared.lines.Pair.{Pair}
use Rattle.a429_survey.specs.declared.lines.RowFigures.{RowFigures}
use Rattle.a429_survey.specs.Kept.{no_row_figures}

-- the figures at a place: those of no word, if no pair has it
abbrev pub figures_at : List Pair → ℕ → RowFigures
figures_at [] place = no_row_figures
figures_at (p ∷ ps) place = if p.place == place then p.figures else figures_at ps place

-- the places ascend from this one on, and are below 1024
abbrev pub AreFrom : ℕ → List Pair → Type 0
AreFrom from [] = from ≤ 1024
AreFrom from (p ∷ ps) = (from ≤ p.place) × AreFrom (p.place + 1) ps

-- the pair at this index has the place
pub record IsPlaceOf (ps : List Pair) (place index : ℕ) : Type 0 where
  pub within : index < length ps
  pub is : (d : Pair) → (slice_index_or ps index d).place ≡ place

-- no pair has the place; one that is added has this index
pub record IsGap (ps : List Pair) (place index : ℕ) : Type 0 where
  pub within : index ≤ length ps
  pub before : (i : ℕ) (d : Pair) → i < index → (slice_index_or ps i d).place < place
  pub after : (i : ℕ) (d : Pair) → index ≤ i → i < length ps → place < (slice_index_or ps i d).place
