-- The list of published plans, and who has seen how much of it (vocabulary of contracts).
use Rattle.std.specs.Prelude.{◌≡◌, ℕ, ◌+◌, ◌<◌, ◌≤◌, ◌==◌, ⊤, List, [], ◌∷◌, ◌++◌, length, true, false, All, MatchBool}
use Rattle.logbook.specs.Pages.{Book, Cell, Named, Nib, Step, View, cell, nib, may_make, may_write}
use Rattle.a429_slots.specs.Tables.{PlanTable}

abbrev pub EndsWith : List PlanTable → PlanTable → Type 0
EndsWith list p = (front : List PlanTable) × (list ≡ front ++ p ∷ [])

-- a beginning of the list of a board, and its last plan
pub record Known : Type 0 where
  pub book : Book
  pub log : List PlanTable
  pub last : PlanTable

-- a watcher: its board, its list, and the plan that the board was opened with
pub record Watched : Type 0 where
  pub book : Book
  pub list : List PlanTable
  pub opened : PlanTable

-- a planner: its board, its list, and the last plan of it
pub record Planning : Type 0 where
  pub book : Book
  pub list : List PlanTable
  pub last : PlanTable

-- a watcher that begins with a planner's list, whose last plan is the one that its board was opened with
abbrev pub beginner : Planning → Watched
beginner p = record { book = p.book; list = p.list; opened = p.last }

-- this number of watchers, each equal to this one
abbrev pub AreAlike : List Watched → ℕ → Watched → Type 0
AreAlike watchers count one = (length watchers ≡ count) × All (λ w. w ≡ one) watchers

-- the plan under another number
abbrev pub numbered : PlanTable → ℕ → PlanTable
numbered p n = record p { number = n }

-- ---- the book that a board is kept in

-- Its head entry counts the others. Each plan after the first marks the next entry as home. So only the owner of the pen of the next entry
-- can add a plan.
pub record IsKept (cells : List Cell) (log : List PlanTable) : Type 0 where
  pub others : ℕ
  pub first : cell cells 0 ≡ (others, true)
  pub many : length cells ≡ others + 1
  pub home : (k : ℕ) → 0 < k → k < length log → (cell cells k).1 ≡ true
  pub away : (k : ℕ) → 0 < k → length log ≤ k → (cell cells k).1 ≡ false

abbrev pub head_of : Book → Named
head_of b = record { tracked = true; key = 0; book = b }

-- the pen that adds the next plan to a list of this length
abbrev pub next_nib : ℕ → Nib
next_nib n = nib may_write n 0

-- the word found was the one asked for: the pen is that of one word more
abbrev pub reserves : Step PlanTable → View PlanTable ℕ → ℕ → View PlanTable ℕ → Type 0
reserves s v found w = MatchBool (found == s.old) (w.1.0 ≡ nib may_make (s.old + 1) 0) ⊤

-- the list is no longer than the pen's key
abbrev pub looks : Step PlanTable → View PlanTable ℕ → ℕ → View PlanTable ℕ → Type 0
looks s v found w = (length w.0 ≤ v.1.0.key) × (w.1.0 ≡ v.1.0)

-- the plan comes after all that was seen
abbrev pub adds : Step PlanTable → View PlanTable ℕ → ℕ → View PlanTable ℕ → Type 0
adds s v found w = w.0 ≡ v.0 ++ s.ask ∷ []
