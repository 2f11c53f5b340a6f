-- Words at a receiver that come more closely than a bus can carry them (profile: docs/FORMATS.md, Output of `simulate`).
use Rattle.std.specs.Prelude.{◌≡◌, ◌==◌, ◌+◌, ◌-◌, ◌^◌, ◌<◌, ◌≤◌, ◌++◌, ℕ, List, Some, None, if◌then◌else◌, nat_lt, filter_map, length, min, slice_get, slice_set}
use Rattle.std.specs.Option.{option_map_or}
use Rattle.a429_recordings.specs.declared.simulate.close.CloseRun.{CloseRun}
use Rattle.a429_recordings.specs.declared.simulate.log.LogWord.{LogWord}

-- when words come in at a receiver, in microseconds
abbrev pub times_at : ℕ → List LogWord → List ℕ
times_at r words = filter_map (λ w. if w.receiver == r then Some w.time else None) words

-- each time but the first is less than 36 bit times at 100 kbit/s, which are 360 microseconds, after the one before
abbrev pub AreClose : List ℕ → Type 0
AreClose times = (i t u : ℕ) → slice_get times i ≡ Some t → slice_get times (i + 1) ≡ Some u → u < t + 360

-- at no receiver, of the 16 that a table has at most, do more than 100 words in a row come so closely
abbrev pub AreSpaced : List LogWord → Type 0
AreSpaced words = (r : ℕ) (before close after : List ℕ) → r < 16 → times_at r words ≡ before ++ close ++ after → AreClose close → length close ≤ 100

-- ---- as it is kept

-- the words that follow each other closely, after one more at this time
abbrev pub run_after : CloseRun → ℕ → CloseRun
run_after run time =
    record { words = if nat_lt (time - run.last) 360 then min (run.words + 1) (2 ^ 64 - 1) else 1; last = time }

-- those of each receiver, after one more word
abbrev pub runs_after : List CloseRun → LogWord → List CloseRun
runs_after runs w = option_map_or (λ run. slice_set runs w.receiver (run_after run w.time)) (slice_get runs w.receiver) runs

-- how many of its receiver follow each other closely then
abbrev pub closest_after : List CloseRun → LogWord → ℕ
closest_after runs w = option_map_or (λ run. (run_after run w.time).words) (slice_get runs w.receiver) 0

-- these times end with close ones, which are as many as are kept or more, and the last of them is kept
pub record KeepsRun (times : List ℕ) (run : CloseRun) : Type 0 where
  pub before : List ℕ
  pub close : List ℕ
  pub all : times ≡ before ++ close
  pub are_close : AreClose close
  pub count : run.words ≤ length close
  pub last : (i t : ℕ) → i + 1 ≡ length close → slice_get close i ≡ Some t → t ≡ run.last

-- of these times, n from place i on come closely
abbrev pub AreCloseFrom : List ℕ → ℕ → ℕ → Type 0
AreCloseFrom times i n = (j t u : ℕ) → i ≤ j → j + 1 < i + n → slice_get times j ≡ Some t → slice_get times (j + 1) ≡ Some u → u < t + 360

-- no more than 100 of these times come closely, and no more at their end than are kept; the last of them is kept
pub record CountsRun (times : List ℕ) (run : CloseRun) : Type 0 where
  pub most : (i n : ℕ) → i + n ≤ length times → AreCloseFrom times i n → n ≤ 100
  pub ends : (i n : ℕ) → i + n ≡ length times → AreCloseFrom times i n → n ≤ run.words
  pub last : (i t : ℕ) → i + 1 ≡ length times → slice_get times i ≡ Some t → t ≡ run.last

-- for each receiver this is true of the times of its words and its run
abbrev pub HoldsOfRuns : (List ℕ → CloseRun → Type 0) → List LogWord → List CloseRun → Type 0
HoldsOfRuns Holds words runs = (r : ℕ) (run : CloseRun) → slice_get runs r ≡ Some run → Holds (times_at r words) run

-- the runs of the 16 receivers after these words, of which none came too closely
pub record KeepsRuns (words : List LogWord) (runs : List CloseRun) : Type 0 where
  pub many : length runs ≡ 16
  pub keeps : HoldsOfRuns KeepsRun words runs
  pub counts : HoldsOfRuns CountsRun words runs
