-- A replay that came to its end (profile: docs/FORMATS.md, Output of `replay`).
use Rattle.std.specs.Prelude.{ℕ, List, [], Option, None, false}
use Rattle.a429_slots.specs.Proposed.{Proposed}
use Rattle.a429_arguments.specs.Requests.{asked_by_names}
use Rattle.a429_arguments.specs.declared.forms.Verb.TheVariants as verb
use Rattle.a429_cli.specs.Replies.{IsReplyOrMemory}
use Rattle.a429_replay.specs.Replaying.{IsInput, IsPlayed, IsStart, ReplayInput}
use Rattle.a429_replay.specs.declared.script.ScriptEvent.{ScriptEvent}
use Rattle.a429_replay.specs.declared.views.View.{View}

-- each answer is printed, as a line
abbrev pub all_answers : View
all_answers = record { quiet = false; only = None; commas = false }

-- the files of these names are a table with a plan and a script, and the bytes are the answers to all of its events
pub record IsPlayedToTheEnd (file : List ℕ → Option (List ℕ)) (table script bytes : List ℕ) : Type 0 where
  pub input : ReplayInput
  pub proposal : Proposed
  pub events : List ScriptEvent
  pub read : IsInput file (record { table = table; plan = None }) script [] input
  pub start : IsStart input proposal events
  pub played : IsPlayed input all_answers proposal events bytes

-- the status and the bytes answer a replay of the files of these names
abbrev pub IsReplayReply : (List ℕ → Option (List ℕ)) → List ℕ → List ℕ → ℕ → List ℕ → Type 0
IsReplayReply file table script = IsReplyOrMemory file (asked_by_names verb.Replay table script [])
