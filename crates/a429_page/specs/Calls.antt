-- What a call of the page answers.
use Rattle.std.specs.Prelude.{◌≡◌, ◌≢◌, ◌≤◌, [], ◌⊎◌, ℕ, List, Option, Some, None, true, false, length}
use Rattle.a429_console.specs.Outputs.{OrNoMemory}
use Rattle.a429_console.specs.UsageReplies.{IsHelpReply}
use Rattle.a429_arguments.specs.RequestRows.{AsksFor}
use Rattle.a429_arguments.specs.Requests.{AskedBytes}
use Rattle.a429_arguments.specs.Usage.{AreHelp, AreMistakes, is_run, kinds_of_words, trouble_of}
use Rattle.a429_cli.specs.Replies.{IsReplyOrMemory, IsSilent}
use Rattle.a429_page.specs.Parts.{are_texts, file_in, files_in, names_in, parts_of, words_in}
use Rattle.a429_page.specs.Rooms.{do_fit, room_with}
use Rattle.a429_page.specs.declared.command.Answer.{Answer}

-- a usage error: nothing is on standard output, and the status is 2
abbrev pub IsMistake : ℕ → List ℕ → Type 0
IsMistake status out = (out ≡ []) × (status ≡ 2)

-- the status, and what was written to standard output and to standard error, answer these arguments over these files
pub record IsAnswered (words : List (List ℕ)) (file : List ℕ → Option (List ℕ)) (status : ℕ) (out err : List ℕ) : Type 0 where
  -- if the arguments ask for something, standard output has the reply to that, and the status is that of the reply
  pub replied : (r : AskedBytes) → is_run r.verb ≡ false → AsksFor words r → IsReplyOrMemory file r status out
  -- then the status is at most 1, or at most 2 of a command whose status 1 says that it found something
  pub asked : (r : AskedBytes) → is_run r.verb ≡ false → AsksFor words r → status ≤ trouble_of r.verb
  -- with status 0 nothing is on standard error, if there is nothing to warn of
  pub quiet : (r : AskedBytes) → is_run r.verb ≡ false → AsksFor words r → IsSilent file r → status ≡ 0 → err ≡ []
  -- the status is 0, 1 or 2
  pub few : status ≤ 2
  -- a call for help gets a text, with status 0, unless an allocation fails
  pub helped : AreHelp (kinds_of_words words) → OrNoMemory IsHelpReply status out
  -- after a usage error nothing is on standard output, with status 2, unless an allocation fails
  pub mistaken : AreMistakes (kinds_of_words words) → OrNoMemory IsMistake status out

-- the bytes of these sizes state a command with this number of arguments, and it is answered so
abbrev pub IsAnswerTo : ℕ → List ℕ → List ℕ → ℕ → List ℕ → List ℕ → Type 0
IsAnswerTo words sizes bytes status out err = (parts : List (List ℕ)) × (parts_of sizes bytes ≡ Some parts)
    × IsAnswered (words_in words parts) (file_in (names_in words parts) (files_in words parts)) status out err

-- they state none: they are too few, or an argument is no text
abbrev pub IsUnstated : ℕ → List ℕ → List ℕ → Type 0
IsUnstated words sizes bytes = (parts_of sizes bytes ≡ None)
    ⊎ ((parts : List (List ℕ)) × (parts_of sizes bytes ≡ Some parts) × (are_texts (words_in words parts) ≡ false))

-- the answer is said to be of these lengths
abbrev pub HasLengths : Answer → List ℕ → List ℕ → Type 0
HasLengths answer out err = (answer.out ≡ length out) × (answer.err ≡ length err)

-- the command is answered, and the room has its answer at its begin
abbrev pub IsGiven : ℕ → List ℕ → List ℕ → List ℕ → List ℕ → Answer → Type 0
IsGiven words sizes bytes old new answer = (out : List ℕ) × (err : List ℕ) × IsAnswerTo words sizes bytes answer.status out err × HasLengths answer out err
    × (do_fit out err old ≡ true) × (new ≡ room_with out err old)

-- the command is answered, and the answer does not fit into the room
abbrev pub IsTooMuch : ℕ → List ℕ → List ℕ → List ℕ → Answer → Type 0
IsTooMuch words sizes bytes old answer = (out : List ℕ) × (err : List ℕ) × IsAnswerTo words sizes bytes answer.status out err × HasLengths answer out err
    × (do_fit out err old ≡ false)
