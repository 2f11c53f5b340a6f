use Rattle.std.proofs.Common.{◌≡◌, [], ◌++◌, List, drop}
use Rattle.a429_station.specs.Resubmitting.{GoesOn, Running}
use Rattle.a429_console.specs.Files.{bytes_of}
use Rattle.a429_live.specs.declared.control.SubmitAnswer.{SubmitAnswer}
use Rattle.a429_live.specs.Resubmitted.{AreAnswers}
use Rattle.a429_live.proofs.control.ResubmitsControl.run.Given as goal

-- whatever the tables that are left are answered completes the answers
abbrev pub invariant-loop-table : goal.invariant-loop-table
invariant-loop-table g l =
    GoesOn l.initial.station l.station × (l.self.tables ≡ l.initial.self.tables)
    × (l.initial.self.answers.items ≡ [] → (rest : List SubmitAnswer) (w : Running) → AreAnswers l.station (bytes_of (drop l.table-index l.table-items)) rest w
    → AreAnswers l.initial.station (bytes_of l.table-items) (l.self.answers.items ++ rest) w)
