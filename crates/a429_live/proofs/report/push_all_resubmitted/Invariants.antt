use Rattle.std.proofs.Common.{◌≡◌}
use Rattle.a429_console.specs.Files.{bytes_of}
use Rattle.a429_station.specs.Resubmitting.{Running}
use Rattle.a429_live.specs.Resubmitted.{AreAnswers}
use Rattle.a429_live.proofs.Resubmits.{AreTold}
use Rattle.a429_live.proofs.report.push_all_resubmitted.Given as goal

abbrev pub invariant-loop-place : goal.invariant-loop-place
invariant-loop-place l =
    (begin end : Running) → begin.planner.last.number ≡ 0 → AreAnswers begin (bytes_of l.further) l.answers end → AreTold begin end l.further l.answers l.place l.initial.text.items l.text.items
