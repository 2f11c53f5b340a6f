use Rattle.std.proofs.Common.{◌≡◌, ◌∙◌, ap, sym}
use Rattle.a429_console.specs.Files.{logs_of}
use Rattle.a429_judge.specs.Recordings.{JudgedLogs}
use Rattle.a429_recordings.specs.LogViews.{view_of}
use Rattle.a429_recordings.proofs.NotedBoxes.{logs_noted}
use Rattle.a429_recordings.proofs.judge.noting.note_logs.Goals.{in-Kept, in-Freed}
use Rattle.a429_recordings.proofs.judge.noting.note_logs.Goals as goal

pub returns-in-Ok-clause-noted : goal.returns-in-Ok-clause-noted
returns-in-Ok-clause-noted g c =
    let logs = c.args.logs in
    elim c.match-texts.branch [
      | in-Kept w ↦
          let kept = w.keep_logs-read.new.keeper in
          let is = sym w.read-is ∙ c.in-Ok.is in
          let read = rw is at w.keep_logs-read.ensures.kept in
          let same = w.keep_logs-read.ensures.fixed ∙ ap (λ (j : JudgedLogs). (c.args.equipment.now, logs.part.log, j)) c.of-before.ensures in
          rw (w.kept-is, w.in-Kept.is)
          (logs_noted c.args.equipment.now c.args.names.now (view_of logs.view) logs.part logs.reading c.in-Ok.next (logs_of w.in-Kept.texts.now) c.args.judge kept same read.0 read.1)
      | in-Freed w ↦
          let kept = w.keep_logs_and_free-read.new.keeper in
          let is = sym w.read-is ∙ c.in-Ok.is in
          let read = rw is at w.keep_logs_and_free-read.ensures.kept in
          let same = w.keep_logs_and_free-read.ensures.fixed ∙ ap (λ (j : JudgedLogs). (c.args.equipment.now, logs.part.log, j)) c.of-before.ensures in
          rw (w.kept-is, w.in-Freed.is)
          (logs_noted c.args.equipment.now c.args.names.now (view_of logs.view) logs.part logs.reading c.in-Ok.next (logs_of w.in-Freed.texts.items) c.args.judge kept same read.0 read.1)
    ]
