use Rattle.std.proofs.Common.{◌≡◌, ◌∙◌, sym}
use Rattle.std.specs.Prelude.{false, true}
use Rattle.a429_console.specs.Names.{naming_of}
use Rattle.a429_console.specs.Files.{logs_of}
use Rattle.a429_recordings.specs.JudgeReplies.{aligned_by, files_of, is_mixed, logs_of_sent}
use Rattle.a429_recordings.specs.LogViews.{view_of}
use Rattle.a429_recordings.proofs.JudgedFiles.{later_noted, recorded, same_heard, same_sent, unheard}
use Rattle.a429_recordings.proofs.judge.boxes.read_notes.Goals.{in-Ok, in-Err}
use Rattle.a429_recordings.proofs.judge.boxes.read_notes.Goals as goal

pub returns-then-is_mixed-clause-recorded : goal.returns-then-is_mixed-clause-recorded
returns-then-is_mixed-clause-recorded g c =
    let q = c.args.proposal.now in
    let i = aligned_by c.args.found (files_of c.args.input) in
    let reading = c.args.reading in
    let mixed : is_mixed i ≡ true = sym c.is_mixed-is_mixed.ensures ∙ c.if-is_mixed.true in
    elim c.match-note_heard.branch [
      | in-Ok w ↦
          let first = rw (c.requires, c.heard_part-part.ensures.view, c.heard_part-part.ensures.part, c.heard_part-part.ensures.reading, c.deref.ensures.value) at w.in-Ok.ensures.noted in
          let all =
          later_noted c.equipment-equipment.result.now q.station c.args.names.now (naming_of q.station) (view_of c.sent_view-view.result) i.terms.sent_view c.is_mixed-is_mixed.result (is_mixed i)
          w.in-Ok.noted (logs_of c.args.input.heard.items) (logs_of_sent i) w.note_later.result
          c.equipment-equipment.ensures.equipment c.requires c.sent_view-view.ensures c.is_mixed-is_mixed.ensures (same_heard i mixed) w.note_later.ensures.noted in
          rw w.result-is (recorded q i reading w.in-Ok.noted w.note_later.result first all)
      | in-Err w ↦
          let fault = rw (c.requires, c.heard_part-part.ensures.view, c.heard_part-part.ensures.part, c.heard_part-part.ensures.reading, c.deref.ensures.value) at w.in-Err.ensures.noted in
          rw w.result-is (unheard q i reading w.in-Err.refusal fault)
    ]

pub returns-in-Ok-note_heard-clause-recorded : goal.returns-in-Ok-note_heard-clause-recorded
returns-in-Ok-note_heard-clause-recorded g c =
    let q = c.args.proposal.now in
    let i = aligned_by c.args.found (files_of c.args.input) in
    let apart : is_mixed i ≡ false = sym c.is_mixed-is_mixed.ensures ∙ c.if-is_mixed.false in
    let heard = c.in-Ok-note_heard.noted in
    let result = c.note_later-in-Ok-note_heard.result in
    let first = rw (c.requires, c.heard_part-part.ensures.view, c.heard_part-part.ensures.part, c.heard_part-part.ensures.reading) at c.in-Ok-note_heard.ensures.noted in
    let all =
    later_noted c.equipment-equipment.result.now q.station c.args.names.now (naming_of q.station) (view_of c.sent_view-view.result) i.terms.sent_view c.is_mixed-is_mixed.result (is_mixed i)
    heard (logs_of c.args.input.sent.items) (logs_of_sent i) result
    c.equipment-equipment.ensures.equipment c.requires c.sent_view-view.ensures c.is_mixed-is_mixed.ensures (same_sent i apart) c.note_later-in-Ok-note_heard.ensures.noted in
    recorded q i c.args.reading heard result first all
