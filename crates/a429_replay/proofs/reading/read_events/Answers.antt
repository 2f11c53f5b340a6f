use Rattle.std.proofs.Common.{rules, ◌≡◌, ◌∙◌, ◌<◌, List, length, subst, refl, sym}
use Rattle.std.proofs.lemmas.List.{length-map}
use Rattle.a429_console.specs.Lines.{entries_after, entries_before, entries_of}
use Rattle.a429_console.proofs.EntryLines.{entries_before-nil, entries_next, entries_step}
use Rattle.a429_replay.specs.Kept.{event_of, events_of}
use Rattle.a429_replay.specs.Script.{line_event, script_events}
use Rattle.a429_replay.specs.declared.script.ScriptEvent.{ScriptEvent}
use Rattle.a429_replay.proofs.KeptEvents.{events_of-push, tables-push}
use Rattle.a429_replay.proofs.reading.read_events.Goals as goal

pub loop-left-init : goal.loop-left-init
unfolding entries_of
loop-left-init c = record {
  read = rw c.in-Ok.ensures.items (sym (entries_before-nil _));
  tables = rw c.in-Ok.ensures.items tt;
}

pub returns-in-Err-clause-read : goal.returns-in-Err-clause-read
returns-in-Err-clause-read c = λ n is.
    let states = line_event c.args.form.now.names.now c.args.form.now.further in
    let old = c.loop-left.kept.items in
    let some : 0 < length c.loop-left.left.now = search rules in
    let (line, none) = c.in-Err.ensures.fault n is in
    let step = entries_step states (length (events_of old)) c.loop-left.left.now some in
    let many : length (events_of old) ≡ length old = length-map old event_of in
    rw (line, c.loop-left.invariant.read, step, none, many) refl

pub loop-left-preserved : goal.loop-left-preserved
loop-left-preserved c =
    let names = c.args.form.now.names.now in
    let further = c.args.form.now.further in
    let states = line_event names further in
    let old = c.loop-left.kept.items in
    let entry = c.in-Ok-keep_first.ensures.entry in
    let rest = c.in-Ok-keep_first.rest.now in
    let grown = events_of-push old _ entry.last.kept entry.event entry.last.pushed entry.last.is in
    record {
      read = subst (λ (es : List ScriptEvent). script_events names further c.args.script.now ≡ entries_before es (entries_after states (length es) rest)) (sym grown)
          (c.loop-left.invariant.read ∙ entries_next states (events_of old) entry.event c.loop-left.left.now rest entry.states);
      tables = tables-push further old _ entry.last.kept entry.event entry.last.pushed entry.last.is c.loop-left.invariant.tables entry.table;
    }
