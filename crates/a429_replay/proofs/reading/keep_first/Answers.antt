use Rattle.std.proofs.Common.{rules, ◌≡◌, List, subst}
use Rattle.std.specs.Prelude.{IfErr, IfOk}
use Rattle.a429_replay.specs.Kept.{IsFaultyLine, KeepsEntry}
use Rattle.a429_replay.specs.declared.kept.KeptEvent.{KeptEvent}
use Rattle.a429_replay.proofs.KeptEvents.{entry_of_line}
use Rattle.a429_replay.proofs.reading.keep_first.Goals as goal

pub returns-in-Some-clause-entry : goal.returns-in-Some-clause-entry
returns-in-Some-clause-entry c = entry_of_line c.args.form.now.names.now c.args.form.now.further _ _ _ _ c.in-Some.ensures.line

pub returns-in-None-clause-entry : goal.returns-in-None-clause-entry
returns-in-None-clause-entry c =
    let form = c.args.form.now in
    let same : c.keep_line.new.kept.items ≡ c.args.kept.now.items = search rules in
    subst (λ (before : List KeptEvent). IfOk c.keep_entry.result (λ rest. KeepsEntry form.names.now form.further c.args.text.now before c.keep_entry.new.kept.items rest.now)) same c.keep_entry.ensures.entry

pub returns-in-None-clause-fault : goal.returns-in-None-clause-fault
returns-in-None-clause-fault c =
    let form = c.args.form.now in
    let same : c.keep_line.new.kept.items ≡ c.args.kept.now.items = search rules in
    subst (λ (before : List KeptEvent). IfErr c.keep_entry.result (IsFaultyLine form.names.now form.further c.args.text.now before)) same c.keep_entry.ensures.fault
