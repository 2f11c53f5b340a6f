use Rattle.a429_console.proofs.ReadingParts.{read_weaker}
use Rattle.std.proofs.Common.{inl, refl, subst, sym}
use Rattle.std.proofs.lemmas.Result.{IfOk-weaker}
use Rattle.a429_arguments.specs.Texts.{texts_of}
use Rattle.a429_arguments.specs.Requests.{asked_of}
use Rattle.a429_arguments.specs.Given.{form_of}
use Rattle.a429_text.specs.declared.sheets.SheetForm.{SheetForm}
use Rattle.a429_given.specs.GivenTables.{TableTexts, named_table, table_names}
use Rattle.a429_cli.specs.LineReplies.{IsLinesReply}
use Rattle.a429_replay.specs.Replaying.{IsReplay, TakesFurther}
use Rattle.a429_replay.specs.Views.{AskedView, asked_view, view_given}
use Rattle.a429_cli.proofs.commands.answer_by_lines.Goals as goal

pub returns-in-Lines-clause-read : goal.returns-in-Lines-clause-read
returns-in-Lines-clause-read g c =
    rw c.in-Lines.is
    (read_weaker c.tell_lines.ensures.told (λ file is. IfOk-weaker c.tell_lines.result _ _ (λ status told.
    let by_names : IsLinesReply file c.form.result c.args.asked.now.first.now (texts_of c.args.asked.now.more.items) status told.0 = rw c.deref.ensures.value at told.1 in
    let reply : IsLinesReply file (form_of (asked_of c.args.asked.now).given) c.args.asked.now.first.now (texts_of c.args.asked.now.more.items) status told.0 =
    subst (λ (f : SheetForm). IsLinesReply file f c.args.asked.now.first.now (texts_of c.args.asked.now.more.items) status told.0) c.form.ensures by_names in
    (told.0, inl reply, told.2))
    is))

pub returns-in-Replay-clause-read : goal.returns-in-Replay-clause-read
returns-in-Replay-clause-read g c =
    rw c.in-Replay.is
    (read_weaker c.replay.ensures.replayed (λ file is. IfOk-weaker c.replay.result _ _ (λ status told.
    let a = c.args.asked.now in
    let table = named_table (asked_of a) in
    let by_table : IsReplay file (asked_view c.of-view.result) table a.second.now (texts_of c.deref-in-Replay.result.now) status told.0 =
    subst (λ (t : TableTexts). IsReplay file (asked_view c.of-view.result) t a.second.now (texts_of c.deref-in-Replay.result.now) status told.0) c.of-table.ensures told.1 in
    let by_names : IsReplay file (asked_view c.of-view.result) table a.second.now (texts_of a.more.items) status told.0 = rw c.deref-in-Replay.ensures.value at by_table in
    let reply : IsReplay file (view_given (asked_of a).given) table a.second.now (texts_of a.more.items) status told.0 =
    subst (λ (v : AskedView). IsReplay file v table a.second.now (texts_of a.more.items) status told.0) c.of-view.ensures by_names in
    (told.0, inl reply, told.2))
    is))

pub returns-in-Simulate-clause-read : goal.returns-in-Simulate-clause-read
returns-in-Simulate-clause-read g c =
    rw c.in-Simulate.is (read_weaker c.simulate.ensures.simulated (λ file is. IfOk-weaker c.simulate.result _ _ (λ status told. (told.0, inl told.1, told.2)) is))

pub returns-in-Lines-clause-silent : goal.returns-in-Lines-clause-silent
returns-in-Lines-clause-silent g c = read_weaker c.tell_lines.ensures.told (λ file is takes. refl)

pub returns-in-Simulate-clause-silent : goal.returns-in-Simulate-clause-silent
returns-in-Simulate-clause-silent g c = rw c.in-Simulate.is (read_weaker c.simulate.ensures.silent (λ file is none. is none.0 none.1))

pub returns-in-Replay-clause-silent : goal.returns-in-Replay-clause-silent
returns-in-Replay-clause-silent g c =
    rw c.in-Replay.is
    (read_weaker c.replay.ensures.taken (λ file is takes.
    let second = c.args.asked.now.second.now in
    let by_table : TakesFurther file (table_names c.of-table.result) second (texts_of c.args.asked.now.more.items) =
    subst (λ (t : TableTexts). TakesFurther file t second (texts_of c.args.asked.now.more.items)) (sym c.of-table.ensures) takes in
    let takes_these : TakesFurther file (table_names c.of-table.result) second (texts_of c.deref-in-Replay.result.now) = rw c.deref-in-Replay.ensures.value by_table in
    is takes_these))
