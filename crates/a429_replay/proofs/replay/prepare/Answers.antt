use Rattle.std.proofs.Common.{◌≡◌, ◌∙◌, ℕ, List, subst, ap, inl, inr}
use Rattle.std.specs.Prelude.{Err, Some}
use Rattle.std.proofs.lemmas.Result.{err_from_is_err_and}
use Rattle.a429_console.specs.RefusalText.{OrMemory}
use Rattle.a429_console.specs.Names.{Naming, naming_of}
use Rattle.a429_replay.specs.Kept.{AreEvents, TakesAllTables, events_of}
use Rattle.a429_replay.specs.Script.{IsScriptFault}
use Rattle.a429_replay.specs.Replaying.{IsNoStart, IsStart}
use Rattle.a429_replay.specs.Opened.{input_of}
use Rattle.a429_replay.specs.Views.{IsNoGroup, asked_view, view_of}
use Rattle.a429_console.proofs.Refused.{failed, or_memory_weaker}
use Rattle.a429_replay.proofs.replay.prepare.Goals as goal

pub returns-in_err-view : goal.returns-in_err-view
returns-in_err-view c =
    let i = input_of c.args.input.now in
    let asked = asked_view c.args.asked.now in
    let e = c.in_err-view.field-0.0 in
    let p = err_from_is_err_and c.from_residual-in_err-view.result c.from_residual-in_err-view.ensures.1 in
    let opened = c.in_ok-station.ensures in
    let proposed = opened.1 in
    let bad = subst (λ (n : Naming). OrMemory (IsNoGroup n asked) e) opened.2.0 c.in_err-view.ensures in
    failed c.from_residual-in_err-view.result _ (OrMemory (IsNoStart i asked)) e (p.1 ∙ ap Err p.2)
    (or_memory_weaker (IsNoGroup (naming_of opened.0.station) asked) (IsNoStart i asked) e (λ none. inr (opened.0, proposed, inl none)) bad)

pub returns-in_err-events : goal.returns-in_err-events
returns-in_err-events c =
    let i = input_of c.args.input.now in
    let asked = asked_view c.args.asked.now in
    let e = c.in_err-events.field-0.0 in
    let p = err_from_is_err_and c.from_residual-in_err-events.result c.from_residual-in_err-events.ensures.1 in
    let opened = c.in_ok-station.ensures in
    let names = naming_of opened.0.station in
    let v = c.in_ok-view.view in
    let viewed = subst (λ (n : Naming). view_of n asked ≡ Some v) opened.2.0 c.in_ok-view.ensures in
    let proposed = opened.1 in
    let many = c.len.ensures ∙ c.args.input.now.further.ok.0 in
    let of_names = subst (λ (n : Naming). OrMemory (IsScriptFault n c.len.result c.deref.result.now) e) opened.2.0 c.in_err-events.ensures.read in
    let of_text = subst (λ (t : List ℕ). OrMemory (IsScriptFault names c.len.result t) e) c.deref.ensures.value of_names in
    let bad = subst (λ (n : ℕ). OrMemory (IsScriptFault names n i.script) e) many of_text in
    failed c.from_residual-in_err-events.result _ (OrMemory (IsNoStart i asked)) e (p.1 ∙ ap Err p.2)
    (or_memory_weaker (IsScriptFault names _ i.script) (IsNoStart i asked) e (λ fault. inr (opened.0, proposed, inr (v, viewed, fault))) bad)

pub returns : goal.returns
returns c =
    let i = input_of c.args.input.now in
    let asked = asked_view c.args.asked.now in
    let kept = c.in_ok-events.events.items in
    let opened = c.in_ok-station.ensures in
    let names = naming_of opened.0.station in
    let v = c.in_ok-view.view in
    let viewed = subst (λ (n : Naming). view_of n asked ≡ Some v) opened.2.0 c.in_ok-view.ensures in
    let proposed = opened.1 in
    let many = c.len.ensures ∙ c.args.input.now.further.ok.0 in
    let of_names = subst (λ (n : Naming). AreEvents n c.len.result c.deref.result.now kept) opened.2.0 c.in_ok-events.ensures.read in
    let of_text = subst (λ (t : List ℕ). AreEvents names c.len.result t kept) c.deref.ensures.value of_names in
    let script = subst (λ (n : ℕ). AreEvents names n i.script kept) many of_text in
    let tables = subst (λ (n : ℕ). TakesAllTables n kept) many c.in_ok-events.ensures.tables in
    let start : IsStart i opened.0 (events_of kept) = record { proposed = proposed; events_are = script } in
    (opened.0, record { view = viewed; start = start; opened = opened.2; lines = c.in_ok-lines.ensures }, tables)
