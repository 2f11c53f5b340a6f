use Rattle.std.proofs.Common.{◌≡◌, ◌∙◌, ap, inl, sym, subst}
use Rattle.std.specs.Prelude.{Some, option_map}
use Rattle.a429_arguments.specs.Texts.{texts_of}
use Rattle.a429_console.specs.Names.{Naming, naming_of}
use Rattle.a429_console.specs.RefusalText.{OrMemory}
use Rattle.a429_console.specs.Tables.{IsGroupRefusal}
use Rattle.a429_console.specs.declared.refusals.CommandRefusal.{CommandRefusal}
use Rattle.a429_console.proofs.Refused.{or_memory_weaker}
use Rattle.a429_recordings.specs.JudgeReplies.{IsUnjudgedOf, files_of, no_group_of}
use Rattle.a429_recordings.proofs.judge.judge_box.Goals as goal

pub returns-in-Some-clause-judged : goal.returns-in-Some-clause-judged
returns-in-Some-clause-judged g c =
    let q = c.args.proposal.now in
    let i = files_of c.args.input in
    let name = c.in-Some.group.now in
    let named : c.in_ok-names.names ≡ naming_of q.station = c.in_ok-names.ensures ∙ ap naming_of c.equipment.ensures.equipment in
    let first : no_group_of (naming_of q.station) i.terms.tolerances ≡ Some name =
    ap (λ (n : Naming). no_group_of n i.terms.tolerances) (sym named) ∙ (sym c.no_group_of.ensures ∙ ap (option_map (λ group. group.now)) c.in-Some.is) in
    let bad : OrMemory (IsGroupRefusal name) c.plain.result = subst (λ (e : CommandRefusal). OrMemory (IsGroupRefusal name) e) (sym c.plain.ensures) c.no_group.ensures in
    or_memory_weaker (IsGroupRefusal name) (IsUnjudgedOf q i) c.plain.result (λ one. inl (name, first, one)) bad

pub judge_plan-requires-clause-groups : goal.judge_plan-requires-clause-groups
judge_plan-requires-clause-groups g c =
    let q = c.args.proposal.now in
    let given = texts_of c.args.input.terms.tolerances.now in
    let named : c.in_ok-names.names ≡ naming_of q.station = c.in_ok-names.ensures ∙ ap naming_of c.equipment.ensures.equipment in
    ap (λ (n : Naming). no_group_of n given) (sym named) ∙ (sym c.no_group_of.ensures ∙ ap (option_map (λ group. group.now)) c.in-None.is)
