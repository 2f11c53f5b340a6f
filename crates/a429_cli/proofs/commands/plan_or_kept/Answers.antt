use Rattle.std.proofs.Common.{◌≡◌, ◌∙◌, List, ap, subst, sym, ℕ}
use Rattle.std.specs.Prelude.{None, Option, Some, option_map}
use Rattle.a429_console.proofs.ReadingParts.{read_weaker}
use Rattle.a429_arguments.specs.Given.{text_given}
use Rattle.a429_arguments.specs.Requests.{asked_of}
use Rattle.a429_arguments.specs.declared.options.OptionName.TheVariants as option
use Rattle.a429_arguments.specs.declared.forms.Verb.{Verb}
use Rattle.a429_cli.specs.Keeping.{IsKeptOf, IsNoKept, PlannedBy, UnplannedBy}
use Rattle.a429_cli.specs.Plans.{IsNoPlanReply, IsPlanReply}
use Rattle.a429_console.specs.WholeReplies.{Replies}
use Rattle.a429_text.specs.declared.sheets.SheetForm.{SheetForm}
use Rattle.a429_cli.proofs.commands.plan_or_kept.Goals as goal

pub returns-in-None-clause-replied : goal.returns-in-None-clause-replied
returns-in-None-clause-replied g c =
    let r = asked_of c.args.asked.now in
    let none : text_given r.given option.Keep ≡ None = sym c.text.ensures ∙ ap (option_map (λ t. t.now)) c.in-None.is in
    read_weaker c.plan_reply.ensures (λ file is.
    subst (λ (o : Option (List ℕ)). Replies (PlannedBy o file r) (UnplannedBy o file r) c.plan_reply.result) (sym none)
    (subst (λ (v : Verb). Replies (IsPlanReply v file r) (IsNoPlanReply v file r) c.plan_reply.result) c.requires is))

pub returns-in-Some-clause-replied : goal.returns-in-Some-clause-replied
returns-in-Some-clause-replied g c =
    let r = asked_of c.args.asked.now in
    let some : text_given r.given option.Keep ≡ Some c.in-Some.earlier.now = sym c.text.ensures ∙ ap (option_map (λ t. t.now)) c.in-Some.is in
    read_weaker c.kept_reply.ensures (λ file is.
    subst (λ (o : Option (List ℕ)). Replies (PlannedBy o file r) (UnplannedBy o file r) c.kept_reply.result) (sym some)
    (subst (λ (f : SheetForm). Replies (IsKeptOf f file r.first c.in-Some.earlier.now) (IsNoKept file r.first c.in-Some.earlier.now) c.kept_reply.result) c.form-form.ensures is))
