use Rattle.std.proofs.Common.{ℕ, List, ap, ap₂, refl, subst, subst₂, sym}
use Rattle.a429_console.proofs.ReadingParts.{read_none, read_weaker}
use Rattle.a429_arguments.specs.Requests.{asked_of}
use Rattle.a429_arguments.specs.declared.forms.Verb.TheVariants as verb
use Rattle.a429_text.specs.declared.sheets.SheetForm.{SheetForm}
use Rattle.a429_cli.specs.Checks.{AnswersCheck}
use Rattle.a429_cli.specs.WordLines.{IsNoWord, IsWordOf}
use Rattle.a429_cli.specs.Encoding.{FieldBytes, IsEncoded, IsNotEncoded}
use Rattle.a429_console.specs.WholeReplies.{Replies}
use Rattle.a429_import.specs.declared.import.ImportOptions.{ImportOptions}
use Rattle.a429_cli.specs.Importing.{ImportsSilently, IsImportReply}
use Rattle.a429_import.specs.ImportMaps.{heading_texts}
use Rattle.a429_cli.proofs.PlanReplies.{on_plan}
use Rattle.a429_cli.proofs.WholeAnswers.{given_by}
use Rattle.a429_cli.proofs.commands.reply_to.Goals as goal

pub returns-in-Word-clause-replied : goal.returns-in-Word-clause-replied
returns-in-Word-clause-replied g c =
    given_by g.F.FileReader.answers c.args.files.now c.args.files.now (asked_of c.args.asked.now) c.word_reply.result c.args.asked.now.verb verb.Word c.in-Word.is
    (read_none refl (λ file. subst (λ (f : SheetForm). Replies (IsWordOf c.args.asked.now.first.now f) (IsNoWord c.args.asked.now.first.now) c.word_reply.result) c.form-form.ensures c.word_reply.ensures))

pub returns-in-Encode-clause-replied : goal.returns-in-Encode-clause-replied
returns-in-Encode-clause-replied g c =
    given_by g.F.FileReader.answers c.args.files.now c.args.files.now (asked_of c.args.asked.now) c.encode_reply.result c.args.asked.now.verb verb.Encode c.in-Encode.is
    (read_none refl (λ file. subst₂ (λ (f : FieldBytes) (form : SheetForm). Replies (IsEncoded c.args.asked.now.first.now f form) (IsNotEncoded c.args.asked.now.first.now f) c.encode_reply.result) c.of.ensures c.form-form.ensures c.encode_reply.ensures))

pub returns-in-Import-clause-replied : goal.returns-in-Import-clause-replied
returns-in-Import-clause-replied g c =
    let asked = c.args.asked.now in
    given_by g.F.FileReader.answers c.args.files.now c.import_reply.new.files (asked_of asked) c.import_reply.result asked.verb verb.Import c.in-Import.is
    (read_weaker c.import_reply.ensures.replied
    (λ file is.
    subst₂ (λ (maps : List (List ℕ)) (options : ImportOptions). IsImportReply file maps options asked.first.now c.import_reply.result) (ap₂ heading_texts (c.texts.ensures refl) (c.texts-in-Import.ensures refl)) c.import_options.ensures is))

pub returns-in-Check-clause-replied : goal.returns-in-Check-clause-replied
returns-in-Check-clause-replied g c =
    given_by g.F.FileReader.answers c.args.files.now c.check_reply.new.files (asked_of c.args.asked.now) c.check_reply.result c.args.asked.now.verb verb.Check c.in-Check.is
    (read_weaker c.check_reply.ensures
    (λ file is. subst (λ (f : SheetForm). AnswersCheck file f c.args.asked.now.first.now c.args.asked.now.second.now c.check_reply.result) c.form-form.ensures is))

pub returns-in-Lint-clause-replied : goal.returns-in-Lint-clause-replied
returns-in-Lint-clause-replied g c =
    given_by g.F.FileReader.answers c.args.files.now c.lint_reply.new.files (asked_of c.args.asked.now) c.lint_reply.result c.args.asked.now.verb verb.Lint c.in-Lint.is c.lint_reply.ensures

pub returns-in-Diff-clause-replied : goal.returns-in-Diff-clause-replied
returns-in-Diff-clause-replied g c =
    given_by g.F.FileReader.answers c.args.files.now c.diff_reply.new.files (asked_of c.args.asked.now) c.diff_reply.result c.args.asked.now.verb verb.Diff c.in-Diff.is c.diff_reply.ensures

pub returns-in-Survey-clause-replied : goal.returns-in-Survey-clause-replied
returns-in-Survey-clause-replied g c =
    given_by g.F.FileReader.answers c.args.files.now c.survey_reply.new.files (asked_of c.args.asked.now) c.survey_reply.result c.args.asked.now.verb verb.Survey c.in-Survey.is c.survey_reply.ensures.answer

pub returns-in-Judge-clause-replied : goal.returns-in-Judge-clause-replied
returns-in-Judge-clause-replied g c =
    given_by g.F.FileReader.answers c.args.files.now c.judge_reply.new.files (asked_of c.args.asked.now) c.judge_reply.result c.args.asked.now.verb verb.Judge c.in-Judge.is c.judge_reply.ensures.answer

pub returns-in-Word-clause-silent : goal.returns-in-Word-clause-silent
returns-in-Word-clause-silent g c = read_none refl (λ file silent. refl)

pub returns-in-Encode-clause-silent : goal.returns-in-Encode-clause-silent
returns-in-Encode-clause-silent g c = read_none refl (λ file silent. refl)

pub returns-in-Import-clause-silent : goal.returns-in-Import-clause-silent
returns-in-Import-clause-silent g c =
    let asked = c.args.asked.now in
    rw c.in-Import.is
    (read_weaker c.import_reply.ensures.silent
    (λ file silent none.
    silent (subst₂ (λ (maps : List (List ℕ)) (options : ImportOptions). ImportsSilently file maps options asked.first.now) (sym (ap₂ heading_texts (c.texts.ensures refl) (c.texts-in-Import.ensures refl))) (sym c.import_options.ensures) none)))

pub returns-in-Check-clause-silent : goal.returns-in-Check-clause-silent
returns-in-Check-clause-silent g c = read_weaker c.check_reply.ensures (λ file is silent. refl)

pub returns-in-Lint-clause-silent : goal.returns-in-Lint-clause-silent
returns-in-Lint-clause-silent g c = read_weaker c.lint_reply.ensures (λ file is silent. refl)

pub returns-in-Diff-clause-silent : goal.returns-in-Diff-clause-silent
returns-in-Diff-clause-silent g c = read_weaker c.diff_reply.ensures (λ file is silent. refl)

pub returns-in-Survey-clause-silent : goal.returns-in-Survey-clause-silent
returns-in-Survey-clause-silent g c = rw c.in-Survey.is c.survey_reply.ensures.silent

pub returns-in-Judge-clause-silent : goal.returns-in-Judge-clause-silent
returns-in-Judge-clause-silent g c = rw c.in-Judge.is (read_weaker c.judge_reply.ensures.silent (λ file silent none. silent none.0 none.1))

pub returns-in-Plan-clause-replied : goal.returns-in-Plan-clause-replied
returns-in-Plan-clause-replied g c =
    given_by g.F.FileReader.answers c.args.files.now c.plan_or_kept.new.files (asked_of c.args.asked.now) c.plan_or_kept.result c.args.asked.now.verb verb.Plan c.in-Plan.is c.plan_or_kept.ensures.replied

pub returns-in-Plan-clause-silent : goal.returns-in-Plan-clause-silent
returns-in-Plan-clause-silent g c = rw c.in-Plan.is c.plan_or_kept.ensures.silent

pub returns-in_default-clause-replied : goal.returns-in_default-clause-replied
returns-in_default-clause-replied g c =
    let n = c.in_default in
    let asked = c.args.asked.now in
    read_weaker c.plan_reply.ensures
    (λ file is. on_plan file (asked_of asked) c.plan_reply.result asked.verb n.not-Word n.not-Encode n.not-Import n.not-Check n.not-Lint n.not-Diff n.not-Survey n.not-Judge n.not-Plan is)

pub returns-in_default-clause-silent : goal.returns-in_default-clause-silent
returns-in_default-clause-silent g c = read_weaker c.plan_reply.ensures (λ file is silent. refl)
