-- What a command on the plan of one table answers: its verb is that of no other case of `reply_to`.
use Rattle.std.proofs.Common.{◌≡◌, ℕ, List, refl, true}
use Rattle.std.specs.Prelude.{None, Option, Result}
use Rattle.a429_arguments.specs.CommandLine.{row_of}
use Rattle.a429_arguments.specs.Usage.{is_on_plan}
use Rattle.a429_arguments.specs.Requests.{AskedBytes}
use Rattle.a429_arguments.specs.declared.forms.Verb.{Verb}
use Rattle.a429_arguments.specs.declared.forms.Verb.TheVariants as verb
use Rattle.a429_console.specs.declared.refusals.CommandRefusal.{CommandRefusal}
use Rattle.a429_documents.specs.PlanSheets.{sheet_named}
use Rattle.a429_cli.specs.Plans.{IsNoPlanReply, IsPlanReply}
use Rattle.a429_cli.specs.Replies.{IsAnswerOf, IsNoAnswer}
use Rattle.a429_console.specs.WholeReplies.{Replies}
use Rattle.a429_console.specs.declared.reply.Reply.{Reply}

-- a command on the plan of one table has a sheet of its name, or is one of these
pub unlisted : (v : Verb) → is_on_plan v ≡ true → sheet_named (row_of v).name ≡ None → ¬ (v ≡ verb.Plan) → ¬ (v ≡ verb.Icd) → ¬ (v ≡ verb.Margin) → ¬ (v ≡ verb.Load) → ¬ (v ≡ verb.Slots) → ¬ (v ≡ verb.Draw) → ⊥
unlisted verb.Plan on none p i m l s d = p refl
unlisted verb.Icd on none p i m l s d = i refl
unlisted verb.Margin on none p i m l s d = m refl
unlisted verb.Load on none p i m l s d = l refl
unlisted verb.Slots on none p i m l s d = s refl
unlisted verb.Draw on none p i m l s d = d refl
unlisted _ on none p i m l s d = cc

module _ (file : List ℕ → Option (List ℕ)) (r : AskedBytes) (result : Result Reply CommandRefusal) where
  pub on_plan : (v : Verb) → ¬ (v ≡ verb.Word) → ¬ (v ≡ verb.Encode) → ¬ (v ≡ verb.Import) → ¬ (v ≡ verb.Check) → ¬ (v ≡ verb.Lint) → ¬ (v ≡ verb.Diff) → ¬ (v ≡ verb.Survey)
      → ¬ (v ≡ verb.Judge) → ¬ (v ≡ verb.Plan) → Replies (IsPlanReply v file r) (IsNoPlanReply v file r) result → Replies (IsAnswerOf v file r) (IsNoAnswer v file r) result
  on_plan verb.Word not e i c l f s j p is = absurd (not refl)
  on_plan verb.Encode w not i c l f s j p is = absurd (not refl)
  on_plan verb.Import w e not c l f s j p is = absurd (not refl)
  on_plan verb.Check w e i not l f s j p is = absurd (not refl)
  on_plan verb.Lint w e i c not f s j p is = absurd (not refl)
  on_plan verb.Diff w e i c l not s j p is = absurd (not refl)
  on_plan verb.Survey w e i c l f not j p is = absurd (not refl)
  on_plan verb.Judge w e i c l f s not p is = absurd (not refl)
  on_plan verb.Plan w e i c l f s j not is = absurd (not refl)
  on_plan _ w e i c l f s j p is = is
