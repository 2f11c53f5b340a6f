-- What answers a run of a station, by the command.
use Rattle.std.proofs.Common.{◌≡◌, ℕ, List, inl, subst, true}
use Rattle.std.specs.Prelude.{IfOk, Option, Result}
use Rattle.std.proofs.lemmas.Result.{IfOk-weaker}
use Rattle.a429_arguments.specs.Requests.{AskedBytes}
use Rattle.a429_arguments.specs.Usage.{is_run}
use Rattle.a429_arguments.specs.declared.forms.Verb.{Verb}
use Rattle.a429_arguments.specs.declared.forms.Verb.TheVariants as verb
use Rattle.a429_console.specs.Outputs.{IsPut}
use Rattle.a429_console.specs.Readings.{HasRead}
use Rattle.a429_console.specs.WholeReplies.{IsDone, IsReplyPut, Replies}
use Rattle.a429_console.specs.declared.files.FileFault.{FileFault}
use Rattle.a429_console.specs.declared.refusals.CommandRefusal.{CommandRefusal}
use Rattle.a429_console.specs.declared.reply.Reply.{Reply}
use Rattle.a429_console.proofs.PutReplies.{reply_by}
use Rattle.a429_console.proofs.ReadingParts.{read_weaker}
use Rattle.a429_live.specs.LiveReplies.{IsLiveRefusal, IsLiveReply, IsReportOf, TakesLive}
use Rattle.a429_cli.specs.Replies.{IsReplyOf, IsReplyOrMemory, HasNoWarning}

pub live_reply : (v : Verb) (file : List ℕ → Option (List ℕ)) (r : AskedBytes) (status : ℕ) (bytes : List ℕ) → is_run v ≡ true → IsLiveReply file r status bytes → IsReplyOf v file r status bytes
live_reply verb.Live file r status bytes run is = is
live_reply _ file r status bytes run is = absurd (cc run)

-- its report or refusal was put
pub live_put : {S E : Type 0} (A : S → List ℕ → Result (List ℕ) FileFault → S → Type 0) (before after : S) (asked r : AskedBytes) (reply : Result Reply CommandRefusal) (result : Result ℕ E) (old new : Option (List ℕ)) → asked ≡ r
    → is_run r.verb ≡ true → HasRead A (λ file. Replies (IsDone (IsReportOf file asked)) (IsLiveRefusal file asked) reply) before after → IfOk result (IsPut (IsReplyPut 1 reply) old new)
    → HasRead A (λ file. IfOk result (IsPut (IsReplyOrMemory file r) old new)) before after
live_put A before after asked r reply result old new same run replied put =
    read_weaker replied (λ file is.
    let by : Replies (IsDone (IsReportOf file r)) (IsLiveRefusal file r) reply =
    subst (λ (a : AskedBytes). Replies (IsDone (IsReportOf file a)) (IsLiveRefusal file a) reply) same is in
    IfOk-weaker result (IsPut (IsReplyPut 1 reply) old new) (IsPut (IsReplyOrMemory file r) old new)
    (λ status bytes. (bytes.0, inl (live_reply r.verb file r status bytes.0 run (reply_by 1 (IsDone (IsReportOf file r)) (IsLiveRefusal file r) reply status bytes.0 by bytes.1)), bytes.2)) put)

pub takes_live : (v : Verb) (file : List ℕ → Option (List ℕ)) (r : AskedBytes) → is_run v ≡ true → HasNoWarning v file r → TakesLive file r
takes_live verb.Live file r run takes = takes
takes_live _ file r run takes = absurd (cc run)
