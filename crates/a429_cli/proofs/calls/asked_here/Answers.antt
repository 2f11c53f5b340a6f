use Rattle.std.proofs.Common.{◌≡◌, ◌∙◌, ap, not, sym, subst}
use Rattle.clap.specs.Words.{Kinds}
use Rattle.a429_console.specs.Ends.{EndsBy, writing}
use Rattle.a429_arguments.specs.Texts.{texts_of}
use Rattle.a429_arguments.specs.Requests.{AskedBytes}
use Rattle.a429_arguments.specs.Usage.{is_run}
use Rattle.a429_cli.specs.Calls.{kinds_here}
use Rattle.a429_cli.proofs.AnsweredCalls.{kind_here, never_other, other_here, other_of}
use Rattle.a429_cli.proofs.calls.asked_here.Goals as goal

pub returns-in-Ok : goal.returns-in-Ok
returns-in-Ok g c =
    let words = texts_of c.args.words.now in
    let out = writing g.O.Output.contents g.O.Output.failures g.O.Output.is_flushed c.args.out.now c.refuse_elsewhere.new.out in
    let err = writing g.V.Output.contents g.V.Output.failures g.V.Output.is_flushed c.args.err.now c.refuse_elsewhere.new.err in
    let e = c.in-Ok.ensures in
    let other : is_run c.in-Ok.asked.verb ≡ not c.args.live = sym c.is_run.ensures ∙ other_of c.is_run.result c.args.live c.if-is_run-live.false in
    record {
      ends = subst (λ (kinds : Kinds). EndsBy kinds out err c.refuse_elsewhere.result) (sym (other_here c.args.live words (is_run c.in-Ok.asked.verb) e.kinds e.live_kinds other)) c.refuse_elsewhere.ensures;
      spent = λ r here asks. absurd (never_other c.args.live (sym other ∙ (ap (λ (a : AskedBytes). is_run a.verb) (e.asked r asks) ∙ here)));
    }

pub returns : goal.returns
returns g c =
    let words = texts_of c.args.words.now in
    let e = c.in-Err.ensures in
    record {
      ends = c.explained.ensures.ends (kinds_here c.args.live words) (kind_here c.args.live words c.in-Err.error e.kinds e.live_kinds);
      spent = λ r here asks. c.explained.ensures.spent (e.asked r asks);
    }
