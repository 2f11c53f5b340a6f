use Rattle.std.specs.Prelude.{Ok}
use Rattle.a429_console.specs.Ends.{writing}
use Rattle.a429_console.proofs.CallEnds.{done_ends, explained_ends}
use Rattle.a429_cli.proofs.calls.explained.Goals as goal

pub returns-in-Ok-clause-ends : goal.returns-in-Ok-clause-ends
returns-in-Ok-clause-ends g c = λ kinds has.
    let out = writing g.O.Output.contents g.O.Output.failures g.O.Output.is_flushed c.args.out.now c.explain.new.out in
    let err = writing g.V.Output.contents g.V.Output.failures g.V.Output.is_flushed c.args.err.now c.explain.new.err in
    let e = c.in-Ok.ensures in
    done_ends kinds out err c.in-Ok.status
    (explained_ends kinds c.args.error.now out err (Ok c.in-Ok.status) has e.replied e.faults e.status e.flushed e.told e.warned e.quiet e.left e.silent e.failed e.once)
