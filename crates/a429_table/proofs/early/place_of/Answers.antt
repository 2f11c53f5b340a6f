use Rattle.std.proofs.Common.{◌∙◌, sym}
use Rattle.toml.specs.View.{view}
use Rattle.a429_table.specs.declared.fault.TablePlace.TheVariants.{Root}
use Rattle.a429_table.specs.Early.{is_sought}
use Rattle.a429_table.specs.Walk.{below, walk}
use Rattle.a429_table.proofs.EarlyFaults.{place_here, place_later}
use Rattle.a429_table.proofs.early.place_of.Goals as goal

pub returns-then-is_sought : goal.returns-then-is_sought
unfolding walk
returns-then-is_sought c =
    let root = view c.args.root.now in
    sym (place_here (is_sought c.args.version c.args.sought) (Root, root) (below root) (sym c.if-is_sought.ensures))

pub returns : goal.returns
unfolding walk
returns c =
    let root = view c.args.root.now in
    c.place_below.ensures ∙ sym (place_later (is_sought c.args.version c.args.sought) (Root, root) (below root) (sym c.if-is_sought.ensures))
