use Rattle.std.proofs.Common.{◌≡◌, ◌<◌, ◌≤◌, true, false, sym, arith}
use Rattle.std.specs.Prelude.{nat_le}
use Rattle.std.proofs.lemmas.Bool.Decides.{nat_tests}
use Rattle.a429_documents.specs.Load.{shares_of}
use Rattle.a429_documents.proofs.BusLoads.{all_more, not_all}
use Rattle.a429_documents.proofs.load.limit.fit_each.Goals as goal

pub returns-then-share-capacity : goal.returns-then-share-capacity
returns-then-share-capacity c =
    let above : c.args.capacity < c.share.result = c.if-share-capacity.true in
    let no : nat_le c.share.result c.args.capacity ≡ false = grind (arith, nat_tests) in
    sym (not_all (λ d. nat_le d c.args.capacity) (shares_of c.args.table.now) c.loop-output.output c.share.result c.share.ensures.value no)

pub loop-output-preserved : goal.loop-output-preserved
loop-output-preserved c =
    let fits : c.share.result ≤ c.args.capacity = c.if-share-capacity.false in
    let yes : nat_le c.share.result c.args.capacity ≡ true = grind (arith, nat_tests) in
    all_more (λ d. nat_le d c.args.capacity) (shares_of c.args.table.now) c.loop-output.output c.share.result c.share.ensures.value c.loop-output.invariant yes
