use Rattle.std.proofs.Common.{ap}
use Rattle.a429_line.specs.LineBytes.{symbol_of}
use Rattle.a429_line.proofs.Passed.{takes_none, takes_skipped}
use Rattle.a429_line.proofs.stretches.take_line_feed.Goals as goal

pub returns-then-bytes-from-eq10 : goal.returns-then-bytes-from-eq10
returns-then-bytes-from-eq10 c = λ stage. takes_skipped c.args.bytes.now c.args.from stage c.if-from-bytes.true (ap symbol_of c.if-bytes-from-eq10.true)

pub returns-else-from-bytes : goal.returns-else-from-bytes
returns-else-from-bytes c = λ stage. takes_none c.args.bytes.now c.args.from stage c.requires
