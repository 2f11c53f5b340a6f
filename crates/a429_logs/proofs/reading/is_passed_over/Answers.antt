use Rattle.std.proofs.Common.{arith, sym}
use Rattle.a429_logs.proofs.PassedLines.{passed_first}
use Rattle.a429_logs.proofs.reading.is_passed_over.Goals as goal

pub returns-in-len1-up : goal.returns-in-len1-up
returns-in-len1-up c = sym (passed_first c.args.line.now (omega arith) (sym c.if-not-is_ascii_whitespace.ensures.value))
