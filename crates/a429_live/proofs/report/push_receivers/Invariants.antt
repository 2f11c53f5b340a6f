use Rattle.std.proofs.Common.{◌≡◌, ◌++◌, drop}
use Rattle.a429_live.specs.LiveReplies.{receiver_lines}
use Rattle.a429_live.proofs.report.push_receivers.Given as goal

abbrev pub invariant-loop-place : goal.invariant-loop-place
invariant-loop-place l = l.text.items ++ receiver_lines (drop l.place l.rows) (drop l.place l.totals) ≡ l.initial.text.items ++ receiver_lines l.rows l.totals
