use Rattle.std.proofs.Common.{◌≡◌, ◌++◌, length, string_bytes}
use Rattle.a429_import.specs.KeptFields.{kept_comments}
use Rattle.a429_import.proofs.comments.put_lines.Given as goal

abbrev pub invariant-loop-line : goal.invariant-loop-line
invariant-loop-line l = string_bytes l.shown ++ kept_comments l.name l.rest ≡ string_bytes l.initial.shown ++ kept_comments l.name l.lines

abbrev pub decreases-loop-line : goal.decreases-loop-line
decreases-loop-line l = length l.rest
