use Rattle.std.proofs.Common.{◌≡◌, ◌-◌}
use Rattle.a429_text.specs.CutText.{after_lines}
use Rattle.a429_text.proofs.cut.lines_from.Given as goal

-- as many lines are left to go as the counter says
abbrev pub invariant-loop-before : goal.invariant-loop-before
invariant-loop-before l = after_lines l.before l.rest ≡ after_lines (l.initial.number - 1) l.initial.text

abbrev pub decreases-loop-before : goal.decreases-loop-before
decreases-loop-before l = l.before
