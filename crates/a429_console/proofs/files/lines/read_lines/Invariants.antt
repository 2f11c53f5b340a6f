use Rattle.std.proofs.Common.{◌≡◌, length}
use Rattle.a429_console.specs.Lines.{entries_after, entries_before, entries_of}
use Rattle.a429_console.proofs.files.lines.read_lines.Given as goal

abbrev pub invariant-loop-left : goal.invariant-loop-left
invariant-loop-left g l =
    entries_of (g.F.LineForm.states l.form) l.text ≡ entries_before l.entries.items (entries_after (g.F.LineForm.states l.form) (length l.entries.items) l.left)

abbrev pub decreases-loop-left : goal.decreases-loop-left
decreases-loop-left g l = length l.left
