use Rattle.a429_console.proofs.files.pieces.read_in_pieces.Given as goal

abbrev pub decreases-loop-left : goal.decreases-loop-left
decreases-loop-left g l = l.left
