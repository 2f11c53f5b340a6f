use Rattle.std.proofs.Common.{◌≡◌, ◌≤◌, ◌*◌, ◌^◌, sum, take}
use Rattle.a429_documents.proofs.load.cells.all_cells.Given as goal

abbrev pub invariant-loop-load : goal.invariant-loop-load
invariant-loop-load l = (l.cells ≡ sum (take l.load-index l.loads)) × (l.cells ≤ l.load-index * 2 ^ 32)
