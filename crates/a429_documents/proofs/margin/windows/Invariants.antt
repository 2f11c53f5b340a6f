use Rattle.std.proofs.Common.{◌≡◌, map, take}
use Rattle.a429_documents.specs.Margins.{window_of}
use Rattle.a429_documents.proofs.margin.windows.Given as goal

abbrev pub invariant-loop-row : goal.invariant-loop-row
invariant-loop-row l = l.windows ≡ map (window_of l.rate) (take l.row-index l.rows)
