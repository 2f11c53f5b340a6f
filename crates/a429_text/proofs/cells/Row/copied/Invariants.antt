use Rattle.std.proofs.Common.{◌≡◌, map, take}
use Rattle.a429_text.specs.Sheets.{kept_field}
use Rattle.a429_text.proofs.cells.Row.copied.Given as goal

abbrev pub invariant-loop-cell : goal.invariant-loop-cell
invariant-loop-cell l = map kept_field l.copy-inside.cells ≡ map kept_field (take l.cell-index l.cell-items)
