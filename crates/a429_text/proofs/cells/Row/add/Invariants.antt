use Rattle.std.proofs.Common.{◌≡◌, ◌++◌, map, take}
use Rattle.a429_text.specs.Sheets.{field_of, kept_field}
use Rattle.a429_text.proofs.cells.Row.add.Given as goal

abbrev pub invariant-loop-cell : goal.invariant-loop-cell
invariant-loop-cell l = map kept_field l.self-inside.cells ≡ map kept_field l.initial.self-inside.cells ++ map field_of (take l.cell-index l.cells)
