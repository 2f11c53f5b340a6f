use Rattle.std.proofs.Common.{◌≡◌, ◌+◌}
use Rattle.std.specs.List.{flat_map, range_with_len}
use Rattle.a429_documents.specs.Drawing.{marks_at}
use Rattle.a429_documents.proofs.drawing.marks.marks_of.Given as goal

abbrev pub invariant-loop-place : goal.invariant-loop-place
invariant-loop-place l = l.marks ≡ flat_map (λ k. marks_at l.form l.plan (l.first + k)) (range_with_len 0 l.place)
