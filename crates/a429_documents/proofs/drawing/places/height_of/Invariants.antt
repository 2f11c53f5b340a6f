use Rattle.std.proofs.Common.{◌≡◌, ◌≤◌, ◌+◌, ◌*◌, ◌^◌}
use Rattle.std.specs.List.{range_with_len, sum_by}
use Rattle.a429_documents.specs.Drawing.{height_at}
use Rattle.a429_documents.proofs.drawing.places.height_of.Given as goal

abbrev pub invariant-loop-place : goal.invariant-loop-place
invariant-loop-place l = (l.height ≡ sum_by (λ k. height_at l.form l.plan (l.first + k)) (range_with_len 0 l.place)) × (l.height ≤ 2 ^ 44 * l.place)
