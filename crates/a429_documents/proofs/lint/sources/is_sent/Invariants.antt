use Rattle.std.proofs.Common.{◌≡◌}
use Rattle.std.specs.List.{list_any, range_with_len}
use Rattle.a429_equipment.specs.TableRecord.{outputs_in}
use Rattle.a429_documents.specs.Lint.{has_output_of}
use Rattle.a429_documents.proofs.lint.sources.is_sent.Given as goal

abbrev pub invariant-loop-group : goal.invariant-loop-group
invariant-loop-group l = l.sent ≡ list_any (λ group. has_output_of (outputs_in l.equipment group) l.source) (range_with_len 0 l.group)
