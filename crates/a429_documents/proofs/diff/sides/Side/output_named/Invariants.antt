use Rattle.std.proofs.Common.{◌≡◌, false, take}
use Rattle.std.specs.List.{AllByRecursion}
use Rattle.std.specs.Str.{bytes_eq}
use Rattle.a429_slots.specs.Tables.{outputs_of}
use Rattle.a429_cert.specs.PlanText.{source_name}
use Rattle.a429_documents.proofs.diff.sides.Side.output_named.Given as goal

abbrev pub invariant-loop-number : goal.invariant-loop-number
invariant-loop-number l = AllByRecursion (λ x. bytes_eq (source_name l.self.sources x.source) l.name ≡ false) (take l.number (outputs_of l.self.table))
