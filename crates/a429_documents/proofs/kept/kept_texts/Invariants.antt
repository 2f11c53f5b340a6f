use Rattle.std.proofs.Common.{◌≡◌, ◌++◌, length, map}
use Rattle.std.specs.Prelude.{filter_map}
use Rattle.a429_documents.specs.KeptColumns.{all_lines, kept_in, said_by}
use Rattle.a429_documents.proofs.kept.kept_texts.Given as goal

abbrev pub invariant-loop-line : goal.invariant-loop-line
invariant-loop-line l = map said_by l.texts ++ filter_map kept_in (all_lines l.rest) ≡ filter_map kept_in (all_lines l.table)

abbrev pub decreases-loop-line : goal.decreases-loop-line
decreases-loop-line l = length l.rest
