use Rattle.std.proofs.Common.{◌≡◌, ◌++◌, List}
use Rattle.a429_text.specs.Fields.{Field}
use Rattle.a429_documents.specs.Margins.{AreMargins}
use Rattle.a429_documents.proofs.margin.add_groups.Given as goal

abbrev pub invariant-loop-number : goal.invariant-loop-number
invariant-loop-number l =
    (part : List (List Field)) × AreMargins l.fn.proposal.station l.fn.proposal.plan l.number part × (l.rows ≡ l.fn.rows ++ part)
