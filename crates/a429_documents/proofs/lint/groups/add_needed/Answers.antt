use Rattle.a429_documents.proofs.lint.groups.add_needed.Goals as goal

pub returns : goal.returns
returns c = rw c.number.ensures at c.add_finding.ensures
