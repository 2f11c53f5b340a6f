use Rattle.a429_cert.proofs.checking.check.Goals as goal

pub returns-clause-fewest : goal.returns-clause-fewest
returns-clause-fewest c = λ q. (c.in_ok-equipment.equipment, c.in_ok-equipment.ensures, c.in_ok-judge.ensures.fewest q)
