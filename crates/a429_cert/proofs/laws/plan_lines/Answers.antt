use Rattle.a429_cert.proofs.LineLaws.{plan_takes, plan_again}
use Rattle.a429_cert.proofs.laws.plan_lines.Goals as goal

pub returns-clause-found : goal.returns-clause-found
returns-clause-found c = plan_takes

pub returns-clause-only : goal.returns-clause-only
returns-clause-only c = plan_again
