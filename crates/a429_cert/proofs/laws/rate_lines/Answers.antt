use Rattle.a429_cert.proofs.LineLaws.{rate_takes, rate_again}
use Rattle.a429_cert.proofs.laws.rate_lines.Goals as goal

pub returns-clause-found : goal.returns-clause-found
returns-clause-found c = rate_takes

pub returns-clause-only : goal.returns-clause-only
returns-clause-only c = rate_again
