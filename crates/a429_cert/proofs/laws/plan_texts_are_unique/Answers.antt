use Rattle.std.proofs.Common.{ap}
use Rattle.a429_cert.specs.PlanText.{plan_text_of}
use Rattle.a429_cert.proofs.laws.plan_texts_are_unique.Goals as goal

pub returns : goal.returns
returns c e p q first own second other = ap (plan_text_of e) (c.plans_are_unique.ensures.plan e p q first own second other)
