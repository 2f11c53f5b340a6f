use Rattle.std.proofs.Common.{rules, ◌∙◌}
use Rattle.a429_values.proofs.Keeps.{stores}
use Rattle.a429_values.proofs.steps.accept_step.Goals as goal

pub store-requires : goal.store-requires
store-requires g c = (search rules, search rules, stores _ _ _ _ _ _ _ _ c.requires.view.0 c.requires.word c.requires.source.0 c.requires.count.0 (c.from.ensures ∙ c.requires.bits))
