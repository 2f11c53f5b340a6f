use Rattle.std.proofs.Common.{rules, ap, ◌∙◌, ℕ, List, get_or}
use Rattle.a429_values.proofs.Accepting.{zero_at}
use Rattle.a429_values.proofs.Keeps.{opens}
use Rattle.a429_values.proofs.hub.Hub.open.Goals as goal

pub of_words-requires : goal.of_words-requires
of_words-requires g c = opens _ _ (search rules) (λ s. ap (λ (ws : List ℕ). get_or ws s 0) (c.as_slice.ensures.value ∙ c.in_ok-words.ensures.items) ∙ zero_at _ s)
