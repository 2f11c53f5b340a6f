use Rattle.a429_recordings.proofs.LateRows.{words_within}
use Rattle.a429_recordings.proofs.laws.words_are_within_bounds.Goals as goal

pub returns : goal.returns
returns c = words_within c.plans_in_force_are_spaced.ensures c.accepted_words_go_out_in_time.ensures.opening
