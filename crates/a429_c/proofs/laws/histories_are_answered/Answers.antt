use Rattle.a429_c.proofs.Histories.{calls_answered, history_kept}
use Rattle.a429_c.specs.Histories.{held_after}
use Rattle.std.proofs.Common.{◌++◌}
use Rattle.a429_equipment.specs.Limits.{count_bits}
use Rattle.a429_c.proofs.laws.histories_are_answered.Goals as goal

pub returns : goal.returns
returns c o E events held h w =
    let answered = c.calls_are_answered.ensures.answer in let goes = c.calls_are_answered.ensures.stands count_bits in
    let kept = history_kept answered goes o E events held h w in
    (kept, calls_answered answered goes o (E ++ events) (held_after held events) kept)
