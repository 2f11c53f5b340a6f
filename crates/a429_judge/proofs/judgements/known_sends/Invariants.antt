use Rattle.std.proofs.Common.{◌≡◌, take}
use Rattle.std.specs.Prelude.{count_by}
use Rattle.a429_judge.specs.Judging.{is_known}
use Rattle.a429_judge.proofs.judgements.known_sends.Given as goal

abbrev pub invariant-loop-send : goal.invariant-loop-send
invariant-loop-send l = l.count ≡ count_by (λ s. is_known l.facts l.span l.accepted s.time) (take l.send-index l.sends)
