use Rattle.std.proofs.Common.{take}
use Rattle.a429_recordings.specs.CloseWords.{KeepsRuns}
use Rattle.a429_recordings.proofs.simulate.close.close_receiver.Given as goal

abbrev pub invariant-loop-word : goal.invariant-loop-word
invariant-loop-word l = KeepsRuns (take l.word-index l.words) l.runs
