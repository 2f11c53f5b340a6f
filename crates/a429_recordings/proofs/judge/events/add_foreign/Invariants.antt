use Rattle.std.proofs.Common.{◌≡◌, ◌++◌, drop, map}
use Rattle.a429_recordings.specs.JudgedPlans.{foreign_event}
use Rattle.a429_recordings.proofs.judge.events.add_foreign.Given as goal

abbrev pub invariant-loop-word : goal.invariant-loop-word
invariant-loop-word l = l.rows ++ map (foreign_event l.group) (drop l.word-index l.foreign) ≡ l.fn.rows ++ map (foreign_event l.group) l.foreign
