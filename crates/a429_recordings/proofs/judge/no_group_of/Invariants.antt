use Rattle.std.proofs.Common.{◌≡◌, drop}
use Rattle.a429_arguments.specs.Texts.{texts_of}
use Rattle.a429_recordings.specs.JudgeReplies.{no_group_of}
use Rattle.a429_recordings.proofs.judge.no_group_of.Given as goal

abbrev pub invariant-loop-text : goal.invariant-loop-text
invariant-loop-text l = no_group_of l.names (texts_of (drop l.text-index l.tolerances)) ≡ no_group_of l.names (texts_of l.tolerances)
