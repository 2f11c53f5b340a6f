use Rattle.std.proofs.Common.{◌≡◌, drop}
use Rattle.a429_arguments.specs.Texts.{texts_of}
use Rattle.a429_recordings.specs.LogViews.{is_ignored}
use Rattle.a429_recordings.proofs.logs.views.is_ignored.Given as goal

abbrev pub invariant-loop-text : goal.invariant-loop-text
invariant-loop-text l = is_ignored (texts_of (drop l.text-index l.ignored)) l.name ≡ is_ignored (texts_of l.ignored) l.name
