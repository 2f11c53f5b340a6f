use Rattle.std.proofs.Common.{◌≡◌, drop}
use Rattle.std.specs.List.{list_all}
use Rattle.a429_arguments.specs.Texts.{texts_of}
use Rattle.a429_arguments.specs.Given.{fits}
use Rattle.a429_arguments.proofs.rules.all_fit.Given as goal

abbrev pub invariant-loop-text : goal.invariant-loop-text
invariant-loop-text l = list_all (fits l.form) (texts_of (drop l.text-index l.texts)) ≡ list_all (fits l.form) (texts_of l.texts)
