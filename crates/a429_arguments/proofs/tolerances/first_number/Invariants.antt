use Rattle.std.proofs.Common.{◌≡◌, drop}
use Rattle.std.specs.Prelude.{option_map}
use Rattle.a429_arguments.specs.Texts.{texts_of}
use Rattle.a429_arguments.specs.Tolerances.{first_number}
use Rattle.a429_arguments.proofs.tolerances.first_number.Given as goal

abbrev pub invariant-loop-text : goal.invariant-loop-text
invariant-loop-text l = first_number (option_map (λ name. name.now) l.group) (texts_of (drop l.text-index l.texts)) ≡ first_number (option_map (λ name. name.now) l.group) (texts_of l.texts)
