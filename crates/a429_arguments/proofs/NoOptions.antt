-- A request without options: for proofs of callers.
use Rattle.a429_arguments.specs.CommandLine.{kind_of}
use Rattle.a429_arguments.specs.Given.{nothing}
use Rattle.a429_arguments.specs.Requests.{CanBeGiven}
use Rattle.a429_arguments.specs.declared.options.OptionName.{OptionName}

pub can_give_nothing : (name : OptionName) → CanBeGiven (kind_of name) (nothing name)
can_give_nothing o = tt
