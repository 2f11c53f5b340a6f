use Rattle.std.proofs.Common.{refl}
use Rattle.std.specs.Path.{rsplit_once}
use Rattle.a429_text.proofs.renames.renames_are_as_written.Goals as goal

pub returns-clause-names : goal.returns-clause-names
unfolding rsplit_once
returns-clause-names c = record { channel = refl; other = refl; heading = refl; marks = refl; first = refl; part = refl; small = refl; once = refl }

pub returns-clause-form : goal.returns-clause-form
unfolding rsplit_once
returns-clause-form c = record { plain = refl; marks = refl; no_mark = refl; no_from = refl; no_to = refl; nothing = refl }

pub returns-clause-twice : goal.returns-clause-twice
unfolding rsplit_once
returns-clause-twice c = record { twice = refl; equal = refl; one_to = refl; other = refl; nothing = refl }
