-- Lists that proofs alone read (vocabulary of contracts).
use Rattle.std.specs.Prelude.{List, [], ◌∷◌, ◌++◌}
use Rattle.a429_judge.specs.declared.told.Items.{Items, Nothing, More'}

-- first to last
abbrev pub told_by : {T : Type 0} → Items T → List T
told_by Nothing = []
told_by (More' snapshot before last) = told_by before ++ last.value ∷ []
