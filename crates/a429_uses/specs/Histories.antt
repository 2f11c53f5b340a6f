-- The items of a history (vocabulary of contracts).
use Rattle.std.specs.Prelude.{List, [], ◌∷◌, ◌++◌}
use Rattle.a429_uses.specs.declared.history.History.{History, Nothing, Then'}

-- oldest first
abbrev pub items_of : {T : Type 0} → History T → List T
items_of Nothing = []
items_of (Then' snapshot before last) = items_of before ++ last ∷ []
