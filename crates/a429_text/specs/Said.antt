-- The bytes of a text that proofs alone read whole (vocabulary of contracts).
use Rattle.std.specs.Prelude.{ℕ, List, [], ◌∷◌, ◌++◌}
use Rattle.a429_text.specs.declared.said.Said.{Said, Nothing, Then'}

-- first to last
abbrev pub bytes_of : Said → List ℕ
bytes_of Nothing = []
bytes_of (Then' snapshot before last) = bytes_of before ++ last ∷ []
