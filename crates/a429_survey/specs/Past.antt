-- The words that proofs alone read (vocabulary of contracts).
use Rattle.std.specs.Prelude.{List, [], ◌∷◌, ◌++◌, string_bytes}
use Rattle.a429_survey.specs.declared.past.Past.{Past, Nothing, Then'}
use Rattle.a429_survey.specs.Figures.{Noted}

-- oldest first
abbrev pub words_in : Past → List Noted
words_in Nothing = []
words_in (Then' snapshot before name time raw) = words_in before ++ record { time = time; name = string_bytes name.value; raw = raw } ∷ []
