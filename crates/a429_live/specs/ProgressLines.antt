-- The line on a terminal that shows the progress of a run (profile: docs/FORMATS.md, Hints).
use Rattle.std.specs.Prelude.{ℕ, List, ◌++◌, codes, min}
use Rattle.std.specs.Fmt.{decimal}
use Rattle.a429_console.specs.Shown.{rest_text}

-- the cells that were sent, of how many, and the words that were accepted
unfoldable pub counts_text : ℕ → ℕ → ℕ → List ℕ
counts_text cells all words = codes "cells sent " ++ decimal cells ++ codes " of " ++ decimal all ++ codes ", words accepted " ++ decimal words ++ codes ", "

-- these, and what is left after these milliseconds
abbrev pub progress_line : ℕ → ℕ → ℕ → ℕ → List ℕ
progress_line cells all words spent = counts_text cells all words ++ rest_text (min cells all) all spent
