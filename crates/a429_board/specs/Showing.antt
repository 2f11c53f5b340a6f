-- What is shown stays a plan of one book (vocabulary of contracts).
use Rattle.std.specs.Prelude.{◌≡◌, ℕ, List, true, false}
use mathlib.Core.Option.{some}
use lib.ListN.{get_elem?}
use Rattle.logbook.specs.Pages.{Book}
use Rattle.a429_board.specs.declared.rule.Shown.{Shown}
use Rattle.a429_board.specs.declared.rule.BookView.{BookView}
use Rattle.a429_board.specs.declared.rule.BookName.{BookName}

abbrev pub named : Book → BookName
named b = record { number = b.number; log_name = b.log_name; cells_name = b.cells_name }

abbrev pub newcomer : BookView
newcomer = record { knows = false; book = record { number = 0; log_name = 0; cells_name = 0 } }

abbrev pub knower : Book → BookView
knower b = record { knows = true; book = named b }

-- who knows a book knows that of what is shown
abbrev pub Keeps : Shown → List BookView → Type 0
Keeps x views = (seat : ℕ) (v : BookView) → get_elem? views seat ≡ some v → v.knows ≡ true → v.book ≡ named x.front.book

-- what is shown is of the book that is known from now on, and of the one that was known
abbrev pub learns : BookView → Shown → Shown → BookView → Type 0
learns v x y w = (w ≡ knower y.front.book) × (v.knows ≡ true → v.book ≡ named y.front.book)
