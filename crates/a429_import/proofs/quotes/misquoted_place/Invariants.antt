use Rattle.std.proofs.Common.{◌≡◌, drop}
use Rattle.csv.specs.declared.parser.State.TheVariants as st
use Rattle.a429_import.specs.FaultLines.{wrong_from}
use Rattle.a429_import.specs.ImportSteps.{state_of}
use Rattle.a429_import.specs.Imports.{separated}
use Rattle.a429_import.proofs.quotes.misquoted_place.Given as goal

abbrev pub invariant-loop-place : goal.invariant-loop-place
invariant-loop-place l = wrong_from l.of_rows (separated l.separator) (state_of l.part) (drop l.begin l.text) (drop l.place l.text) ≡ wrong_from l.of_rows (separated l.separator) st.StartRecord l.text l.text
