-- What was done with the words that were given.
use Rattle.std.proofs.Common.{ℕ, List, inl, inr}
use Rattle.std.specs.Prelude.{Option}
use Rattle.a429_console.specs.Ends.{Writing}
use Rattle.a429_arguments.specs.GivenWords.{AreAllWords}
use Rattle.a429_cli.specs.ProgramRuns.{HasRunProgram, IsDoneOrRefused, Reader}

pub ran_with : {X Y : Type 0} (gives : ℕ → List ℕ → Type 0) (ends : ℕ → Type 0) (reader : Reader) (Reads : ((List ℕ → Option (List ℕ)) → Type 0) → Type 0) (out : Writing X) (err : Writing Y) (status : ℕ) (words : List (List ℕ))
    → AreAllWords gives ends words → IsDoneOrRefused words reader Reads out err status → HasRunProgram gives ends reader Reads out err status
ran_with gives ends reader Reads out err status words given (inl done) = inl (words, given, done)
ran_with gives ends reader Reads out err status words given (inr refused) = inr (inr refused)
