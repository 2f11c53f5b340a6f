-- What is true of all files that give what a reader answered is true of the files that it has.
use Rattle.std.proofs.Common.{◌≡◌, ◌∷◌, [], ℕ, List, Option, Result, ap, subst, sym}
use Rattle.std.specs.List.{AllByRecursion}
use Rattle.a429_console.specs.declared.files.FileFault.{FileFault}
use Rattle.a429_console.specs.Readings.{AreAnswered, AreAnswersOf, HasReadFrom, IsAnswerOf, Reading}

-- each answer is of the files that a reader has, and it has the same ones after it
abbrev pub Answers : {S : Type 0} → (S → List ℕ → Option (List ℕ)) → S → List ℕ → Result (List ℕ) FileFault → S → Type 0
Answers file old name answer new = (new ≡ old) × IsAnswerOf (file old) name answer

-- all answers are of the files that it had before them
answers-AreAnswersOf : {S : Type 0} (file : S → List ℕ → Option (List ℕ)) (old new : S) (readings : List Reading) → AreAnswered (Answers file) old readings new → AreAnswersOf (file old) readings
answers-AreAnswersOf file old new [] none = tt
answers-AreAnswersOf file old new (r ∷ rs) (next, (same, is), more) =
    (is, answers-AreAnswersOf file old new rs (subst (λ s. AreAnswered (Answers file) s rs new) same more))

-- what was said of such files holds of those that it has
pub known_files : {S : Type 0} (file : S → List ℕ → Option (List ℕ)) (Says : (List ℕ → Option (List ℕ)) → Type 0) (old : S) → HasReadFrom (Answers file) Says old → Says (file old)
known_files file Says old (new, read) = read.says (file old) (answers-AreAnswersOf file old new read.readings read.answered)
