-- Answers to tables whose plans a station takes.
use Rattle.std.proofs.Common.{◌≡◌, ◌∷◌, [], ℕ, false, List, sym, subst, refl}
use Rattle.std.specs.List.{AllByRecursion, list_any}
use Rattle.a429_equipment.specs.TableRecord.{TableRecord}
use Rattle.a429_slots.specs.OnePlan.{PlansHaveNoFault}
use Rattle.a429_console.specs.Tables.{IsTakenBy}
use Rattle.a429_station.specs.Resubmitting.{Running}
use Rattle.a429_replay.proofs.Taken.{of_station, unrefused}
use Rattle.a429_live.specs.Resubmitted.{AreAnswers, is_refused}
use Rattle.a429_live.specs.declared.control.SubmitAnswer.{SubmitAnswer}
use Rattle.a429_live.specs.declared.control.SubmitAnswer.TheVariants as answer
use Rattle.a429_live.proofs.Resubmits.{stays_station}

-- no answer to tables that a station takes is a refusal
pub none_refused : PlansHaveNoFault → (v w : Running) (tables : List (List ℕ)) (answers : List SubmitAnswer) → AreAnswers v tables answers w → AllByRecursion (IsTakenBy v.station) tables → list_any is_refused answers ≡ false
none_refused law v w [] [] all taken = refl
none_refused law v w [] (a ∷ answers) all taken = absurd all
none_refused law v w (table ∷ tables) [] all taken = absurd all
none_refused law v w (table ∷ tables) (answer.Refused refusal ∷ answers) (u, A, all) ((q, is, same), taken) = absurd (unrefused law table q refusal is A.0)
none_refused law v w (table ∷ tables) (answer.OtherStation ∷ answers) (u, A, all) (one, taken) =
    let other = A.0 in
    let differs = other.2 in
    let agrees = of_station v.station table other.0.station one other.1.0 in cc
none_refused law v w (table ∷ tables) (answer.Published n ∷ answers) (u, A, all) (one, taken) =
    none_refused law u w tables answers all (subst (λ (t : TableRecord). AllByRecursion (IsTakenBy t) tables) (sym (stays_station v u table (answer.Published n) A)) taken)
none_refused law v w (table ∷ tables) (answer.NumbersSpent ∷ answers) (u, A, all) (one, taken) =
    none_refused law u w tables answers all (subst (λ (t : TableRecord). AllByRecursion (IsTakenBy t) tables) (sym (stays_station v u table answer.NumbersSpent A)) taken)
