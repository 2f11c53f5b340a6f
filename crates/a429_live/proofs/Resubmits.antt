-- The lines of tables that were submitted again, by what they were answered.
use Rattle.std.proofs.Common.{◌≡◌, ◌∙◌, ◌+◌, ◌<◌, ◌≤◌, ◌^◌, ◌∷◌, [], ◌++◌, ℕ, false, List, ap, drop, subst, sym, refl, arith, inl, inr, append_assoc, append-nil}
use Rattle.std.specs.Prelude.{codes}
use Rattle.std.specs.List.{concat}
use Rattle.std.specs.declared.vec.Vec.{Vec}
use Rattle.std.specs.declared.alloc.Global.{Global}
use Rattle.a429_console.specs.Files.{bytes_of}
use Rattle.a429_live.proofs.ReportParts.{concat_push}
use Rattle.std.specs.Fmt.{decimal}
use Rattle.a429_equipment.specs.TableRecord.{TableRecord}
use Rattle.a429_equipment.specs.SameStation.{same_station}
use Rattle.a429_slots.specs.Proposed.{Proposed}
use Rattle.a429_slots.specs.Tables.{PlanTable}
use Rattle.a429_console.specs.RefusalText.{refusal_line}
use Rattle.a429_console.specs.Tables.{IsProposedBy, IsTableRefusal}
use Rattle.a429_console.specs.declared.refusals.CommandRefusal.{CommandRefusal}
use Rattle.a429_station.specs.Resubmitting.{Publishes, Running}
use Rattle.a429_live.specs.declared.control.SubmitAnswer.{SubmitAnswer}
use Rattle.a429_live.specs.declared.control.SubmitAnswer.TheVariants as answer
use Rattle.a429_live.specs.LiveReplies.{AreAppended, AreResubmitLines, IsAppended, IsResubmitLine}
use Rattle.a429_live.specs.Resubmitted.{AreAnswers, IsAnswer}

-- ---- one table

-- the station after an answer
pub stays_station : (v w : Running) (bytes : List ℕ) (given : SubmitAnswer) → IsAnswer v bytes given w → w.station ≡ v.station
stays_station v w bytes (answer.Published n) A = A.station
stays_station v w bytes (answer.Refused refusal) A = ap (λ (x : Running). x.station) A.1
stays_station v w bytes answer.OtherStation A = ap (λ (x : Running). x.station) A.1
stays_station v w bytes answer.NumbersSpent A = ap (λ (x : Running). x.station) A.1

same_number : (v w : Running) → w ≡ v → w.planner.last.number ≤ v.planner.last.number + 1
same_number v w is = let last : w.planner.last.number ≡ v.planner.last.number = ap (λ (x : Running). x.planner.last.number) is in omega (arith, last)

pub one_more : (v w : Running) (bytes : List ℕ) (given : SubmitAnswer) → IsAnswer v bytes given w → w.planner.last.number ≤ v.planner.last.number + 1
one_more v w bytes (answer.Published n) A = let last : w.planner.last.number ≡ n = ap (λ (p : PlanTable). p.number) A.last in omega (arith, last, A.next)
one_more v w bytes (answer.Refused refusal) A = same_number v w A.1
one_more v w bytes answer.OtherStation A = same_number v w A.1
one_more v w bytes answer.NumbersSpent A = same_number v w A.1

-- a table that is published
pub published : (v w : Running) (bytes : List ℕ) (n : ℕ) (old new : List ℕ) → Publishes v bytes n w → new ≡ old ++ (codes "published " ++ decimal n ++ 10 ∷ []) → IsAppended v w bytes old new
published v w bytes n old new A put =
    let last : w.planner.last.number ≡ n = ap (λ (p : PlanTable). p.number) A.last in (
      codes "published " ++ decimal n ++ 10 ∷ [],
      inr (inr (record { station = A.of.record_of; plan = A.of.plan }, (A.of.reads, A.of.planned, A.of.own), A.same, ap (λ (m : ℕ). codes "published " ++ decimal m ++ 10 ∷ []) (sym last), last ∙ A.next)),
      put,
    )

same_last : (v w : Running) → w ≡ v → w.planner.last.number ≡ v.planner.last.number
same_last v w is = ap (λ (x : Running). x.planner.last.number) is

-- one that is refused
pub refused : (v w : Running) (bytes : List ℕ) (refusal : CommandRefusal) (old new : List ℕ) → IsTableRefusal bytes refusal → w ≡ v → new ≡ old ++ (refusal_line refusal ++ 10 ∷ []) → IsAppended v w bytes old new
refused v w bytes refusal old new is same put = (refusal_line refusal ++ 10 ∷ [], inl (refusal, is, refl, same_last v w same), put)

-- one of another station
pub of_another : (v w : Running) (bytes : List ℕ) (q : Proposed) (old new : List ℕ) → IsProposedBy bytes q → same_station v.station q.station ≡ false → w ≡ v
    → new ≡ old ++ (codes "refused station-differs" ++ 10 ∷ []) → IsAppended v w bytes old new
of_another v w bytes q old new is other same put = (codes "refused station-differs" ++ 10 ∷ [], inr (inl (q, is, other, refl, same_last v w same)), put)

-- ---- several

-- an given more, before those of the tables that are left
pub one_more_answer : (v w : Running) (tables : List (List ℕ)) (old new rest : List (SubmitAnswer)) (given : SubmitAnswer) → new ≡ old ++ given ∷ [] → AreAnswers v tables (old ++ given ∷ rest) w → AreAnswers v tables (new ++ rest) w
one_more_answer v w tables old new rest given is all =
    subst (λ (xs : List (SubmitAnswer)). AreAnswers v tables xs w) (sym (ap (λ (xs : List (SubmitAnswer)). xs ++ rest) is ∙ append_assoc old (given ∷ []) rest)) all

-- the lines so far are those of the first i tables, by what these were answered: those of the tables that are left complete them
abbrev pub AreTold : Running → Running → List (Vec ℕ Global) → List (SubmitAnswer) → ℕ → List ℕ → List ℕ → Type 0
AreTold begin end tables answers i old new =
    (lines : List (List ℕ)) × (new ≡ old ++ concat lines)
    × (v : Running) × (v.station ≡ begin.station) × (v.planner.last.number ≤ i) × AreAnswers v (bytes_of (drop i tables)) (drop i answers) end
    × ((rest : List (List ℕ)) → AreResubmitLines begin.station v.planner.last.number (bytes_of (drop i tables)) rest → AreResubmitLines begin.station 0 (bytes_of tables) (lines ++ rest))

pub none_told : (begin end : Running) (tables : List (Vec ℕ Global)) (answers : List (SubmitAnswer)) (text : List ℕ) → begin.planner.last.number ≡ 0 → AreAnswers begin (bytes_of tables) answers end
    → AreTold begin end tables answers 0 text text
none_told begin end tables answers text zero all =
    ([], sym (append-nil text), begin, refl, omega (arith, zero), all, λ rest lines. subst (λ (n : ℕ). AreResubmitLines begin.station n (bytes_of tables) rest) zero lines)

pub one_told : (begin end : Running) (tables : List (Vec ℕ Global)) (answers : List (SubmitAnswer)) (i : ℕ) (table : Vec ℕ Global) (given : SubmitAnswer) (old mid new : List ℕ)
    → drop i tables ≡ table ∷ drop (i + 1) tables → drop i answers ≡ given ∷ drop (i + 1) answers → i + 1 < 2 ^ 64
    → ((v w : Running) → IsAnswer v table.items given w → v.planner.last.number + 1 < 2 ^ 64 → IsAppended v w table.items mid new)
    → AreTold begin end tables answers i old mid → AreTold begin end tables answers (i + 1) old new
one_told begin end tables answers i table given old mid new at at' room put (lines, text, v, here, few, left, completes) =
    let both : AreAnswers v (table.items ∷ bytes_of (drop (i + 1) tables)) (given ∷ drop (i + 1) answers) end =
    subst (λ (ts : List (Vec ℕ Global)). AreAnswers v (bytes_of ts) (given ∷ drop (i + 1) answers) end) at
    (subst (λ (xs : List (SubmitAnswer)). AreAnswers v (bytes_of (drop i tables)) xs end) at' left) in
    let w = both.0 in
    let told = put v w both.1 (omega (arith, few, room)) in
    let line = told.0 in
    let own : IsResubmitLine begin.station v.planner.last.number table.items w.planner.last.number line =
    subst (λ (t : TableRecord). IsResubmitLine t v.planner.last.number table.items w.planner.last.number line) here told.1 in (
      lines ++ line ∷ [],
      told.2 ∙ ap (λ (xs : List ℕ). xs ++ line) text ∙ append_assoc old (concat lines) line ∙ ap (λ (xs : List ℕ). old ++ xs) (sym (concat_push lines line)),
      w,
      stays_station v w table.items given both.1 ∙ here,
      omega (arith, few, one_more v w table.items given both.1),
      both.2,
      λ rest all.
          subst (AreResubmitLines begin.station 0 (bytes_of tables)) (sym (append_assoc lines (line ∷ []) rest))
          (completes (line ∷ rest) (subst (λ (ts : List (Vec ℕ Global)). AreResubmitLines begin.station v.planner.last.number (bytes_of ts) (line ∷ rest)) (sym at) (w.planner.last.number, own, all))),
    )

pub all_told : (begin end : Running) (tables : List (Vec ℕ Global)) (answers : List (SubmitAnswer)) (i : ℕ) (old new : List ℕ) → drop i tables ≡ [] → AreTold begin end tables answers i old new
    → AreAppended begin.station (bytes_of tables) old new
all_told begin end tables answers i old new none (lines, text, v, here, few, left, completes) = (
  lines,
  subst (AreResubmitLines begin.station 0 (bytes_of tables)) (append-nil lines)
      (completes [] (subst (λ (ts : List (Vec ℕ Global)). AreResubmitLines begin.station v.planner.last.number (bytes_of ts) []) (sym none) tt)),
  text,
)

-- there are as many answers
pub some_answer : (begin end : Running) (tables : List (Vec ℕ Global)) (answers : List (SubmitAnswer)) (i : ℕ) (table : Vec ℕ Global) (old new : List ℕ)
    → drop i tables ≡ table ∷ drop (i + 1) tables → drop i answers ≡ [] → AreTold begin end tables answers i old new → ⊥
some_answer begin end tables answers i table old new at none (lines, text, v, here, few, left, completes) =
    subst (λ (ts : List (Vec ℕ Global)). AreAnswers v (bytes_of ts) [] end) at (subst (λ (xs : List (SubmitAnswer)). AreAnswers v (bytes_of (drop i tables)) xs end) none left)
