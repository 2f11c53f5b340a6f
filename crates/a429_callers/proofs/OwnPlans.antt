-- The text of a table's own plan is answered by `fewest`.
use Rattle.std.proofs.Common.{inl, inr, ◌≡◌, ◌∙◌, ◌^◌, ℕ, List, refl, sym, subst, ap}
use Rattle.std.specs.Prelude.{◌⊎◌, Result, Ok, Err, IfOk, IfErr}
use Rattle.a429_word.proofs.Lists.{same_Ok, partner}
use Rattle.a429_equipment.specs.TableRecord.{TableRecord}
use Rattle.a429_table.specs.Reading.{reading}
use Rattle.a429_equipment.specs.Sound.{IsSound}
use Rattle.a429_table.specs.declared.fault.TableFault.TheVariants as table
use Rattle.a429_slots.specs.Tables.{PlanTable, groups_of, outputs_of}
use Rattle.a429_slots.specs.Planned.{IsPlanOf, IsPlannedAt, IsServed, rated_outputs}
use Rattle.a429_cert.specs.Due.{IsDue, IsFirstUnfitOf}
use Rattle.a429_cert.specs.declared.due.DueTable.{DueTable}
use Rattle.a429_cert.specs.declared.verdicts.Verdict.{Verdict}
use Rattle.a429_cert.specs.declared.verdicts.Verdict.TheVariants.{Fewest}
use Rattle.a429_cert.specs.declared.checking.CheckFault.{CheckFault}
use Rattle.a429_cert.specs.declared.checking.CheckFault.TheVariants as check
use Rattle.a429_cert.specs.Verdicts.{verdict}
use Rattle.a429_cert.specs.PlanText.{plan_text_of}
use Rattle.a429_cert.specs.Judged.{IsCheckFault}

-- a table with a plan has no unfit output
planned_fit : (e : TableRecord) (p : PlanTable) (g o : ℕ) → IsPlanOf e p → IsFirstUnfitOf e g o → ⊥
planned_fit e p g o plan unfit =
    let (table, planned) = partner (IsPlannedAt e.sources) (rated_outputs e) (groups_of p) g (unfit.rate, unfit.rows) plan.groups unfit.there in
    let (placed, served) = partner (IsServed unfit.rate) unfit.rows (outputs_of table) o unfit.unfit.row planned.served unfit.unfit.there in
    unfit.unfit.unfit (2 ^ placed.place.period) served.1.0 served.1.1

is_ok : {X E : Type 0} → Result X E → Type 0
is_ok (Ok x) = Unit {0}
is_ok (Err e) = ⊥

the : {X E : Type 0} → X → Result X E → X
the d (Ok x) = x
the d (Err e) = d

ok_err : {X E : Type 0} (x : X) (e : E) → ◌≡◌ {A = Result X E} (Ok x) (Err e) → ⊥
unfolding is_ok
ok_err {X} {E} x e h = subst (is_ok {X = X} {E = E}) h (record {})

pub own : (bytes text : List ℕ) (e : TableRecord) (p : PlanTable) (r : Result Verdict CheckFault)
    → ((e : TableRecord) (p : PlanTable) (t : DueTable) → IsSound e → IsPlanOf e p → IsDue e t → verdict t (plan_text_of e p) ≡ Fewest)
    → reading bytes ≡ Ok e → IsSound e → IsPlanOf e p → text ≡ plan_text_of e p
    → IfOk r (λ v. (f : TableRecord) × (t : DueTable) × (reading bytes ≡ Ok f) × IsDue f t × (v ≡ verdict t text))
    → IfErr r (IsCheckFault bytes) → (r ≡ Ok Fewest) ⊎ (r ≡ Err check.NoMemory)
own bytes text e p (Ok v) law read sound plan is (f, t, stated, due, judged) err =
    let due_here : IsDue e t = subst (λ (x : TableRecord). IsDue x t) (same_Ok f e (sym stated ∙ read)) due in
    inl (ap Ok (judged ∙ ap (verdict t) is ∙ law e p t sound plan due_here))
own bytes text e p (Err (check.Table (table.At kind place))) law read sound plan is ok err = absurd (ok_err e (kind, place) (sym read ∙ err))
own bytes text e p (Err (check.Table table.NoMemory)) law read sound plan is ok err = absurd err
own bytes text e p (Err (check.Unfit g o)) law read sound plan is ok err =
    absurd (planned_fit e p g o plan (subst (λ (f : TableRecord). IsFirstUnfitOf f g o) (same_Ok err.0 e (sym err.1 ∙ read)) err.2))
own bytes text e p (Err check.NoMemory) law read sound plan is ok err = inr refl
