-- Refusals that are handed on.
use Rattle.std.proofs.Common.{◌≡◌, sym, subst, ℕ, List, inl, inr}
use Rattle.std.specs.Prelude.{Result, Ok, Err, IfOk, OnOk, MatchResult}
use Rattle.a429_equipment.specs.TableRecord.{TableRecord}
use Rattle.a429_table.specs.Reading.{reading}
use Rattle.a429_console.specs.Tables.{IsPlanRefusal, IsTableFault, IsTableRefusal}
use Rattle.a429_console.specs.RefusalText.{IsToldOf, OrMemory}
use Rattle.a429_console.specs.declared.refusals.CommandRefusal.{CommandRefusal}
use Rattle.a429_console.specs.declared.refusals.CommandRefusal.TheVariants as refused

pub or_memory_weaker : (P Q : CommandRefusal → Type 0) (r : CommandRefusal) → (P r → Q r) → OrMemory P r → OrMemory Q r
or_memory_weaker P Q (refused.File name) more p = more p
or_memory_weaker P Q refused.WordText more p = more p
or_memory_weaker P Q refused.Parity more p = more p
or_memory_weaker P Q refused.LabelText more p = more p
or_memory_weaker P Q refused.DataText more p = more p
or_memory_weaker P Q (refused.LineByte place) more p = more p
or_memory_weaker P Q (refused.Filter number) more p = more p
or_memory_weaker P Q (refused.Table kind place) more p = more p
or_memory_weaker P Q (refused.Unfit group source) more p = more p
or_memory_weaker P Q (refused.TooManyBuses group needed) more p = more p
or_memory_weaker P Q (refused.Group name) more p = more p
or_memory_weaker P Q (refused.Script line) more p = more p
or_memory_weaker P Q (refused.LogLine line) more p = more p
or_memory_weaker P Q (refused.Csv line kind) more p = more p
or_memory_weaker P Q (refused.PlanLine line kind) more p = more p
or_memory_weaker P Q refused.Join more p = more p
or_memory_weaker P Q refused.Gate more p = more p
or_memory_weaker P Q refused.Source more p = more p
or_memory_weaker P Q refused.Sink more p = more p
or_memory_weaker P Q refused.TooMuch more p = more p
or_memory_weaker P Q refused.Tolerance more p = more p
or_memory_weaker P Q refused.Apart more p = more p
or_memory_weaker P Q refused.Memory more p = tt

-- what is printed of a refusal is allowed if the refusal is, even if it is that an allocation failed
pub told_or_memory : (P : CommandRefusal → Type 0) (r told : CommandRefusal) → IsToldOf r told → OrMemory P r → OrMemory P told
told_or_memory P r told (inl is) why = subst (OrMemory P) (sym is) why
told_or_memory P r told (inr is) why = subst (OrMemory P) (sym is) tt

pub failed : {X : Type 0} (result : Result X CommandRefusal) (P : X → Type 0) (F : CommandRefusal → Type 0) (e : CommandRefusal) → result ≡ Err e → F e → MatchResult result P F
failed {X = X} result P F e is f = subst (λ (r : Result X CommandRefusal). MatchResult r P F) (sym is) f

pub both_ok : {X E Q : Type 0} (result : Result X E) (P R : X → Type 0) → ((x : X) → P x → Q → R x) → IfOk result P → OnOk result Q → IfOk result R
both_ok (Ok x) P R more p q = more x p q
both_ok (Err e) P R more p q = tt

pub table_fault_refuses : (table : List ℕ) (r : CommandRefusal) → IsTableFault table r → IsTableRefusal table r
table_fault_refuses table (refused.File name) f = absurd f
table_fault_refuses table refused.WordText f = absurd f
table_fault_refuses table refused.Parity f = absurd f
table_fault_refuses table refused.LabelText f = absurd f
table_fault_refuses table refused.DataText f = absurd f
table_fault_refuses table (refused.LineByte place) f = absurd f
table_fault_refuses table (refused.Filter number) f = absurd f
table_fault_refuses table (refused.Table kind place) f = f
table_fault_refuses table (refused.Unfit group source) f = absurd f
table_fault_refuses table (refused.TooManyBuses group needed) f = absurd f
table_fault_refuses table (refused.Group name) f = absurd f
table_fault_refuses table (refused.Script line) f = absurd f
table_fault_refuses table (refused.LogLine line) f = absurd f
table_fault_refuses table (refused.Csv line kind) f = absurd f
table_fault_refuses table (refused.PlanLine line kind) f = absurd f
table_fault_refuses table refused.Join f = absurd f
table_fault_refuses table refused.Gate f = absurd f
table_fault_refuses table refused.Source f = absurd f
table_fault_refuses table refused.Sink f = absurd f
table_fault_refuses table refused.TooMuch f = absurd f
table_fault_refuses table refused.Tolerance f = absurd f
table_fault_refuses table refused.Apart f = absurd f
table_fault_refuses table refused.Memory f = absurd f

pub matched_both : {X : Type 0} (result : Result X CommandRefusal) (P Q : X → Type 0) (F G : CommandRefusal → Type 0) → ((x : X) → P x → Q x) → ((e : CommandRefusal) → F e → G e) → MatchResult result P F → MatchResult result Q G
matched_both (Ok x) P Q F G more other p = more x p
matched_both (Err e) P Q F G more other p = other e p

pub plan_refuses : (table : List ℕ) (t : TableRecord) (r : CommandRefusal) → reading table ≡ Ok t → IsPlanRefusal t r → IsTableRefusal table r
plan_refuses table t (refused.Table kind place) read f = absurd f
plan_refuses table t _ read f = (t, read, f)
