-- Lines of events that are played one after another.
use Rattle.std.proofs.Common.{◌≡◌, ◌≢◌, ◌∙◌, ℕ, Bool, true, false, List, [], ◌∷◌, ◌++◌, ◌-◌, refl, sym, ap, subst, append_assoc, append-nil, arith, inl, inr, length, take}
use Rattle.std.specs.Prelude.{Err, IsTrue, Ok, OnOk, Result, Some, slice_get}
use Rattle.std.proofs.lemmas.List.{take_all}
use Rattle.std.proofs.lemmas.Option.{same_Some}
use Rattle.a429_slots.specs.Events.{Event}
use Rattle.a429_slots.specs.History.{Opening}
use Rattle.a429_slots.specs.Proposed.{Proposed}
use Rattle.a429_equipment.specs.Limits.{count_bits}
use Rattle.a429_slots.specs.Answers.{answer}
use Rattle.a429_slots.specs.declared.answers.Answer.{Answer}
use Rattle.a429_core.specs.MachineStates.{GoesOnByEvents, IsWholeEvent, MachineState, StandsForHistory}
use Rattle.a429_core.specs.MachineSteps.{CallsAreAnswered, stepped}
use Rattle.a429_console.specs.Outputs.{ending, memory_refused, status_of}
use Rattle.a429_console.specs.RefusalText.{OrMemory}
use Rattle.a429_console.specs.Names.{Naming}
use Rattle.a429_console.specs.Tables.{IsProposedBy, IsTableRefusal}
use Rattle.a429_console.specs.declared.refusals.CommandRefusal.{CommandRefusal}
use Rattle.a429_console.specs.declared.refusals.CommandRefusal.TheVariants.{Memory}
use Rattle.a429_replay.specs.Views.{told_answer, told_refusal}
use Rattle.a429_replay.specs.declared.views.View.{View}
use Rattle.a429_replay.specs.Playing.{Happens, IsEventOf, Played, PlaysOne, PlaysTable}
use Rattle.a429_replay.specs.Replaying.{IsOutcome, IsPlayed, ReplayInput}
use Rattle.a429_replay.specs.declared.script.ScriptEvent.{ScriptEvent}
use Rattle.a429_replay.specs.declared.script.ScriptEvent.TheVariants.{Publish}

-- one more event
pub played_push : (o : Opening) (view : View) (names : Naming) (further : List (List ℕ)) (E : List Event) (events : List ScriptEvent) (event : ScriptEvent) (M N : List Event) (bytes line : List ℕ)
    → Played o view names further E events M bytes → Happens o view names further M event N line → Played o view names further E (events ++ event ∷ []) N (bytes ++ line)
played_push o view names further E [] event M N bytes line (same, none) h =
    (N, line, [], subst (λ (H : List Event). Happens o view names further H event N line) same h, (refl, refl), ap (λ (bs : List ℕ). bs ++ line) none ∙ sym (append-nil line))
played_push o view names further E (x ∷ xs) event M N bytes line (next, first, rest, here, later, whole) h =
    (next, first, rest ++ line, here, played_push o view names further next xs event M N rest line later h, ap (λ (bs : List ℕ). bs ++ line) whole ∙ append_assoc first rest line)

-- the outcome of an event whose answer the machine gives
pub played_answer : CallsAreAnswered → ((C : ℕ) (e : Event) (v : MachineState) → IsWholeEvent e → GoesOnByEvents C v (e ∷ []) (stepped C v e).1)
    → (view : View) (names : Naming) (further : List (List ℕ)) (event : ScriptEvent) (e : Event) (old new : MachineState) (a : Answer) (before after : List ℕ)
    → IsWholeEvent e → IsEventOf further event e → a ≡ (stepped count_bits old e).0 → new ≡ (stepped count_bits old e).1 → after ≡ before ++ told_answer view names event a
    → PlaysOne view names further event old new before after
played_answer calls goes view names further event e old new a before after whole of answers next line = λ o E s.
    let told : a ≡ answer count_bits o E e = answers ∙ calls count_bits o E e old whole s in (
      E ++ e ∷ [],
      told_answer view names event (answer count_bits o E e),
      inl (e, of, refl, refl),
      subst (λ (v : MachineState). StandsForHistory count_bits o (E ++ e ∷ []) v) (sym next) (goes count_bits e old whole o E s),
      line ∙ ap (λ (given : Answer). before ++ told_answer view names event given) told,
    )

-- what happens when a table is published is what happens when the further table of its number is
happens_among : (o : Opening) (view : View) (names : Naming) (further : List (List ℕ)) (table : List ℕ) (n : ℕ) (E E' : List Event) (line : List ℕ) → slice_get further (n - 1) ≡ Some table
    → Happens o view names (table ∷ []) E (Publish 1) E' line → Happens o view names further E (Publish n) E' line
happens_among o view names further table n E E' line at (inl (e, (t, q, there, is, same), next, text)) =
    inl (e, (table, q, at, subst (λ (x : List ℕ). IsProposedBy x q) (same_Some t table (sym there)) is, same), next, text)
happens_among o view names further table n E E' line at (inr (refusal, (t, there, is), next, text)) =
    inr (refusal, (table, at, subst (λ (x : List ℕ). IsTableRefusal x refusal) (same_Some t table (sym there)) is), next, text)

pub played_among : (view : View) (names : Naming) (further : List (List ℕ)) (table : List ℕ) (n : ℕ) (old new : MachineState) (before after : List ℕ) → slice_get further (n - 1) ≡ Some table
    → PlaysTable view names table old new before after → PlaysOne view names further (Publish n) old new before after
played_among view names further table n old new before after at plays = λ o E s.
    let (E', line, happens, stands, text) = plays o E s in
    (E', line, happens_among o view names further table n E E' line at happens, stands, text)

pub both_on_ok : {X E P Q R : Type 0} (result : Result X E) → (P → Q → R) → OnOk result P → OnOk result Q → OnOk result R
both_on_ok (Ok x) both p q = both p q
both_on_ok (Err e) both p q = tt

other_than_memory : (P : CommandRefusal → Type 0) (refusal : CommandRefusal) → refusal ≢ Memory → OrMemory P refusal → P refusal
other_than_memory P Memory other why = absurd (other refl)
other_than_memory P refusal other why = why

-- the outcome of the publication of a table that is refused
pub played_refusal : (view : View) (names : Naming) (table : List ℕ) (refusal : CommandRefusal) (v : MachineState) (before after : List ℕ) → refusal ≢ Memory → OrMemory (IsTableRefusal table) refusal
    → after ≡ before ++ told_refusal view refusal → PlaysTable view names table v v before after
played_refusal view names table refusal v before after other why line = λ o E s.
    (E, told_refusal view refusal, inr (refusal, (table, refl, other_than_memory (IsTableRefusal table) refusal other why), refl, refl), s, line)

-- the lines of some events, or of all, with their end
pub played_ended : (i : ReplayInput) (v : View) (q : Proposed) (events : List ScriptEvent) (n : ℕ) (lines : List ℕ) (all : Bool) → IsPlayed i v q (take n events) lines → (IsTrue all → n ≡ length events)
    → IsOutcome i v q events (status_of all) (lines ++ ending all)
played_ended i v q events n lines true played whole =
    let every : take n events ≡ events = rw (whole refl) (take_all (length events) events (omega arith)) in
    inl (subst (λ (bytes : List ℕ). IsPlayed i v q events bytes) (sym (append-nil lines)) (rw every at played), refl)
played_ended i v q events n lines false played whole = inr (n, lines, played, refl, sym (append_assoc lines (memory_refused) (10 ∷ [])))
