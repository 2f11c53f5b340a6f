use Rattle.std.proofs.Common.{◌∙◌, [], ap, sym, subst, inl, inr}
use Rattle.std.specs.Prelude.{Result, Ok, Err}
use Rattle.std.proofs.lemmas.Bool.{cases_Bool}
use Rattle.a429_equipment.specs.Limits.{count_bits}
use Rattle.a429_slots.specs.Tables.{PlanTable, groups_of}
use Rattle.a429_slots.specs.FrameStates.{all_fit}
use Rattle.a429_slots.specs.History.{Opening}
use Rattle.a429_core.specs.MachineStates.{StandsForHistory}
use Rattle.a429_console.specs.Names.{naming_of}
use Rattle.a429_c.specs.Stations.{Held}
use Rattle.a429_c.proofs.KeptTables.{opened_newest, opened_tables}
use Rattle.a429_c.proofs.machine.build.Goals as goal

abbrev is_ok : {X E : Type 0} → Result X E → Type 0
is_ok (Ok x) = Unit {0}
is_ok (Err e) = ⊥

pub invariant_of-machine : goal.invariant_of-machine
invariant_of-machine c =
    let o : Opening = record { proposal = c.in_ok-proposal.proposal; first = c.args.first } in let S = c.in-Ok-open.ensures.stands in (
      c.in-Ok.ensures ∙ (ap (λ (p : PlanTable). groups_of p) c.plan.ensures.plan ∙ opened_tables o c.in-Ok-open.state S),
      c.in-Ok-slot_tables_of.ensures ∙ (ap (λ (p : PlanTable). groups_of p) c.plan-2.ensures.plan ∙ opened_newest o c.in-Ok-open.state S),
    )

pub returns-in-Ok-new : goal.returns-in-Ok-new
returns-in-Ok-new c =
    let q = c.in_ok-proposal.proposal in let made = c.in-Ok-new.ensures.ok in record {
      proposal = q;
      proposed = (c.in_ok-proposal.ensures).0;
      small = (c.in_ok-proposal.ensures).1;
      fits = elim (cases_Bool (all_fit c.args.first (groups_of q.plan))) [
        | inl fit ↦ fit
        | inr unfit ↦ absurd (subst is_ok (c.in-Ok-open.ensures.spent.1 unfit) tt)
      ];
      names = ap (λ (m : Held). m.names) made ∙ ap naming_of (c.in-Ok-copied.ensures ∙ c.equipment.ensures.equipment);
      stands = subst (λ (m : Held). StandsForHistory count_bits (record { proposal = q; first = c.args.first }) [] m.state) (sym made) c.in-Ok-open.ensures.stands;
    }
