use Rattle.std.proofs.Common.{◌≡◌, ◌∙◌, [], ℕ, zero, suc, List, ap, length, refl, replicate, subst, sym}
use Rattle.std.proofs.lemmas.List.{length-replicate}
use Rattle.a429_equipment.specs.Sound.{IsSound}
use Rattle.a429_slots.specs.Planned.{IsPlanOf}
use Rattle.a429_slots.specs.Proposed.{Proposed}
use Rattle.a429_core.specs.MachineStates.{StandsForHistory}
use Rattle.a429_recordings.specs.Simulating.{times_of}
use Rattle.a429_recordings.specs.SimulationRuns.{heard_at, unheard}
use Rattle.a429_recordings.specs.declared.simulate.machine.Heard.{Heard}
use Rattle.a429_recordings.proofs.simulate.machine.Run.open.Goals as goal

pub open_machine-requires : goal.open_machine-requires
open_machine-requires c = subst (λ (p : Proposed). IsPlanOf p.station p.plan) (sym c.in_ok-copied.ensures) c.equipment-equipment.ensures.own

none_heard : (n i : ℕ) → heard_at (replicate {A = Heard} n unheard) i ≡ unheard
none_heard zero i = refl
none_heard (suc n) zero = refl
none_heard (suc n) (suc i) = none_heard n i

pub returns : goal.returns
unfolding times_of
returns c =
    let q : Proposed = c.args.proposal.now in
    let count : length c.sources.result.now ≡ length q.station.sources = ap length c.sources.ensures.rows ∙ ap (λ t. length t.sources) c.equipment-equipment.ensures.equipment in
    let kept : c.in_ok-heard.heard.items ≡ replicate (length q.station.sources) unheard =
    c.in_ok-heard.ensures.items_if_clones_equal (λ y h. h) ∙ ap (λ (n : ℕ). replicate n unheard) count in
    record {
      sound = subst IsSound c.equipment-equipment.ensures.equipment c.rows_are_sound.ensures;
      planned = c.equipment-equipment.ensures.own;
      state = subst (λ (p : Proposed). StandsForHistory 41 (record { proposal = p; first = 0 }) [] c.in_ok-state.state) c.in_ok-copied.ensures c.in_ok-state.ensures;
      many = ap length kept ∙ length-replicate (length q.station.sources) unheard;
      heard = λ i. ap (λ (hs : List Heard). heard_at hs i) kept ∙ none_heard (length q.station.sources) i;
    }
