use Rattle.std.proofs.Common.{rules, ◌<◌, ◌^◌, refl, sym, subst, ℕ}
use Rattle.std.specs.Prelude.{IfOk, IfErr}
use Rattle.a429_station.specs.Resubmitting.{GoesOn, Running, Publishes, IsReplanFault, IsLed, of_board}
use Rattle.a429_station.specs.declared.station.ReplanFault.{ReplanFault}
use Rattle.a429_station.proofs.Plans.{led_on, one_further, publishes, refused, GoesOn-refl}
use Rattle.a429_station.proofs.station.Station.resubmit_read.Goals as goal
use Rattle.a429_station.proofs.station.Station.resubmit_read.Goals.{in-Ok-publish, in-Err-publish}

pub returns-in-Err-clause-fault : goal.returns-in-Err-clause-fault
returns-in-Err-clause-fault g c =
    subst (λ (v : Running). IsReplanFault v c.args.table.now c.in-Err.fault) c.self.view_is (c.in-Err.ensures.fault c.self.inside.planner)

pub invariant_of-self : goal.invariant_of-self
invariant_of-self g c =
    let told = c.in-Ok.ensures.plan in
    let old : Running = record { station = c.self.inside.equipment.now; planner = c.self.inside.planner } in
    let new : Running = record { station = c.self.inside.equipment.now; planner = c.publish.new.self } in
    elim c.match-publish.branch [
      | in-Ok-publish w ↦
          let n = w.in-Ok-publish.number in
          let e = w.in-Ok-publish.ensures in
          let fits : n < 2 ^ 64 = search rules in
          led_on old new c.args.table.now n (publishes old new c.args.table.now told.0 c.in-Ok.plan n told.1 told.2 e.next e.list e.last e.book refl) fits c.self.invariant
      | in-Err-publish w ↦ subst IsLed (search rules) c.self.invariant
    ]

pub returns-clause-published : goal.returns-clause-published
returns-clause-published g c =
    let told = c.in-Ok.ensures.plan in
    let old : Running = record { station = c.self.inside.equipment.now; planner = c.self.inside.planner } in
    let new : Running = record { station = c.self.inside.equipment.now; planner = c.publish.new.self } in
    elim c.match-publish.branch [
      | in-Ok-publish w ↦
          let n = w.in-Ok-publish.number in
          let e = w.in-Ok-publish.ensures in
          let done = publishes old new c.args.table.now told.0 c.in-Ok.plan n told.1 told.2 e.next e.list e.last e.book refl in
          subst (λ r. IfOk r (λ (k : ℕ). Publishes c.args.self.now c.args.table.now k new)) (sym w.result-is) (subst (λ (v : Running). Publishes v c.args.table.now n new) c.self.view_is done)
      | in-Err-publish w ↦ subst (λ r. IfOk r (λ (k : ℕ). Publishes c.args.self.now c.args.table.now k new)) (sym w.result-is) tt
    ]

pub returns-clause-fault : goal.returns-clause-fault
returns-clause-fault g c =
    let told = c.in-Ok.ensures.plan in
    let old : Running = record { station = c.self.inside.equipment.now; planner = c.self.inside.planner } in
    elim c.match-publish.branch [
      | in-Ok-publish w ↦ subst (λ r. IfErr r (IsReplanFault c.args.self.now c.args.table.now)) (sym w.result-is) tt
      | in-Err-publish w ↦
          let why = refused old c.args.table.now told.0 told.1 w.in-Err-publish.fault w.in-Err-publish.ensures.fault in
          subst (λ r. IfErr r (IsReplanFault c.args.self.now c.args.table.now)) (sym w.result-is)
          (subst (λ (f : ReplanFault). IsReplanFault c.args.self.now c.args.table.now f) (sym w.from.ensures)
          (subst (λ (v : Running). IsReplanFault v c.args.table.now (of_board w.in-Err-publish.fault)) c.self.view_is why))
    ]

pub returns-in-Err-clause-after : goal.returns-in-Err-clause-after
returns-in-Err-clause-after g c = subst (λ (v : Running). GoesOn c.args.self.now v) (search rules) (GoesOn-refl c.args.self.now)

pub returns-clause-after : goal.returns-clause-after
returns-clause-after g c =
    let told = c.in-Ok.ensures.plan in
    let old : Running = record { station = c.self.inside.equipment.now; planner = c.self.inside.planner } in
    let new : Running = record { station = c.self.inside.equipment.now; planner = c.publish.new.self } in
    elim c.match-publish.branch [
      | in-Ok-publish w ↦
          let n = w.in-Ok-publish.number in
          let e = w.in-Ok-publish.ensures in
          let done = publishes old new c.args.table.now told.0 c.in-Ok.plan n told.1 told.2 e.next e.list e.last e.book refl in
          subst (λ (v : Running). GoesOn v new) c.self.view_is (one_further old new c.args.table.now n done)
      | in-Err-publish w ↦ subst (λ (v : Running). GoesOn c.args.self.now v) (search rules) (GoesOn-refl c.args.self.now)
    ]
