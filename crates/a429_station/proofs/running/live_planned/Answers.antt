use Rattle.std.proofs.Common.{arith, ◌≡◌, ◌∙◌, ◌∷◌, [], List, ap, inl, length, refl, rules, subst, sym}
use Rattle.std.proofs.lemmas.List.Elements.{recursion_from_All}
use Rattle.std.proofs.lemmas.Result.{IfOk-weaker}
use Rattle.std.specs.Prelude.{All}
use Rattle.std.specs.List.{AllByRecursion}
use Rattle.a429_workers.specs.Gates.{points_of}
use Rattle.a429_board.specs.Lists.{Planning, Watched, beginner}
use Rattle.a429_slots.specs.Tables.{PlanTable}
use Rattle.a429_slots.specs.Planned.{IsPlanOf}
use Rattle.a429_station.specs.Course.{asked}
use Rattle.a429_station.specs.Faults.{IsLiveFault, IsRunFault}
use Rattle.a429_station.specs.Resubmitting.{IsBegun, Running}
use Rattle.a429_station.specs.declared.faults.LiveFault.TheVariants.{NoMemory}
use Rattle.a429_station.proofs.Stopping.{live_fault, no_memory, weaker}
use Rattle.a429_station.proofs.running.live_planned.Goals as goal

pub returns-in_default-clause-fault : goal.returns-in_default-clause-fault
returns-in_default-clause-fault g c =
    no_memory (c.args.control.now ≡ c.args.control.now) g.L.LineSource g.B.BusSink (points_of g.G.Gate c.args.gate.now) (asked c.args.equipment.now c.args.frames c.args.sources.items c.args.sinks.items)
    (record { plan = c.args.plan; planned = c.requires.planned; few = search rules }) refl NoMemory refl

pub of_planner-station-requires-clause-planned : goal.of_planner-station-requires-clause-planned
of_planner-station-requires-clause-planned g c = subst (IsPlanOf c.args.equipment.now) (sym c.in-Ok.ensures.planner.1) c.requires.planned

pub of_planner-station-requires-clause-first : goal.of_planner-station-requires-clause-first
of_planner-station-requires-clause-first g c = c.in-Ok.ensures.planner.0 ∙ ap (λ (p : PlanTable). p ∷ []) (sym c.in-Ok.ensures.planner.1)

pub run-answer-requires-clause-station : goal.run-answer-requires-clause-station
run-answer-requires-clause-station g c κs lives = ap (λ (r : Running). r.station) c.of_planner-station.ensures

pub run-answer-requires-clause-begun : goal.run-answer-requires-clause-begun
run-answer-requires-clause-begun g c κs lives =
    subst IsBegun (sym c.of_planner-station.ensures) (record {
      planned = subst (IsPlanOf c.args.equipment.now) (sym c.in-Ok.ensures.planner.1) c.requires.planned;
      first = c.in-Ok.ensures.planner.0 ∙ ap (λ (p : PlanTable). p ∷ []) (sym c.in-Ok.ensures.planner.1);
    })

pub returns-clause-told : goal.returns-clause-told
returns-clause-told g c = c.run-answer.ensures.ran

pub returns-clause-ran : goal.returns-clause-ran
returns-clause-ran g c = IfOk-weaker c.run-answer.result _ _ (λ report ran. ran.0) c.run-answer.ensures.ran

pub returns-clause-fault : goal.returns-clause-fault
returns-clause-fault g c =
    let idle = c.run-answer.new.control ≡ c.args.control.now in
    let gate = points_of g.G.Gate c.args.gate.now in
    let ask = asked c.args.equipment.now c.args.frames c.args.sources.items c.args.sinks.items in
    weaker (IsRunFault idle g.L.LineSource g.B.BusSink gate ask) (IsLiveFault idle g.L.LineSource g.B.BusSink gate ask) c.run-answer.result
    (live_fault idle g.L.LineSource g.B.BusSink gate ask (record { plan = c.args.plan; planned = c.requires.planned; few = search rules })) c.run-answer.ensures.fault

pub returns-then-frames-gt-FRAMES-clause-ran : goal.returns-then-frames-gt-FRAMES-clause-ran
returns-then-frames-gt-FRAMES-clause-ran g c = tt

pub returns-then-frames-gt-FRAMES-clause-told : goal.returns-then-frames-gt-FRAMES-clause-told
returns-then-frames-gt-FRAMES-clause-told g c = tt

pub returns-then-frames-gt-FRAMES-clause-fault : goal.returns-then-frames-gt-FRAMES-clause-fault
returns-then-frames-gt-FRAMES-clause-fault g c = inl (c.args.plan, c.requires.planned, c.if-frames-gt-FRAMES.true)

pub returns-in_default-clause-ran : goal.returns-in_default-clause-ran
returns-in_default-clause-ran g c = tt

pub returns-in_default-clause-told : goal.returns-in_default-clause-told
returns-in_default-clause-told g c = tt

pub run-answer-requires-clause-sources : goal.run-answer-requires-clause-sources
run-answer-requires-clause-sources g c κs lives = c.requires.sources

pub run-answer-requires-clause-sinks : goal.run-answer-requires-clause-sinks
run-answer-requires-clause-sinks g c κs lives = c.requires.sinks

-- watchers that are at the first plan are at the beginning of the board
all_begin : (p : Planning) (plan : PlanTable) (ws : List Watched) → p.list ≡ plan ∷ [] → p.last ≡ plan → All (λ w. w ≡ record { book = p.book; list = plan ∷ []; opened = plan }) ws → AllByRecursion (λ w. w ≡ beginner p) ws
all_begin p plan ws list last all =
    let at : List PlanTable → PlanTable → Watched = λ l q. record { book = p.book; list = l; opened = q } in
    recursion_from_All (λ w. w ≡ beginner p) ws (λ k d below. all k d below ∙ (ap (λ (l : List PlanTable). at l plan) (sym list) ∙ ap (λ (q : PlanTable). at p.list q) (sym last)))

pub run-answer-requires-clause-watchers : goal.run-answer-requires-clause-watchers
run-answer-requires-clause-watchers g c κs lives =
    subst (λ (s : Running). AllByRecursion (λ w. w ≡ beginner s.planner) c.in-Ok.opened.1.items) (sym c.of_planner-station.ensures)
    (all_begin c.in-Ok.opened.0 c.args.plan c.in-Ok.opened.1.items c.in-Ok.ensures.planner.0 c.in-Ok.ensures.planner.1 c.in-Ok.ensures.watchers.1)

pub run-answer-requires-clause-enough : goal.run-answer-requires-clause-enough
run-answer-requires-clause-enough g c κs lives = omega (arith, c.requires.sinks, c.in-Ok.ensures.watchers.0, c.max-watchers.ensures, ap length c.groups.ensures.rows)
