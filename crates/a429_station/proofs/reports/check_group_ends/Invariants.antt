use Rattle.std.specs.Prelude.{◌≡◌, drop, map}
use Rattle.a429_station.specs.Faults.{first_fault}
use Rattle.a429_station.proofs.reports.check_group_ends.Given as goal

abbrev pub invariant-loop-place : goal.invariant-loop-place
invariant-loop-place g l =
    (first_fault (map (λ d. d.answer) (drop l.place l.fn.sent.items)) ≡ first_fault (map (λ d. d.answer) l.fn.sent.items)) × (l.sent ≡ l.fn.sent) × (l.station ≡ l.fn.station)
