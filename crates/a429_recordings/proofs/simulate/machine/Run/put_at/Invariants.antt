use Rattle.std.proofs.Common.{◌≡◌}
use Rattle.a429_recordings.specs.SimulationRuns.{groups_at}
use Rattle.a429_recordings.specs.declared.simulate.machine.Run.{Run}
use Rattle.a429_recordings.proofs.simulate.machine.Run.put_at.Given as goal

abbrev pub invariant-loop-group : goal.invariant-loop-group
invariant-loop-group l =
    ◌≡◌ {A = Run} l.self (record l.fn.self { state = record l.fn.self.state { groups = groups_at l.fn.self.state.groups l.fn.self.state.newest l.tracks l.group } })
