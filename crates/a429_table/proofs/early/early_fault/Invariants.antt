use Rattle.std.proofs.Common.{◌≡◌, drop, map}
use Rattle.std.specs.List.{flat_map}
use Rattle.toml.specs.View.{view}
use Rattle.a429_table.specs.Early.{early_kinds, shows}
use Rattle.a429_table.specs.Faults.{first}
use Rattle.a429_table.specs.Repeats.{found}
use Rattle.a429_table.specs.Walk.{walk}
use Rattle.a429_table.proofs.early.early_fault.Given as goal

abbrev pub invariant-loop-kind : goal.invariant-loop-kind
invariant-loop-kind l =
    let found_in = flat_map (found (shows l.version) (walk (view l.root))) in
    first (found_in early_kinds) ≡ first (found_in (drop l.kind-index early_kinds))
