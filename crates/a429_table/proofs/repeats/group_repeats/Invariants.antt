use Rattle.std.proofs.Common.{◌≡◌, ◌++◌, List, map, drop}
use Rattle.a429_equipment.specs.declared.rows.OutputRow.{OutputRow}
use Rattle.a429_table.specs.Repeats.{repeats_among, output_words}
use Rattle.a429_table.proofs.repeats.group_repeats.Given as goal

abbrev pub invariant-loop-outputs : goal.invariant-loop-outputs
invariant-loop-outputs l =
    let repeats_in = λ (os : List OutputRow). repeats_among 256 (map (output_words l.sources) os) in
    map (λ v. v.items) l.repeats.items ++ map repeats_in (map (λ v. v.items) (drop l.outputs-index l.groups)) ≡ map repeats_in (map (λ v. v.items) l.groups)
