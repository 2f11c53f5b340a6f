use Rattle.std.proofs.Common.{◌∙◌, sym}
use Rattle.toml.specs.View.{view}
use Rattle.a429_table.specs.declared.fault.FaultKind.{FaultKind}
use Rattle.a429_table.specs.declared.fault.TablePlace.{TablePlace}
use Rattle.a429_table.specs.Faults.{faults}
use Rattle.a429_table.proofs.Documents.{judged_fault}
use Rattle.a429_table.proofs.EarlyFaults.{early_is_first}
use Rattle.a429_table.proofs.reading.equipment_of_root.Goals as goal

pub returns-in-Some : goal.returns-in-Some
returns-in-Some c =
    let root = view c.args.root.now in
    let fault : FaultKind × TablePlace = (c.in-Some.kind, c.in-Some.place) in
    judged_fault root (faults root) fault (early_is_first root fault (sym c.early_fault.ensures ∙ c.in-Some.is))
