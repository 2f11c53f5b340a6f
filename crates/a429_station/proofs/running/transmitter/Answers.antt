use Rattle.std.proofs.Common.{◌<◌, ◌+◌, ap, subst, sym}
use Rattle.std.specs.List.{AllByRecursion}
use Rattle.std.specs.Prelude.{Err}
use Rattle.a429_values.specs.Ends as ends
use Rattle.a429_values.specs.declared.desk.HubFault.{HubFault}
use Rattle.a429_slots.specs.declared.open_fault.OpenFault.{OpenFault}
use Rattle.a429_station.proofs.Counting.{fits_at_first}
use Rattle.a429_station.proofs.Numbered.{given_more, none_taken}
use Rattle.a429_station.proofs.running.transmitter.Goals as goal

pub unreachable-requires : goal.unreachable-requires
unreachable-requires c = none_taken c.args.group c.args.desk.now.transmitters c.requires.earlier (c.in-Err-AlreadyTaken.ensures.taken.0 (ap (λ (f : HubFault). Err f) c.in-Err-AlreadyTaken.field-0-is))

pub unreachable-requires-in-Err-SlotsSpent : goal.unreachable-requires-in-Err-SlotsSpent
unreachable-requires-in-Err-SlotsSpent c =
    fits_at_first c.args.watcher.opened c.args.group c.requires.planned c.requires.small (c.in-Err-SlotsSpent.ensures.spent.0 (ap (λ (f : OpenFault). Err f) c.in-Err-SlotsSpent.field-0-is))

pub returns-in-Ok-open-clause-given : goal.returns-in-Ok-open-clause-given
returns-in-Ok-open-clause-given c =
    subst (AllByRecursion (λ g. g < c.args.group + 1)) (sym (ap (λ (d : ends.Dealing). d.transmitters) c.in-Ok.ensures.given)) (given_more c.args.group c.args.desk.now.transmitters c.requires.earlier)
