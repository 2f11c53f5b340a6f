use Rattle.std.proofs.Common.{◌<◌, ◌^◌, All, List, subst, sym}
use Rattle.a429_cert.specs.declared.due.DueGroup.{DueGroup}
use Rattle.a429_cert.specs.Faults.{IsModest, due}
use Rattle.a429_cert.proofs.table_lines.check_lines.Goals as goal

pub check_groups-requires-clause-modest : goal.check_groups-requires-clause-modest
check_groups-requires-clause-modest c = subst (λ (gs : List DueGroup). All IsModest gs) (sym c.deref.ensures.value) c.requires.modest

pub check_groups-requires-clause-fits : goal.check_groups-requires-clause-fits
check_groups-requires-clause-fits c = subst (λ (gs : List DueGroup). due gs < 2 ^ 63) (sym c.deref.ensures.value) c.requires.fits

pub check_groups-requires-2-clause-modest : goal.check_groups-requires-2-clause-modest
check_groups-requires-2-clause-modest c = subst (λ (gs : List DueGroup). All IsModest gs) (sym c.deref-2.ensures.value) c.requires.modest

pub check_groups-requires-2-clause-fits : goal.check_groups-requires-2-clause-fits
check_groups-requires-2-clause-fits c = subst (λ (gs : List DueGroup). due gs < 2 ^ 63) (sym c.deref-2.ensures.value) c.requires.fits
