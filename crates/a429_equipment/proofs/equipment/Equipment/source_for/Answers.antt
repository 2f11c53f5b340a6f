use Rattle.std.proofs.Common.{ap, refl}
use Rattle.a429_equipment.specs.TableRecord.{TableRecord}
use Rattle.a429_equipment.proofs.Sorting.{even_parity, none_found, none_passes, source_found}
use Rattle.a429_equipment.proofs.equipment.Equipment.source_for.Goals as goal

pub returns-in_default-clause-sorted : goal.returns-in_default-clause-sorted
returns-in_default-clause-sorted c = even_parity c.args.self.now c.args.receiver c.args.raw c.in_default.ensures.odd.1

pub returns-then-not-passes-clause-sorted : goal.returns-then-not-passes-clause-sorted
returns-then-not-passes-clause-sorted c =
    none_passes c.args.self.now c.args.receiver c.args.raw c.in-Ok.word c.label.result c.self.inside.rows.receivers.items c.index-row.result.now c.passes.result (c.in-Ok.ensures.odd.0 refl) c.in-Ok.ensures.word
    (ap (λ (t : TableRecord). t.receivers) c.self.view_is) c.requires c.index-row.ensures c.label.ensures c.passes.ensures c.if-not-passes.true

pub source_of-requires : goal.source_of-requires
source_of-requires c = c.requires

pub returns-in-Some-clause-sorted : goal.returns-in-Some-clause-sorted
returns-in-Some-clause-sorted c =
    source_found c.args.self.now c.args.receiver c.args.raw c.in-Ok.word c.label.result c.self.inside.rows.receivers.items c.index-row.result.now c.passes.result (c.in-Ok.ensures.odd.0 refl) c.in-Ok.ensures.word
    (ap (λ (t : TableRecord). t.receivers) c.self.view_is) c.requires c.index-row.ensures c.label.ensures c.passes.ensures c.source_of.result c.in-Some.source c.if-not-passes.false c.source_of.ensures c.in-Some.is

pub returns-in-None-clause-sorted : goal.returns-in-None-clause-sorted
returns-in-None-clause-sorted c =
    none_found c.args.self.now c.args.receiver c.args.raw c.in-Ok.word c.label.result c.self.inside.rows.receivers.items c.index-row.result.now c.passes.result (c.in-Ok.ensures.odd.0 refl) c.in-Ok.ensures.word
    (ap (λ (t : TableRecord). t.receivers) c.self.view_is) c.requires c.index-row.ensures c.label.ensures c.passes.ensures c.source_of.result c.if-not-passes.false c.source_of.ensures c.in-None.is
