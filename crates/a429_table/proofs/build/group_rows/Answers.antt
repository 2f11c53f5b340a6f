use Rattle.std.proofs.Common.{◌+◌, ◌∷◌, ap, arith, drop, map, refl, sym}
use Rattle.toml.specs.View.{view}
use Rattle.a429_equipment.specs.declared.rows.GroupRow.{GroupRow}
use Rattle.a429_table.specs.Stated.{group_row}
use Rattle.a429_table.proofs.MoreRows.{none_left, none_so_far, one_more}
use Rattle.a429_table.proofs.build.group_rows.Goals as goal

pub loop-table-init : goal.loop-table-init
loop-table-init c = none_so_far (λ tables. map (group_row c.args.rate) (map view tables)) c.args.tables.now c.new-rows.result.items c.new-rows.ensures.items

pub loop-table-preserved : goal.loop-table-preserved
loop-table-preserved c =
    one_more (λ tables. map (group_row c.args.rate) (map view tables)) c.args.tables.now c.loop-table.table-index c.table-item.result c.group_row.result c.loop-table.rows.items _ _ c.loop-table-test.true c.table-item.is
    (ap (λ (row : GroupRow). row ∷ map (group_row c.args.rate) (map view (drop (c.loop-table.table-index + 1) c.args.tables.now))) (sym c.group_row.ensures)) c.loop-table.invariant c.in_ok-push.ensures.items

pub returns : goal.returns
returns c = none_left (λ tables. map (group_row c.args.rate) (map view tables)) c.args.tables.now c.loop-table.table-index c.loop-table.rows.items _ refl (omega arith) c.loop-table.invariant
