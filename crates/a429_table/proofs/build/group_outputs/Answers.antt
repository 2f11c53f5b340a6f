use Rattle.std.proofs.Common.{◌∙◌, ◌+◌, ◌∷◌, Global, List, Vec, ap, drop, map, refl, sym}
use Rattle.toml.specs.View.{view}
use Rattle.toml.specs.declared.value.Value.{Value}
use Rattle.a429_equipment.specs.declared.rows.OutputRow.{OutputRow}
use Rattle.a429_table.specs.Stated.{output_row, output_rows}
use Rattle.a429_table.specs.Stops.{table_of}
use Rattle.a429_table.proofs.MoreRows.{none_left, none_so_far, one_more_list}
use Rattle.a429_table.proofs.build.group_outputs.Goals as goal

pub loop-group-init : goal.loop-group-init
loop-group-init c = none_so_far (λ groups. map (output_rows (table_of c.args.index.now)) (map view groups)) c.args.groups.now _ (ap (map (λ (w : Vec OutputRow Global). w.items)) c.new-outputs.ensures.items)

pub loop-group-preserved : goal.loop-group-preserved
loop-group-preserved c =
    let f = λ (groups : List Value). map (output_rows (table_of c.args.index.now)) (map view groups) in
    one_more_list (λ (w : Vec OutputRow Global). w.items) f c.args.groups.now c.loop-group.group-index c.group-item.result c.in_ok-output_rows.field-0 c.loop-group.outputs.items _ _ c.loop-group-test.true c.group-item.is
    (ap (λ (rows : List OutputRow). rows ∷ f (drop (c.loop-group.group-index + 1) c.args.groups.now)) (sym (c.in_ok-output_rows.ensures ∙ ap (map (output_row (table_of c.args.index.now))) c.rows_at.ensures))) c.loop-group.invariant c.in_ok-push.ensures.items

pub returns : goal.returns
returns c = none_left (λ groups. map (output_rows (table_of c.args.index.now)) (map view groups)) c.args.groups.now c.loop-group.group-index _ _ refl c.loop-group-test.false c.loop-group.invariant
