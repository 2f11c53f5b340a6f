use Rattle.std.proofs.Common.{◌∙◌, ◌+◌, ◌∷◌, Bool, Global, List, Vec, ap, drop, map, refl, sym}
use Rattle.a429_equipment.specs.declared.rows.OutputRow.{OutputRow}
use Rattle.a429_table.specs.Repeats.{group_repeats}
use Rattle.a429_table.proofs.MoreRows.{none_left, none_so_far, one_more_list}
use Rattle.a429_table.proofs.repeats.group_repeats.Goals as goal

pub loop-outputs-init : goal.loop-outputs-init
loop-outputs-init c = none_so_far (λ groups. map (group_repeats c.args.sources.now) (map (λ (v : Vec OutputRow Global). v.items) groups)) c.args.groups.now _ (ap (map (λ (v : Vec Bool Global). v.items)) c.new-repeats.ensures.items)

pub loop-outputs-preserved : goal.loop-outputs-preserved
loop-outputs-preserved c =
    let f = λ (groups : List (Vec OutputRow Global)). map (group_repeats c.args.sources.now) (map (λ (v : Vec OutputRow Global). v.items) groups) in
    one_more_list (λ (v : Vec Bool Global). v.items) f c.args.groups.now c.loop-outputs.outputs-index c.outputs-item.result c.in_ok-output_repeats.field-0 c.loop-outputs.repeats.items _ _ c.loop-outputs-test.true c.outputs-item.is
    (ap (λ (flags : List Bool). flags ∷ f (drop (c.loop-outputs.outputs-index + 1) c.args.groups.now)) (sym (c.in_ok-output_repeats.ensures ∙ ap (group_repeats c.args.sources.now) c.deref.ensures.value))) c.loop-outputs.invariant c.in_ok-push.ensures.items

pub returns : goal.returns
returns c = none_left (λ groups. map (group_repeats c.args.sources.now) (map (λ (v : Vec OutputRow Global). v.items) groups)) c.args.groups.now c.loop-outputs.outputs-index _ _ refl c.loop-outputs-test.false c.loop-outputs.invariant
