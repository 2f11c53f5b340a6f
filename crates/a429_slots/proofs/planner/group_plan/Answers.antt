use Rattle.std.proofs.Common.{◌≡◌, ◌∙◌, ◌/◌, ◌^◌, List, ap, arith, length, map, rules, subst, sym}
use Rattle.std.specs.Prelude.{MatchResult}
use Rattle.std.specs.List.{AllZip}
use Rattle.std.proofs.lemmas.Result.{err_from_is_err_and}
use Rattle.std.proofs.lemmas.Slice.Zip.{AllZip-long}
use Rattle.a429_pack.specs.declared.demands.Demand.{Demand}
use Rattle.a429_pack.specs.Demands.{AreFit, IsLayoutOrder, demand_at, exponents_of, frame_of, period_of}
use Rattle.a429_pack.specs.Layout.{Layout}
use Rattle.a429_pack.specs.Demanded.{AreFewestBuses}
use Rattle.a429_slots.specs.Asked.{IsAsked}
use Rattle.a429_slots.specs.Faults.{IsGroupFault}
use Rattle.a429_slots.specs.Planned.{IsPlannedFor}
use Rattle.a429_slots.specs.Kept.{stretches_of}
use Rattle.a429_slots.specs.Tables.{order_of}
use Rattle.a429_slots.proofs.Planned.{IsMade, layout, planned, group_fault}
use Rattle.a429_slots.proofs.planner.group_plan.Goals as goal
use Rattle.a429_slots.proofs.planner.group_plan.Goals.{After-drop-demands-2}

pub pack-requires : goal.pack-requires
pack-requires g c =
    let long : length c.in-Ok.demands.items ≡ length c.args.outputs.now = AllZip-long (IsAsked c.args.rate c.args.sources.now) c.args.outputs.now c.in-Ok.demands.items c.in-Ok.ensures in
    (search rules, (omega (arith, long, ap length c.deref.ensures.value, c.requires.some), omega (arith, long, ap length c.deref.ensures.value, c.requires.room)))

pub returns-in_err-packed-clause-planned : goal.returns-in_err-packed-clause-planned
returns-in_err-packed-clause-planned g c =
    let asked : AllZip (IsAsked c.args.rate c.args.sources.now) c.args.outputs.now c.deref.result.now =
    subst (λ (ds : List Demand). AllZip (IsAsked c.args.rate c.args.sources.now) c.args.outputs.now ds) (sym c.deref.ensures.value) c.in-Ok.ensures in
    let (fault, is, same) = err_from_is_err_and c.from_residual.result c.from_residual.ensures.1 in
    subst (λ r. MatchResult r (IsPlannedFor c.args.rate c.args.sources.now c.args.outputs.now) (IsGroupFault c.args.rate c.args.outputs.now)) (sym is)
    (subst (IsGroupFault c.args.rate c.args.outputs.now) (sym same) (group_fault c.args.rate c.args.sources.now c.args.outputs.now c.deref.result.now c.in_err-packed.field-0.0 asked c.in_err-packed.ensures.fault))

pub of-requires : goal.of-requires
of-requires g c =
    let l : Layout = c.in_ok-packed.packed in
    let asked : length c.in-Ok.demands.items ≡ length c.args.outputs.now = AllZip-long (IsAsked c.args.rate c.args.sources.now) c.args.outputs.now c.in-Ok.demands.items c.in-Ok.ensures in
    let same : c.deref.result.now ≡ c.deref-2.result.now = c.deref.ensures.value ∙ sym c.deref-2.ensures.value in
    let many : length l.inputs ≡ length c.deref.result.now = (c.orders_name_each_once.ensures (length c.deref.result.now) l.inputs c.in_ok-packed.ensures.order.all).length in
    let long : length c.deref.result.now ≡ length c.args.outputs.now = ap length c.deref.ensures.value ∙ asked in (
      search rules,
      (
        search rules,
        (
          c.requires.room,
          (
            sym long ∙ sym many,
            (
              ap length (sym same) ∙ sym many,
              (
                c.requires.intervals,
                (
                  c.requires.rate,
                  (
                    c.in_ok-packed.ensures.frame ∙ ap frame_of same,
                    c.in_ok-packed.ensures.demands ∙ ap (λ (ds : List Demand). map (λ i. 2 ^ l.frame / period_of (demand_at ds i)) l.inputs) same,
                  ),
                ),
              ),
            ),
          ),
        ),
      ),
    )

made : (g : _) (c : After-drop-demands-2 g) → IsMade g.row.N c.args.rate c.args.sources.now c.args.outputs.now c.deref-2.result.now c.in_ok-packed.packed c.of.result
made g c =
    let l : Layout = c.in_ok-packed.packed in
    let p = c.in_ok-packed.ensures in
    let same : c.deref.result.now ≡ c.deref-2.result.now = c.deref.ensures.value ∙ sym c.deref-2.ensures.value in
    record {
      asked = subst (λ (ds : List Demand). AllZip (IsAsked c.args.rate c.args.sources.now) c.args.outputs.now ds) (sym c.deref-2.ensures.value) c.in-Ok.ensures;
      fit = subst AreFit same p.fit;
      frame = p.frame ∙ ap frame_of same;
      order = subst (λ (ds : List Demand). IsLayoutOrder ds l.inputs) same p.order;
      shares = p.demands ∙ ap (λ (ds : List Demand). map (λ i. 2 ^ l.frame / period_of (demand_at ds i)) l.inputs) same;
      fewest = subst (λ (ds : List Demand). AreFewestBuses (exponents_of ds) l.buses) same p.fewest;
      few = p.few;
      table = c.of.ensures.table;
      least = c.spacings_are_least.ensures.least;
      sound = c.of.ensures.sound;
      inputs = c.orders_name_each_once.ensures (length c.deref-2.result.now) l.inputs (subst (λ (ds : List Demand). IsLayoutOrder ds l.inputs) same p.order).all;
      each = c.orders_name_each_once.ensures (length c.of.result.outputs) (order_of c.of.result) c.of.ensures.sound.order;
      apart = c.stretches_are_apart.ensures.apart (stretches_of c.of.result);
    }

pub returns-clause-planned : goal.returns-clause-planned
returns-clause-planned g c = planned g.row.N c.args.rate c.args.sources.now c.args.outputs.now c.deref-2.result.now c.in_ok-packed.packed c.of.result (made g c)

pub returns-clause-own : goal.returns-clause-own
returns-clause-own g c = layout g.row.N c.args.rate c.args.sources.now c.args.outputs.now c.deref-2.result.now c.in_ok-packed.packed c.of.result (made g c)
