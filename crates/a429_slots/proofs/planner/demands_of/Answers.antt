use borrow.Author.Rules.{scaled_Fits}
use borrow.Author.Count.{falls}
use Rattle.std.proofs.lemmas.List.{take_all}
use Rattle.std.proofs.Common.{List, ◌+◌, ◌<◌, [], get_or, length, refl, subst, sym, take}
use Rattle.std.proofs.lemmas.Option.{slice_get_read}
use Rattle.std.specs.List.{AllZip}
use Rattle.a429_equipment.specs.declared.rows.OutputRow.{OutputRow}
use Rattle.a429_equipment.specs.declared.rows.SourceRow.{SourceRow}
use Rattle.a429_pack.specs.declared.demands.Demand.{Demand}
use Rattle.a429_slots.specs.Asked.{IsAsked}
use Rattle.a429_slots.proofs.Rows.{all_below, blank, zipped_more}
use Rattle.a429_slots.proofs.planner.demands_of.Goals as goal

pub loop-output-init : goal.loop-output-init
loop-output-init c = subst (λ (ds : List Demand). AllZip (IsAsked c.args.rate c.args.sources.now) [] ds) (sym c.new-demands.ensures.items) tt

pub offset_bounds-outputs-output-index : goal.offset_bounds-outputs-output-index
offset_bounds-outputs-output-index c = scaled_Fits _ _ _ c.loop-output-test.true c.well_formed.1.1.1.0.1

pub bounds-sources-output : goal.bounds-sources-output
bounds-sources-output c =
    all_below (λ (o : OutputRow). o.source < length c.args.sources.now) c.args.outputs.now c.loop-output.output-index blank c.loop-output-test.true c.requires

pub offset_bounds-sources-output : goal.offset_bounds-sources-output
offset_bounds-sources-output c = scaled_Fits _ _ _ (bounds-sources-output c) c.well_formed.1.1.0.1

pub loop-output-smaller : goal.loop-output-smaller
loop-output-smaller c = falls (length c.args.outputs.now) c.loop-output.output-index c.loop-output-test.true

pub loop-output-preserved : goal.loop-output-preserved
loop-output-preserved c =
    let sources : List SourceRow = c.args.sources.now in
    let rows : List OutputRow = c.args.outputs.now in
    let n = c.loop-output.output-index in
    let source : SourceRow = c.index-sources-output.result in
    let d : Demand = record { period = c.grid_period-period.result; label = source.label; sdi = source.sdi } in
    let known = all_below (λ (o : OutputRow). o.source < length sources) rows n blank c.loop-output-test.true c.requires in
    let asked : IsAsked c.args.rate sources (get_or rows n blank) d =
    record {
      period = c.grid_period-period.ensures;
      source = source;
      there = slice_get_read sources (length sources) (get_or rows n blank).source source refl known c.index-sources-output.is;
      label = refl;
      sdi = refl;
    } in
    subst (λ (ds : List Demand). AllZip (IsAsked c.args.rate sources) (take (n + 1) rows) ds) (sym c.in_ok-push.ensures.items)
    (zipped_more (IsAsked c.args.rate sources) rows c.loop-output.demands.items n blank d c.loop-output-test.true c.loop-output.invariant asked)

pub returns : goal.returns
returns c =
    subst (λ (rows : List OutputRow). AllZip (IsAsked c.args.rate c.args.sources.now) rows c.loop-output.demands.items)
    (take_all c.loop-output.output-index c.args.outputs.now c.loop-output-test.false) c.loop-output.invariant
