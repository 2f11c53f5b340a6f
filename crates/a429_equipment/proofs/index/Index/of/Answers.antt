use Rattle.std.proofs.Common.{◌∙◌, arith, rules, sym}
use Rattle.a429_equipment.specs.Index.{has_words}
use Rattle.a429_equipment.proofs.IndexPlaces.{all_noted, none_noted, number_fits, places_fit, source_noted}
use Rattle.a429_equipment.proofs.index.Index.of.Goals as goal

pub overflow_mul-receivers : goal.overflow_mul-receivers
overflow_mul-receivers c = omega arith

pub loop-number-init : goal.loop-number-init
loop-number-init c = (
  sym c.in_ok-places.places.ok.0 ∙ c.in_ok-places.ensures.len,
  λ r label k known small less. none_noted c.in_ok-places.places.items _ _ _ (c.in_ok-places.ensures.items_if_clones_equal (search rules)),
)

pub overflow_cast-number : goal.overflow_cast-number
overflow_cast-number c = number_fits _ _ c.loop-number-test.true c.requires.few_sources

pub note_source-requires-clause-few : goal.note_source-requires-clause-few
note_source-requires-clause-few c =
    (places_fit c.loop-number.places.items c.args.sources.now c.loop-number.number _ c.index-sources-number.result c.requires.known c.loop-number-test.true c.index-sources-number.is c.requires.few_receivers c.loop-number.invariant.0).0

pub note_source-requires-clause-known : goal.note_source-requires-clause-known
note_source-requires-clause-known c =
    (places_fit c.loop-number.places.items c.args.sources.now c.loop-number.number _ c.index-sources-number.result c.requires.known c.loop-number-test.true c.index-sources-number.is c.requires.few_receivers c.loop-number.invariant.0).1

pub loop-number-preserved : goal.loop-number-preserved
loop-number-preserved c = (
  c.note_source.ensures.size ∙ c.loop-number.invariant.0,
  λ r label k known small less.
      source_noted c.loop-number.places.items c.note_source.new.places.items c.loop-number.number c.index-sources-number.result c.args.sources.now r label k c.loop-number-test.true c.index-sources-number.is
      (c.note_source.ensures.given r label k small less) (c.loop-number.invariant.1 r label k known small less),
)

pub returns : goal.returns
returns c = record {
  size = c.loop-number.invariant.0;
  entries = λ r label k known small less.
      all_noted _ (has_words r label k) c.loop-number.number c.args.sources.now c.loop-number-test.false (c.loop-number.invariant.1 r label k known small less);
}
