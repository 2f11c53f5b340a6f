use Rattle.std.proofs.Common.{◌∙◌, arith}
use Rattle.a429_equipment.proofs.IndexPlaces.{words_more}
use Rattle.a429_equipment.proofs.index.note_source.Goals as goal

pub loop-sdi-preserved : goal.loop-sdi-preserved
loop-sdi-preserved c =
    let places = c.loop-sdi.places.items in (
      c.note_words.ensures.size ∙ c.loop-sdi.invariant.0,
      λ r label k small less.
          rw (c.note_words.ensures.words, c.new.ensures)
          (words_more c.args.places.now.items places c.args.number c.args.source.now c.loop-sdi.sdi (omega arith) c.note_words.ensures.label (omega (arith, c.loop-sdi.invariant.0, c.requires.known)) c.loop-sdi.invariant.1 r label k small less),
    )
