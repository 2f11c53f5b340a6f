use Rattle.a429_survey.proofs.Pairs.{noted_found, noted_gap, order_found, order_gap}
use Rattle.a429_survey.proofs.lines.note_pair.Goals as goal

pub returns-in-Ok-clause-order : goal.returns-in-Ok-clause-order
returns-in-Ok-clause-order c =
    order_found c.args.pairs.now.items c.deref.result.now c.place_of-place.result c.in-Ok.index c.index_mut-pair.result.now c.note.new.self c.deref.ensures.value c.requires
    c.in-Ok.ensures.found c.index_mut-pair.ensures.value

pub returns-in-Ok-clause-noted : goal.returns-in-Ok-clause-noted
returns-in-Ok-clause-noted c =
    noted_found c.args.time c.args.raw c.place_of-place.result c.in-Ok.index c.args.pairs.now.items c.deref.result.now c.index_mut-pair.result.now c.note.new.self
    c.place_of-place.ensures.value c.deref.ensures.value c.requires c.in-Ok.ensures.found c.index_mut-pair.ensures.value c.note.ensures

pub returns-in_ok-insert-in-Err-clause-order : goal.returns-in_ok-insert-in-Err-clause-order
returns-in_ok-insert-in-Err-clause-order c =
    order_gap c.args.pairs.now.items c.deref.result.now c.insert.new.self.items c.place_of-place.result c.in-Err.index c.note-in-Err.new.self c.deref.ensures.value c.requires
    c.place_of-place.ensures.within c.in-Err.ensures.absent c.in_ok-insert-in-Err.ensures.items

pub returns-in_ok-insert-in-Err-clause-noted : goal.returns-in_ok-insert-in-Err-clause-noted
returns-in_ok-insert-in-Err-clause-noted c =
    noted_gap c.args.time c.args.raw c.place_of-place.result c.in-Err.index c.args.pairs.now.items c.deref.result.now c.insert.new.self.items c.none-figures.result c.note-in-Err.new.self
    c.place_of-place.ensures.value c.deref.ensures.value c.in-Err.ensures.absent c.none-figures.ensures c.note-in-Err.ensures c.in_ok-insert-in-Err.ensures.items
