use Rattle.a429_survey.proofs.Kept.{place_inside}
use Rattle.a429_survey.proofs.Places.{named_found, named_new, noted_found, noted_new}
use Rattle.a429_survey.proofs.names.note_word.Goals as goal

pub returns-then-is_at-clause-noted : goal.returns-then-is_at-clause-noted
returns-then-is_at-clause-noted c =
    noted_found c.args.time c.args.raw c.args.name.now c.args.lines.now.items c.deref.result.now c.note_at.new.lines.items c.args.last c.requires c.deref.ensures.value
    (c.is_at.ensures.yes c.if-is_at.true) c.in_ok-note_at.ensures.noted

pub returns-then-is_at-clause-named : goal.returns-then-is_at-clause-named
returns-then-is_at-clause-named c =
    named_found c.args.name.now c.args.lines.now.items c.deref.result.now c.args.last c.requires c.deref.ensures.value (c.is_at.ensures.yes c.if-is_at.true)

pub note_at-requires-then-is_at-2 : goal.note_at-requires-then-is_at-2
note_at-requires-then-is_at-2 c =
    place_inside c.args.lines.now.items c.place_for-place.result c.args.name.now (rw c.deref-3.ensures.value at (c.is_at-2.ensures.yes c.if-is_at-2.true))

pub returns-then-is_at-2-clause-noted : goal.returns-then-is_at-2-clause-noted
returns-then-is_at-2-clause-noted c =
    noted_found c.args.time c.args.raw c.args.name.now c.args.lines.now.items c.deref-3.result.now c.note_at-then-is_at-2.new.lines.items c.place_for-place.result c.requires
    c.deref-3.ensures.value (c.is_at-2.ensures.yes c.if-is_at-2.true) c.in_ok-note_at-2.ensures.noted

pub returns-then-is_at-2-clause-named : goal.returns-then-is_at-2-clause-named
returns-then-is_at-2-clause-named c =
    named_found c.args.name.now c.args.lines.now.items c.deref-3.result.now c.place_for-place.result c.requires c.deref-3.ensures.value
    (c.is_at-2.ensures.yes c.if-is_at-2.true)

pub returns-clause-noted : goal.returns-clause-noted
returns-clause-noted c =
    noted_new c.args.time c.args.raw c.args.name.now c.args.lines.now.items c.deref-3.result.now c.deref-2.result.now c.insert.new.self.items c.place_for-place.result
    c.in_ok-line.line c.deref-2.ensures.value c.deref-3.ensures.value c.place_for-place.ensures.value (c.is_at-2.ensures.no c.if-is_at-2.false) c.in_ok-line.ensures
    c.in_ok-insert.ensures.items

pub returns-clause-named : goal.returns-clause-named
returns-clause-named c =
    named_new c.args.name.now c.args.lines.now.items c.deref-3.result.now c.deref-2.result.now c.place_for-place.result c.deref-2.ensures.value c.deref-3.ensures.value
    c.place_for-place.ensures.value c.place_for-place.ensures.within (c.is_at-2.ensures.no c.if-is_at-2.false)
