use Rattle.std.proofs.Common.{◌∙◌, ap}
use Rattle.a429_recordings.proofs.NotedBoxes.{noted_more, span_more}
use Rattle.a429_recordings.proofs.judge.noted.NotedWords.note.Goals as goal

pub invariant_of-self : goal.invariant_of-self
invariant_of-self c =
    let s = c.args.self.now in
    let told = c.push.ensures in
    record {
      noted = rw told (noted_more s.equipment.now s.part.log s.before.value s.judge c.note_word.new.judge s.told c.args.word s.noted c.note_word.ensures);
      spanned = rw told (span_more s.told c.args.word s.span c.with_time-self.result s.spanned c.with_time-self.ensures);
    }
