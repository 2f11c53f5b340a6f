use Rattle.std.proofs.Common.{◌++◌, ◌∷◌, [], rules, subst, sym}
use Rattle.std.proofs.lemmas.Result.{on_ok_weaker}
use Rattle.a429_text.specs.declared.csv_line.CsvLine.{CsvLine}
use Rattle.a429_import.specs.declared.reading.LinesRead.{LinesRead}
use Rattle.a429_import.specs.ImportReading.{AreRead, SayRows}
use Rattle.a429_import.proofs.ImportReading.{line_read, line_skipped, unfaulted}
use Rattle.a429_import.proofs.reading.take_line.Goals as goal

pub returns-then-is_none : goal.returns-then-is_none
returns-then-is_none c = λ below known.
    let heading : CsvLine = c.args.heading.now.line in
    let old : LinesRead = c.args.read.now in
    let new : LinesRead = record { known = c.take_row_or_note-taken.new.read.known; notes = c.take_row_or_note-taken.new.read.notes; kept = c.take_row_or_note-taken.new.read.kept; fault = c.err-read.result } in
    let there : SayRows heading below old = unfaulted heading old.fault old below c.if-is_none.ensures known in
    subst (λ f. AreRead f new heading (below ++ c.args.line.now ∷ [])) (sym c.err-read.ensures.value)
    (line_read heading c.args.line.now old new below c.take_row_or_note-taken.result there (c.take_row_or_note-taken.ensures.taken below there.are)
    (on_ok_weaker c.take_row_or_note-taken.result (λ keeps. keeps below there.kept) c.take_row_or_note-taken.ensures.kept))

pub returns-else-is_none : goal.returns-else-is_none
returns-else-is_none c = λ below known. line_skipped c.args.heading.now.line c.args.line.now c.args.read.now.fault c.args.read.now c.args.read.now below (search rules) known
