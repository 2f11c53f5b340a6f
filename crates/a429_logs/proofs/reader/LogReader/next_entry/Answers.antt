use Rattle.std.proofs.Common.{◌≡◌, ◌∙◌, ◌∷◌, ℕ, List, length, rules, sym, subst, ap, arith}
use Rattle.std.specs.Prelude.{Err, None, Ok, Option, Result, Some}
use Rattle.a429_logs.specs.LogDates.{or_second}
use Rattle.a429_logs.specs.LogRows.{stated_by}
use Rattle.a429_logs.specs.Logs.{WordAt, read_line, reading_past}
use Rattle.a429_logs.specs.LogPieces.{TakesHere, left_in}
use Rattle.a429_logs.specs.LogsLeft.{GoesOn, TailGoesOn, entries_left, entry_of, lines_left, reading_left, tail_from, tail_left}
use Rattle.a429_logs.specs.declared.reader.LogFault.{LogFault}
use Rattle.a429_logs.specs.declared.reading.Reading.{Reading}
use Rattle.a429_logs.proofs.JoinedPieces.{lines-ended, taken-here}
use Rattle.a429_logs.proofs.ReadEntries.{entries-first, past-first, tail-first, word-first}
use Rattle.a429_logs.proofs.reader.LogReader.next_entry.Goals as goal

pub loop-line-smaller : goal.loop-line-smaller
loop-line-smaller c =
    let taken : lines_left c.loop-line.self ≡ (c.in-Some.line, c.in-Some.text.now) ∷ left_in c.next_here.new.self = search rules in
    omega (arith, ap (λ (lines : List (ℕ × List ℕ)). length lines) taken)

pub loop-line-preserved : goal.loop-line-preserved
loop-line-preserved c =
    let taken : lines_left c.loop-line.self ≡ (c.in-Some.line, c.in-Some.text.now) ∷ left_in c.next_here.new.self = search rules in
    let read : record { next = c.read.new.self; states = Ok None } ≡ read_line c.loop-line.self.reading c.in-Some.text.now = search rules in
    let left = tail-first _ _ _ _ _ _ taken read in
    record {
      entries = sym (entries-first _ _ _ _ _ _ taken read) ∙ c.loop-line.invariant.entries;
      after = sym (past-first _ _ _ _ _ _ taken read) ∙ c.loop-line.invariant.after;
      tail = sym (ap (λ (tail : Option ℕ). or_second c.loop-line.self.passed.tail tail) left)
          ∙ c.loop-line.invariant.tail;
      titles = c.loop-line.invariant.titles;
      pieces = c.next_here.ensures.pieces ∙ c.loop-line.invariant.pieces;
      piece = c.next_here.ensures.next ∙ c.loop-line.invariant.piece;
    }

pub returns-in-Ok-Some-clause-taken : goal.returns-in-Ok-Some-clause-taken
returns-in-Ok-Some-clause-taken c =
    let taken : lines_left c.loop-line.self ≡ (c.in-Some.line, c.in-Some.text.now) ∷ left_in c.next_here.new.self = search rules in
    let read : record { next = c.read.new.self; states = Ok (Some (stated_by c.in-Ok-Some.word)) } ≡ read_line c.loop-line.self.reading c.in-Some.text.now = search rules in
    sym c.loop-line.invariant.entries
    ∙ entries-first _ _ _ _ _ _ taken read
    ∙ word-first _ _ _ _ c.in-Ok-Some.word-is

pub returns-in-Ok-Some-clause-after : goal.returns-in-Ok-Some-clause-after
returns-in-Ok-Some-clause-after c =
    let taken : lines_left c.loop-line.self ≡ (c.in-Some.line, c.in-Some.text.now) ∷ left_in c.next_here.new.self = search rules in
    let read : record { next = c.read.new.self; states = Ok (Some (stated_by c.in-Ok-Some.word)) } ≡ read_line c.loop-line.self.reading c.in-Some.text.now = search rules in
    sym (past-first _ _ _ _ _ _ taken read) ∙ c.loop-line.invariant.after

pub returns-in-Ok-Some-clause-tail : goal.returns-in-Ok-Some-clause-tail
returns-in-Ok-Some-clause-tail c =
    let taken : lines_left c.loop-line.self ≡ (c.in-Some.line, c.in-Some.text.now) ∷ left_in c.next_here.new.self = search rules in
    let read : record { next = c.read.new.self; states = Ok (Some (stated_by c.in-Ok-Some.word)) } ≡ read_line c.loop-line.self.reading c.in-Some.text.now = search rules in
    let left = tail-first _ _ _ _ _ _ taken read in
    sym (ap (λ (tail : Option ℕ). or_second c.loop-line.self.passed.tail tail) left) ∙ c.loop-line.invariant.tail

pub returns-in-Err-clause-taken : goal.returns-in-Err-clause-taken
returns-in-Err-clause-taken c =
    let taken : lines_left c.loop-line.self ≡ (c.in-Some.line, c.in-Some.text.now) ∷ left_in c.next_here.new.self = search rules in
    let read : record { next = c.read.new.self; states = Err c.in-Err.why } ≡ read_line c.loop-line.self.reading c.in-Some.text.now = search rules in
    let first = sym c.loop-line.invariant.entries ∙ entries-first _ _ _ _ _ _ taken read in
    subst (λ (old : List (Result WordAt LogFault)). TakesHere entry_of c.stop.result old (entries_left c.stop.new.self)) (sym first)
    (taken-here entry_of c.stop.result _ _ c.stop.ensures.taken)

pub returns-in-Err-clause-after : goal.returns-in-Err-clause-after
returns-in-Err-clause-after c =
    let taken : lines_left c.loop-line.self ≡ (c.in-Some.line, c.in-Some.text.now) ∷ left_in c.next_here.new.self = search rules in
    let read : record { next = c.read.new.self; states = Err c.in-Err.why } ≡ read_line c.loop-line.self.reading c.in-Some.text.now = search rules in
    let first = sym c.loop-line.invariant.after ∙ past-first _ _ _ _ _ _ taken read in
    subst (λ (old : Reading). GoesOn c.stop.result old (reading_left c.stop.new.self)) (sym first)
    (c.stop.ensures.after (reading_past c.read.new.self (left_in c.next_here.new.self)))

pub returns-in-Err-clause-tail : goal.returns-in-Err-clause-tail
returns-in-Err-clause-tail c =
    let taken : lines_left c.loop-line.self ≡ (c.in-Some.line, c.in-Some.text.now) ∷ left_in c.next_here.new.self = search rules in
    let read : record { next = c.read.new.self; states = Err c.in-Err.why } ≡ read_line c.loop-line.self.reading c.in-Some.text.now = search rules in
    let left = tail-first _ _ _ _ _ _ taken read in
    let first = sym c.loop-line.invariant.tail ∙ ap (λ (tail : Option ℕ). or_second c.loop-line.self.passed.tail tail) left in
    subst (λ (old : Option ℕ). TailGoesOn c.stop.result old (tail_left c.stop.new.self)) (sym first)
    (c.stop.ensures.tail (tail_from c.read.new.self (left_in c.next_here.new.self)))

pub returns-clause-ended : goal.returns-clause-ended
returns-clause-ended c none last = lines-ended _ (c.next_here.ensures.between c.in_default.is).1 last
