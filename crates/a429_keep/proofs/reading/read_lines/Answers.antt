use Rattle.std.proofs.Common.{rules, ◌≡◌, ◌≢◌, ◌∷◌, ◌∙◌, ℕ, List, ap, arith, drop, length, sym}
use Rattle.a429_cert.specs.Lines.{lines_of}
use Rattle.a429_keep.specs.Readings.{read_of, rows_in, number_after}
use Rattle.a429_keep.proofs.TextLines.{lines_cons, lines_none, read_stops, rows_end, rows_more}
use Rattle.a429_keep.proofs.reading.read_lines.Goals as goal

pub returns-in-Err-clause-fault : goal.returns-in-Err-clause-fault
returns-in-Err-clause-fault c =
    let text : List ℕ = c.loop-lines.lines.rest.now in
    let some : length text ≢ 0 = search rules in
    let whole : lines_of text ≡ c.next_line.result.now ∷ drop 1 (lines_of text) =
    lines_cons text some ∙ ap (λ (l : List ℕ). l ∷ drop 1 (lines_of text)) (sym c.next_line.ensures.line) in
    rw c.fault_at.ensures
    (read_stops c.args.equipment.now c.args.form c.loop-lines.number (read_of c.loop-lines.reading) (lines_of text) (drop 1 (lines_of text)) c.next_line.result.now (read_of c.take_line.new.self) c.in-Err.stop _ whole c.in-Err.ensures.taken c.loop-lines.invariant.rest)

pub loop-lines-smaller : goal.loop-lines-smaller
loop-lines-smaller c =
    let text : List ℕ = c.loop-lines.lines.rest.now in
    let some : length text ≢ 0 = search rules in
    let whole : lines_of text ≡ c.next_line.result.now ∷ drop 1 (lines_of text) =
    lines_cons text some ∙ ap (λ (l : List ℕ). l ∷ drop 1 (lines_of text)) (sym c.next_line.ensures.line) in
    omega (arith, ap length whole, ap length c.next_line.ensures.rest)

pub loop-lines-preserved : goal.loop-lines-preserved
loop-lines-preserved c =
    let text : List ℕ = c.loop-lines.lines.rest.now in
    let some : length text ≢ 0 = search rules in
    let whole : lines_of text ≡ c.next_line.result.now ∷ drop 1 (lines_of text) =
    lines_cons text some ∙ ap (λ (l : List ℕ). l ∷ drop 1 (lines_of text)) (sym c.next_line.ensures.line) in
    let e = c.args.equipment.now in
    let taken = c.in-Ok.ensures.taken in
    record {
      rest = ap (λ (n : ℕ). rows_in e c.args.form n (read_of c.take_line.new.self) (lines_of c.next_line.new.self.rest.now)) c.saturating_add-number.ensures
          ∙ ap (rows_in e c.args.form (number_after c.loop-lines.number) (read_of c.take_line.new.self)) c.next_line.ensures.rest
          ∙ sym (rows_more e c.args.form c.loop-lines.number (read_of c.loop-lines.reading) (lines_of text) (drop 1 (lines_of text)) c.next_line.result.now (read_of c.take_line.new.self) whole taken)
          ∙ c.loop-lines.invariant.rest;
      periods = c.take_line.ensures.periods;
    }

pub returns-clause-read : goal.returns-clause-read
returns-clause-read c =
    let text : List ℕ = c.loop-lines.lines.rest.now in
    let none : length text ≡ 0 = search rules in
    sym c.loop-lines.invariant.rest ∙ rows_end c.args.equipment.now c.args.form c.loop-lines.number (read_of c.loop-lines.reading) (lines_of text) (lines_none text none)
