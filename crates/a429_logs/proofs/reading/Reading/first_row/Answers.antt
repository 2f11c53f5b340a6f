use Rattle.std.proofs.Common.{◌≡◌, ◌∙◌, ℕ, rules, sym, take}
use Rattle.std.specs.Prelude.{Ok, Some}
use Rattle.a429_logs.specs.LogRows.{stated_by}
use Rattle.a429_logs.specs.Logs.{shown_line, with_calendar}
use Rattle.a429_logs.specs.QuickRows.{IsPlain, StartsPlain, in_units, plain_shape}
use Rattle.a429_logs.proofs.PlainReadings.{plain_read}
use Rattle.a429_logs.proofs.reading.Reading.first_row.Goals as goal

pub returns-clause-taken : goal.returns-clause-taken
returns-clause-taken c =
    let old = c.args.self.now in
    let text = c.args.text.now in
    let end : ℕ = c.in_ok-word.end in
    let word = c.in_ok-word.word in
    let P : IsPlain old = search rules in
    let S : StartsPlain old.order text end (stated_by word) = c.in_ok-word.ensures in
    let read : shown_line c.counted.new.self (Ok (Some c.in_ok-word-2.word)) ≡ with_calendar old plain_shape (Ok (in_units word)) =
    c.in_ok-word-2.ensures.word plain_shape P.shape P.calendar in
    record { within = S.within; lines = S.lines; read = read ∙ sym (plain_read old (take end text) word P S.stated S.row) }
