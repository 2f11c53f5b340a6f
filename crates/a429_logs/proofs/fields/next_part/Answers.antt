use Rattle.std.proofs.Common.{rules, ℕ, ◌≡◌}
use Rattle.std.specs.Prelude.{Some, None, position}
use Rattle.std.proofs.lemmas.List.{take_all, length-drop}
use Rattle.a429_logs.specs.LogFields.{is_separator}
use Rattle.a429_logs.proofs.PartsOfText.{parts_some, parts_none}
use Rattle.a429_logs.proofs.fields.next_part.Goals as goal

pub returns-in-Some-clause-taken : goal.returns-in-Some-clause-taken
returns-in-Some-clause-taken c =
    let separator = c.args.separator in
    let text = c.in_ok-text.text.now in
    let end : ℕ = c.in-Some.end in
    let first : position (is_separator separator) text ≡ Some end = search rules in
    search (rules, parts_some (is_separator separator) text end first, take_all, length-drop)

pub returns-in-None-clause-taken : goal.returns-in-None-clause-taken
returns-in-None-clause-taken c =
    let separator = c.args.separator in
    let text = c.in_ok-text.text.now in
    let none : position (is_separator separator) text ≡ None = search rules in
    search (rules, parts_none (is_separator separator) text none)
