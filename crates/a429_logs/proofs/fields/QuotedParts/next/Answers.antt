use Rattle.std.proofs.Common.{rules, ℕ, ◌≡◌}
use Rattle.std.specs.Prelude.{Some, None, false}
use Rattle.std.proofs.lemmas.List.{take_all, length-drop}
use Rattle.a429_logs.specs.LogFields.{first_outside}
use Rattle.a429_logs.proofs.QuotedText.{quoted_some, quoted_none}
use Rattle.a429_logs.proofs.fields.QuotedParts.next.Goals as goal

pub returns-in-Some-clause-taken : goal.returns-in-Some-clause-taken
returns-in-Some-clause-taken c =
    let separator = c.args.self.now.separator in
    let text = c.in_ok-text.text.now in
    let end : ℕ = c.in-Some.end in
    let first : first_outside separator false text ≡ Some end = search rules in
    search (rules, quoted_some separator text end first, take_all, length-drop)

pub returns-in-None-clause-taken : goal.returns-in-None-clause-taken
returns-in-None-clause-taken c =
    let separator = c.args.self.now.separator in
    let text = c.in_ok-text.text.now in
    let none : first_outside separator false text ≡ None = search rules in
    search (rules, quoted_none separator text none)
