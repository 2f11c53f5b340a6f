use Rattle.std.proofs.Common.{◌≡◌, ◌∙◌, ap}
use Rattle.std.proofs.lemmas.Option.{same_Some}
use Rattle.std.specs.Borrow.{Bor}
use Rattle.std.specs.Prelude.{None, Option, Some, option_map, unwrap_or}
use Rattle.clap.specs.Words.{Text, first_of, found_of, rows_of}
use Rattle.clap.proofs.WalkLemmas.{first_value-rows}
use Rattle.a429_arguments.proofs.requests.name_in.Goals as goal

-- a text that is there is read as it
name_is : (found : Option (Bor Text)) (default : Bor Text) (text : Text) → option_map (λ t. t.now) found ≡ Some text → (unwrap_or found default).now ≡ text
name_is None default text is = absurd (cc is)
name_is (Some t) default text is = same_Some t.now text is

pub returns-in-Some : goal.returns-in-Some
returns-in-Some c = λ text is.
    let found = found_of c.args.found.now in
    let at : first_of c.in-Some.id.now (rows_of found) ≡ Some text = rw c.in-Some.is at is in
    ap (λ t. t.now) c.unwrap_or.ensures ∙ name_is c.get_str.result _ text (c.get_str.ensures ∙ (first_value-rows found c.in-Some.id.now ∙ at))
