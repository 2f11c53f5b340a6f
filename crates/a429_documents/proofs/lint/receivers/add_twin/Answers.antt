use Rattle.std.proofs.Common.{◌≡◌, ◌∷◌, ◌++◌, ◌∙◌, [], ℕ, Bool, true, List, ap, sym}
use Rattle.std.specs.Prelude.{◌&&◌, codes, if◌then◌else◌, nat_lt}
use Rattle.a429_text.specs.Fields.{Field, Text, Absent}
use Rattle.a429_documents.specs.Lint.{are_twins, receiver_row}
use Rattle.a429_documents.proofs.lint.receivers.add_twin.Goals as goal

pub returns : goal.returns
returns c =
    let r = c.args.receiver.now in
    let other = c.args.other.now in
    let found : List (List Field) = c.args.found.now in
    let row : List ℕ → List ℕ → List (List Field) = λ n m. receiver_row (codes "same-filters") n (Text m) Absent ∷ [] in
    let test : (nat_lt c.args.number c.args.later && are_twins r other) ≡ true = sym c.is_later_twin.ensures ∙ c.if-not-is_later_twin.false in
    c.add_finding.ensures
    ∙ ap (λ (n : List ℕ). found ++ row n c.as_str.result.now) c.as_str-name.ensures
    ∙ ap (λ (m : List ℕ). found ++ row r.name m) c.as_str.ensures
    ∙ ap (λ (b : Bool). found ++ (if b then row r.name other.name else [])) (sym test)
