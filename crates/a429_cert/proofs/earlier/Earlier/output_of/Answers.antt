use Rattle.std.proofs.Common.{◌≡◌, ◌∙◌, ℕ, List, Some, None, ap, get_or, rules, sym}
use Rattle.std.proofs.lemmas.Option.{slice_get-get_or}
use Rattle.a429_cert.specs.declared.due.DueOutput.{DueOutput}
use Rattle.a429_cert.specs.Faults.{place_of}
use Rattle.a429_cert.proofs.DueOutputs.{nothing_due}
use Rattle.a429_cert.proofs.Noted.{no_output, output_at, place_within}
use Rattle.a429_cert.proofs.earlier.Earlier.output_of.Goals as goal

pub returns-in_err-place-clause-due : goal.returns-in_err-place-clause-due
returns-in_err-place-clause-due c =
    let none : place_of c.args.source.now c.args.group.now.outputs.items ≡ None = search rules in
    let same = no_output c.args.source.now c.args.group.now.outputs.items none in
    search (rules, same)

pub returns-clause-due : goal.returns-clause-due
returns-clause-due c =
    let os : List DueOutput = c.args.group.now.outputs.items in
    let place : ℕ = c.in_ok-place.place in
    let there : place_of c.args.source.now os ≡ Some place = search rules in
    let found : DueOutput = c.index.result.now in
    let at : get_or os place found ≡ found = search rules in
    let below = place_within c.args.source.now os place there in
    ap (λ (o : DueOutput). Some o) (sym at) ∙ sym (slice_get-get_or os place found below) ∙ slice_get-get_or os place nothing_due below
    ∙ sym (output_at c.args.source.now os place there)
