use Rattle.std.proofs.Common.{◌≡◌, ◌∙◌, arith, subst, sym}
use Rattle.std.proofs.lemmas.Option.{same_Some, slice_get_within}
use Rattle.a429_cert.specs.Spelling.{Listing}
use Rattle.a429_cert.specs.Views.{listing}
use Rattle.a429_keep.specs.Following.{IsOutputNamed}
use Rattle.a429_keep.proofs.stated.put_by_line.Goals as goal

pub unreachable-requires-in_default-output_named : goal.unreachable-requires-in_default-output_named
unreachable-requires-in_default-output_named c =
    let asked = c.requires.line in
    let said : listing c.in-Some.said ≡ asked.listing = same_Some (listing c.in-Some.said) asked.listing (c.in-Some.ensures ∙ asked.read) in
    c.output_named.ensures.none c.in_default-output_named.is asked.output
    (subst (λ (l : Listing). IsOutputNamed c.args.sources.now c.args.rows.now l.source asked.output) (sym said) asked.known)

pub put-requires-clause-known : goal.put-requires-clause-known
put-requires-clause-known c =
    let named = c.in-Some-output_named.ensures.found in
    omega (arith, slice_get_within c.args.rows.now c.in-Some-output_named.output named.row named.there, c.requires.places)

pub returns-clause-known : goal.returns-clause-known
returns-clause-known c =
    let named = c.in-Some-output_named.ensures.found in
    slice_get_within c.args.rows.now c.in-Some-output_named.output named.row named.there
