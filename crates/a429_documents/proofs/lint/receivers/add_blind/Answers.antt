use Rattle.std.proofs.Common.{◌≡◌, ◌++◌, ◌∙◌, List, ap, append-nil, sym}
use Rattle.std.specs.Prelude.{Some, false, true, slice_get}
use Rattle.a429_text.specs.Fields.{Field}
use Rattle.a429_word.proofs.Lists.{read_is}
use Rattle.a429_filter.specs.declared.filters.Filter.{Filter}
use Rattle.a429_documents.specs.Lint.{sees_source}
use Rattle.a429_documents.proofs.Findings.{blind_is, seen_is}
use Rattle.a429_documents.proofs.lint.receivers.add_blind.Goals as goal

pub returns-then-sees_source : goal.returns-then-sees_source
returns-then-sees_source c =
    let sources = c.args.sources.now in
    let filters : List Filter = c.args.filters.now in
    let f : Filter = c.index-filters-number.result in
    let there : slice_get filters c.args.number ≡ Some f = read_is filters c.args.number f c.requires c.index-filters-number.is in
    let seen : sees_source sources c.args.receiver f ≡ true = sym c.sees_source.ensures ∙ c.if-sees_source.true in
    sym (ap (λ (rows : List (List Field)). c.args.found.now ++ rows) (seen_is sources c.args.receiver c.args.name.now filters c.args.number f there seen) ∙ append-nil c.args.found.now)

pub returns : goal.returns
returns c =
    let sources = c.args.sources.now in
    let filters : List Filter = c.args.filters.now in
    let f : Filter = c.index-filters-number.result in
    let there : slice_get filters c.args.number ≡ Some f = read_is filters c.args.number f c.requires c.index-filters-number.is in
    let unseen : sees_source sources c.args.receiver f ≡ false = sym c.sees_source.ensures ∙ c.if-sees_source.false in
    c.add_finding.ensures ∙ ap (λ (rows : List (List Field)). c.args.found.now ++ rows) (blind_is sources c.args.receiver c.args.name.now filters c.args.number f there unseen)
