use Rattle.std.proofs.Common.{◌∙◌, ◌++◌, ◌∷◌, [], List, ℕ, ap, ap₂, arith, sym}
use Rattle.std.proofs.lemmas.List.{map-append}
use Rattle.a429_import.specs.declared.rows.ImportRow.{ImportRow}
use Rattle.a429_import.specs.ImportTables.{firsts}
use Rattle.a429_import.specs.Renamed.{chosen, names_after, names_in, texts_of}
use Rattle.a429_import.proofs.ChosenNames.{names_more, no_more}
use Rattle.a429_import.proofs.renamed.names_in.Goals as goal

pub loop-place-init : goal.loop-place-init
loop-place-init c = ap (λ ns. names_after (texts_of c.in_ok-plains.plains.items) c.args.part (texts_of ns) (firsts c.args.part c.args.known.now.rows.items)) c.new-names.ensures.items

pub loop-place-preserved : goal.loop-place-preserved
loop-place-preserved c =
    let plains : List (List ℕ) = texts_of c.in_ok-plains.plains.items in
    let old = c.loop-place.names.items in
    names_more plains c.args.part (firsts c.args.part c.args.known.now.rows.items) c.loop-place.place c.first_row.result.now (texts_of old) (texts_of c.push.new.self.items) _ c.first_row.ensures c.loop-place.invariant
    (ap texts_of c.in_ok-push.ensures.items ∙ map-append (λ name. name.items) old _ ∙ ap (λ name. texts_of old ++ name ∷ [])
    (c.in_ok-name.ensures ∙ ap₂ (λ ps ns. chosen (texts_of ps) (texts_of ns) c.args.part c.first_row.result.now) c.deref.ensures.value c.deref-in-loop-place.ensures.value))

pub returns : goal.returns
unfolding names_in
returns c =
    let rows : List ImportRow = c.args.known.now.rows.items in
    let plains : List (List ℕ) = texts_of c.in_ok-plains.plains.items in
    let none = no_more c.args.part c.args.known.now c.loop-place.place c.requires (omega (arith, c.count-place-end.ensures, c.loop-place-test.false)) in
    sym (ap (λ (rs : List ImportRow). names_after plains c.args.part (texts_of c.loop-place.names.items) rs) none) ∙ c.loop-place.invariant
    ∙ ap (λ (ps : List (List ℕ)). names_after ps c.args.part [] (firsts c.args.part rows)) c.in_ok-plains.ensures
