use Rattle.std.proofs.Common.{◌∙◌, ◌++◌, ◌∷◌, [], List, ap, arith, map, sym}
use Rattle.std.proofs.lemmas.List.{append-nil, map-append}
use Rattle.a429_import.specs.declared.rows.ImportRow.{ImportRow}
use Rattle.a429_import.specs.ImportTables.{firsts}
use Rattle.a429_import.specs.Renamed.{plain_of, plains_of, texts_of}
use Rattle.a429_import.proofs.ChosenNames.{mapped_more, no_more}
use Rattle.a429_import.proofs.renamed.plains_of.Goals as goal

pub loop-place-init : goal.loop-place-init
loop-place-init c = ap (λ ps. texts_of ps ++ plains_of c.args.part c.args.known.now.rows.items) c.new-plains.ensures.items

pub loop-place-preserved : goal.loop-place-preserved
loop-place-preserved c =
    let rows : List ImportRow = c.args.known.now.rows.items in
    let old = c.loop-place.plains.items in
    mapped_more (plain_of c.args.part) (firsts c.args.part rows) c.loop-place.place c.first_row.result.now (texts_of old) (texts_of c.push.new.self.items) (plains_of c.args.part rows) c.first_row.ensures c.loop-place.invariant
    (ap texts_of c.in_ok-push.ensures.items ∙ map-append (λ name. name.items) old _ ∙ ap (λ name. texts_of old ++ name ∷ []) c.in_ok-plain_of.ensures)

pub returns : goal.returns
returns c =
    let rows : List ImportRow = c.args.known.now.rows.items in
    let none = no_more c.args.part c.args.known.now c.loop-place.place c.requires (omega (arith, c.count-place-end.ensures, c.loop-place-test.false)) in
    sym (append-nil (texts_of c.loop-place.plains.items)) ∙ sym (ap (λ (rs : List ImportRow). texts_of c.loop-place.plains.items ++ map (plain_of c.args.part) rs) none) ∙ c.loop-place.invariant
