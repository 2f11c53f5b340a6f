use Rattle.std.proofs.Common.{Bool, List, ℕ, ◌∙◌, rules, sym, tests}
use Rattle.std.proofs.lemmas.Iterator.{YieldsList-from_slice}
use Rattle.std.proofs.lemmas.Iterator.Search.{all_from_yields_List}
use Rattle.std.proofs.lemmas.List.Folds.{list_all-map}
use Rattle.csv.specs.Records.{fields_of}
use Rattle.a429_import.specs.ImportMaps.{given_texts, is_met}
use Rattle.a429_import.proofs.maps.are_met.Goals as goal

pub returns : goal.returns
returns c =
    let met : List ℕ → Bool = is_met (given_texts c.args.maps.now) (fields_of c.args.heading.now.fields) in
    all_from_yields_List (λ text. met text.now) _ _ c.all.result c.all.ensures.ran (YieldsList-from_slice c.args.maps.now cc) (λ x b q k. search (rules, tests))
    ∙ sym (list_all-map met (λ text. text.now) c.args.maps.now)
