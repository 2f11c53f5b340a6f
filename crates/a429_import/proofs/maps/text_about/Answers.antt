use Rattle.std.proofs.Common.{Bool, List, ℕ, ◌∙◌, ap, option_map, rules, sym, tests}
use Rattle.std.proofs.lemmas.Iterator.{YieldsList-from_slice}
use Rattle.std.proofs.lemmas.Iterator.Adapters.{option_map_id}
use Rattle.std.proofs.lemmas.Iterator.Consumers.{YieldsList-from_copied}
use Rattle.std.proofs.lemmas.Iterator.Search.{find_from_yields_List}
use Rattle.a429_table.proofs.Trees.{find_map}
use Rattle.a429_import.specs.ImportMaps.{is_about}
use Rattle.a429_import.proofs.maps.text_about.Goals as goal

pub returns : goal.returns
returns c =
    let about : List ℕ → Bool = is_about c.args.field.now in
    let found = find_from_yields_List (λ text. about text.now) _ _ c.find.result c.find.ensures.ran (YieldsList-from_copied (YieldsList-from_slice c.args.maps.now cc)) (λ x b q k. search (rules, tests)) in
    ap (option_map (λ text. text.now)) (sym (option_map_id c.find.result) ∙ found) ∙ sym (find_map about (λ text. text.now) c.args.maps.now)
