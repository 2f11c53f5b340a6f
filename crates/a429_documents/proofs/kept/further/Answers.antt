use Rattle.std.proofs.Common.{◌∙◌, ◌-◌, ap, arith, drop, length, map, sym}
use Rattle.std.proofs.lemmas.List.{drop-map, length-drop, take_all}
use Rattle.a429_documents.proofs.kept.further.Goals as goal

pub returns-then-own-columns : goal.returns-then-own-columns
returns-then-own-columns c =
    let own = c.args.own in
    let columns = c.args.columns.now in
    let all = take_all (length columns - own) (drop own columns) (rw (length-drop own columns) (omega arith)) in
    ap (map (λ name. name.now)) all ∙ sym (drop-map (λ name. name.now) own columns)
