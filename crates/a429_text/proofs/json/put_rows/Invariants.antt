use Rattle.std.proofs.Common.{◌≡◌, ◌++◌, [], drop, map}
use Rattle.a429_text.specs.Fields.{lines_json}
use Rattle.a429_text.proofs.json.put_rows.Given as goal

abbrev pub invariant-loop-row : goal.invariant-loop-row
invariant-loop-row l = l.text ++ lines_json l.mark (map (λ name. name.now) l.columns) (drop l.row-index l.rows) ≡ l.fn.text ++ lines_json [] (map (λ name. name.now) l.columns) l.rows
