use Rattle.std.proofs.Common.{not, string_bytes, rules, tests}
use Rattle.std.specs.Map.{keys_of}
use Rattle.std.proofs.lemmas.Iterator.Consumers.{YieldsList-from_rest}
use Rattle.std.proofs.lemmas.Iterator.Search.{any_from_yields_List}
use Rattle.a429_table.specs.Faults.{is_column_key}
use Rattle.a429_table.proofs.Trees.{list_any_map, member_keys-members_view}
use Rattle.a429_table.proofs.shape.table_has_unknown_key.Goals as goal

pub returns : goal.returns
returns c =
    let found = any_from_yields_List (λ k. not (is_column_key c.args.version c.args.place (string_bytes k))) _ _ c.any.result c.any.ensures.ran (YieldsList-from_rest (keys_of c.args.table.now.entries) c.keys.ensures.rest) (λ x b q k. search (rules, tests)) in
    rw (found, member_keys-members_view c.args.table.now.entries, list_any_map (λ key. not (is_column_key c.args.version c.args.place key)) string_bytes (keys_of c.args.table.now.entries))
