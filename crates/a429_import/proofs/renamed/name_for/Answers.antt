use Rattle.std.proofs.Common.{◌∙◌, [], List, ℕ, ap, map}
use Rattle.std.specs.Prelude.{unwrap_or}
use Rattle.std.specs.List.{position_from}
use Rattle.std.specs.Str.{bytes_eq}
use Rattle.a429_import.specs.declared.rows.ImportRow.{ImportRow}
use Rattle.a429_import.specs.ImportFields.{field_in, utf8_in}
use Rattle.a429_import.specs.ImportTables.{firsts, name_in}
use Rattle.a429_import.specs.IndexedRows.{named_of, place_of}
use Rattle.a429_import.specs.Renamed.{name_for, texts_of}
use Rattle.a429_import.proofs.Knowing.{knows_part}
use Rattle.a429_import.proofs.renamed.name_for.Goals as goal

pub returns : goal.returns
unfolding name_for
returns c =
    let part = c.args.part in
    let known = c.args.known.now in
    let rows : List ImportRow = known.rows.items in
    let text : List ℕ = name_in part c.args.row.now in
    let place = c.find-place.ensures ∙ ap (λ n. place_of n c.name_in.result.now) c.named.ensures ∙ ap (place_of (named_of part known)) c.name_in.ensures in
    c.name_at.ensures ∙ ap (λ (n : ℕ). unwrap_or (utf8_in (field_in n (texts_of c.args.names.now))) []) (c.unwrap_or.ensures ∙ ap (λ o. unwrap_or o 0) place)
    ∙ ap (λ (ns : List (List ℕ)). unwrap_or (utf8_in (field_in (unwrap_or (position_from (bytes_eq text) 0 ns) 0) (texts_of c.args.names.now))) []) (knows_part part known c.requires.known).names
    ∙ ap (λ (ts : List (List ℕ)). unwrap_or (utf8_in (field_in (unwrap_or (position_from (bytes_eq text) 0 (map (name_in part) (firsts part rows))) 0) ts)) []) c.requires.names
