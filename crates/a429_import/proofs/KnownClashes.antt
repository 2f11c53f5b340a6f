-- A row that is compared with what is known of the rows before it.
use Rattle.std.proofs.Common.{◌≡◌, ◌∙◌, ℕ, Bool, true, false, List, get_or, Option, None, Some, option_map, ap, refl, sym}
use Rattle.std.specs.Prelude.{◌&&◌, nat_lt, slice_get}
use Rattle.std.specs.List.{count_by}
use Rattle.std.specs.Option.{option_and_then}
use Rattle.std.specs.Str.{bytes_eq}
use Rattle.std.proofs.lemmas.Option.{get_or_from_slice_get, same_Some, slice_get-map}
use Rattle.a429_import.specs.declared.firsts.Part.{Part}
use Rattle.a429_import.specs.declared.firsts.Part.TheVariants.{Groups}
use Rattle.a429_import.specs.declared.indexed_rows.IndexedRows.{IndexedRows}
use Rattle.a429_import.specs.declared.indexed_rows.NamedRows.{NamedRows}
use Rattle.a429_import.specs.declared.rows.ImportRow.{ImportRow}
use Rattle.a429_import.specs.ImportClashes.{Agree, clash_at, first_part_clash, numbered, part_clash}
use Rattle.a429_import.specs.ImportLimits.{has_too_many_outputs}
use Rattle.a429_import.specs.ImportTables.{firsts, has_group, name_in, same_name}
use Rattle.a429_import.specs.IndexedRows.{IsIndexed, IndexesFirsts, numbers_of, outputs_of, place_of}
use Rattle.a429_import.proofs.ImportClashes.{first_named_decides, none_named}
use Rattle.a429_import.proofs.Knowing.{known_at, unknown}
use Rattle.a429_import.proofs.KnownRows.{above, none_counted}

-- ---- the first row of a name decides

pub undecided : (part : Part) (named : NamedRows) (rows : List ImportRow) (row : ImportRow) → IndexesFirsts part named rows → place_of named (name_in part row) ≡ None → first_part_clash part 0 rows row ≡ None
undecided part named rows row known h = none_named part 0 rows row (unknown part named rows (name_in part row) known h)

pub decided : (part : Part) (named : NamedRows) (rows : List ImportRow) (row first : ImportRow) (place number : ℕ) → Agree rows → IndexesFirsts part named rows → place_of named (name_in part row) ≡ Some place
    → slice_get (firsts part rows) place ≡ Some first → number ≡ get_or (numbers_of named) place 0 → numbered number (part_clash part first row) ≡ first_part_clash part 0 rows row
decided part named rows row first place number agree known found there is =
    let k = known_at part named rows (name_in part row) place known found in
    let n : ℕ = get_or (numbers_of named) place 0 in
    let same : k.row ≡ first = same_Some k.row first (sym k.first ∙ there) in
    let by_first : first_part_clash part 0 rows row ≡ clash_at part rows n row = first_named_decides part rows row n agree k.number in
    let at : clash_at part rows n row ≡ numbered n (part_clash part k.row row) = ap (λ (r : Option ImportRow). numbered n (option_and_then (λ other. part_clash part other row) r)) k.there in
    ap (λ (m : ℕ). numbered m (part_clash part first row)) is ∙ sym (by_first ∙ at ∙ ap (λ (r : ImportRow). numbered n (part_clash part r row)) same)

-- ---- outputs

-- whether a group that is known has too many outputs
pub outputs_known : (known : IndexedRows) (row : ImportRow) (place : ℕ) → IsIndexed known → place_of known.groups row.texts.group ≡ Some place
    → nat_lt 128 (get_or known.outputs.items place 0) ≡ nat_lt 128 (count_by (same_name Groups row) known.rows.items)
outputs_known known row place knows found =
    let rows : List ImportRow = known.rows.items in
    let k = known_at Groups known.groups rows row.texts.group place knows.groups found in
    let there : slice_get known.outputs.items place ≡ Some (outputs_of rows k.row) =
    ap (λ (xs : List ℕ). slice_get xs place) knows.outputs ∙ slice_get-map (outputs_of rows) (firsts Groups rows) place ∙ ap (option_map (outputs_of rows)) k.first in
    ap (nat_lt 128) (get_or_from_slice_get known.outputs.items place (outputs_of rows k.row) 0 there) ∙ above (count_by (same_name Groups k.row) rows)
    ∙ ap (λ (name : List ℕ). nat_lt 128 (count_by (λ (r : ImportRow). bytes_eq name r.texts.group) rows)) k.is_named

none_above : (b : Bool) → (b && false) ≡ false
none_above true = refl
none_above false = refl

-- one that is not known has none
pub no_outputs : (known : IndexedRows) (row : ImportRow) → IsIndexed known → place_of known.groups row.texts.group ≡ None → has_too_many_outputs known.rows.items row ≡ false
no_outputs known row knows nowhere =
    let none = unknown Groups known.groups known.rows.items row.texts.group knows.groups nowhere in
    ap (λ (n : ℕ). has_group row && nat_lt 128 n) (none_counted (same_name Groups row) 0 known.rows.items none) ∙ none_above (has_group row)
