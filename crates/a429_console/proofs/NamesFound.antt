-- The names of rows that are found by their numbers.
use Rattle.std.proofs.Common.{◌≡◌, ◌∙◌, ◌<◌, ◌≤◌, [], ℕ, List, ap, get_or, length, map, refl, subst, sym}
use Rattle.std.specs.Prelude.{Some, option_map, slice_get, unwrap_or}
use Rattle.std.proofs.lemmas.Option.{slice_get-map, slice_get_past, slice_get_read}
use Rattle.a429_equipment.specs.Sound.{IsSound}
use Rattle.a429_equipment.specs.TableRecord.{TableRecord}
use Rattle.a429_equipment.specs.declared.rows.OutputRow.{OutputRow}
use Rattle.a429_console.specs.Names.{name_at, naming_of, output_name}

pub name_found : {X : Type 0} (name : X → List ℕ) (rows : List X) (k : ℕ) (row : X) → k < length rows → row ≡ get_or rows k row → name row ≡ name_at (map name rows) k
name_found name rows k row within is =
    sym (ap (λ found. unwrap_or found []) (slice_get-map name rows k ∙ ap (option_map name) (slice_get_read rows (length rows) k row refl within is)))

pub no_name : {X : Type 0} (name : X → List ℕ) (rows : List X) (k : ℕ) → length rows ≤ k → [] ≡ name_at (map name rows) k
no_name name rows k past = sym (ap (λ found. unwrap_or found []) (slice_get-map name rows k ∙ ap (option_map name) (slice_get_past rows k past)))

pub no_group : (t : TableRecord) (g o : ℕ) → IsSound t → length t.groups ≤ g → [] ≡ output_name t g o
no_group t g o sound past = rw (slice_get_past t.outputs g (subst (λ n. n ≤ g) (sym sound.outputs_of_groups) past)) refl

pub no_output : (t : TableRecord) (g o : ℕ) (rows : List OutputRow) → slice_get t.outputs g ≡ Some rows → length rows ≤ o → [] ≡ output_name t g o
no_output t g o rows group past = rw (group, slice_get_past rows o past) refl

pub source_of : (t : TableRecord) (g o : ℕ) (rows : List OutputRow) (row : OutputRow) → slice_get t.outputs g ≡ Some rows → o < length rows → row ≡ get_or rows o row
    → name_at (naming_of t).sources row.source ≡ output_name t g o
source_of t g o rows row group within is = rw (group, slice_get_read rows (length rows) o row refl within is) refl
