use Rattle.std.proofs.Common.{◌≡◌, ◌∙◌, ℕ, None, ap, refl, rules, sym}
use Rattle.std.specs.Prelude.{slice_index_or}
use Rattle.a429_import.specs.ImportClashes.{numbered}
use Rattle.a429_import.specs.ImportRows.{row_view}
use Rattle.a429_import.specs.IndexedRows.{named_of, numbers_of, place_of}
use Rattle.a429_import.proofs.Knowing.{knows_part, place_within}
use Rattle.a429_import.proofs.KnownClashes.{decided, undecided}
use Rattle.a429_import.proofs.clashes.clash_about.Goals as goal

pub first_row-requires-clause-place : goal.first_row-requires-clause-place
first_row-requires-clause-place c =
    let named = named_of c.args.part c.args.known.now in
    place_within named c.name_in.result.now c.in_ok-place.place (sym (c.find.ensures ∙ ap (λ n. place_of n c.name_in.result.now) c.named-named.ensures) ∙ c.in_ok-place.was)

pub returns-in_err-place : goal.returns-in_err-place
returns-in_err-place c = λ agree.
    let known = c.args.known.now in
    let named = named_of c.args.part known in
    let place = c.find.ensures ∙ ap (λ n. place_of n c.name_in.result.now) c.named-named.ensures ∙ ap (place_of named) c.name_in.ensures in
    let none : c.from_residual.result ≡ None = search rules in
    none ∙ sym (undecided c.args.part named known.rows.items (row_view c.args.row.now) (knows_part c.args.part known c.requires) (sym place ∙ c.in_err-place.was))

pub returns-in_err-column : goal.returns-in_err-column
returns-in_err-column c = λ agree.
    let known = c.args.known.now in
    let named = named_of c.args.part known in
    let place = c.find.ensures ∙ ap (λ n. place_of n c.name_in.result.now) c.named-named.ensures ∙ ap (place_of named) c.name_in.ensures in
    let number : ℕ = slice_index_or (numbers_of named) c.in_ok-place.place 0 in
    let none : c.from_residual-in_err-column.result ≡ None = search rules in
    none ∙ ap (numbered number) (sym c.in_err-column.was ∙ c.part_clash.ensures)
    ∙ decided c.args.part named known.rows.items (row_view c.args.row.now) c.first_row.result.now c.in_ok-place.place number agree (knows_part c.args.part known c.requires) (sym place ∙ c.in_ok-place.was) c.first_row.ensures refl

pub returns : goal.returns
returns c = λ agree.
    let known = c.args.known.now in
    let named = named_of c.args.part known in
    let place = c.find.ensures ∙ ap (λ n. place_of n c.name_in.result.now) c.named-named.ensures ∙ ap (place_of named) c.name_in.ensures in
    let number = c.first_at.ensures ∙ ap (λ n. slice_index_or (numbers_of n) c.in_ok-place.place 0) c.named-named.ensures in
    ap (numbered c.first_at.result) (sym c.in_ok-column.was ∙ c.part_clash.ensures)
    ∙ decided c.args.part named known.rows.items (row_view c.args.row.now) c.first_row.result.now c.in_ok-place.place c.first_at.result agree (knows_part c.args.part known c.requires) (sym place ∙ c.in_ok-place.was) c.first_row.ensures number
