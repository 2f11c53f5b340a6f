use Rattle.std.proofs.Common.{◌≡◌, ◌<◌, ◌≤◌, ◌∙◌, [], ap, true, false, length, get_or, subst, sym, ℕ, List}
use Rattle.std.specs.List.{AllByRecursion}
use Rattle.std.proofs.lemmas.List.{take_all}
use Rattle.std.proofs.lemmas.Option.{slice_get-get_or}
use Rattle.csv.specs.Records.{fields_of}
use Rattle.a429_import.specs.ImportRows.{is_named}
use Rattle.a429_import.proofs.FirstPlaces.{position_first, position_nowhere}
use Rattle.a429_import.proofs.columns.place_of.Goals as goal

pub returns-then-is_named : goal.returns-then-is_named
returns-then-is_named c =
    let fields : List (List ℕ) = fields_of c.args.heading.now.fields in
    let i : ℕ = c.loop-place.place in
    let below : i < length fields = subst (λ (n : ℕ). i < n) c.len-place-end.ensures c.loop-place-test.true in
    let passes : is_named c.args.column (get_or fields i []) ≡ true = ap (is_named c.args.column) (sym c.field.ensures) ∙ sym c.is_named.ensures ∙ c.if-is_named.true in
    sym (position_first (is_named c.args.column) fields i (get_or fields i []) c.loop-place.invariant (slice_get-get_or fields i [] below) passes)

pub returns : goal.returns
returns c =
    let fields : List (List ℕ) = fields_of c.args.heading.now.fields in
    let past : length fields ≤ c.loop-place.place = subst (λ (n : ℕ). n ≤ c.loop-place.place) c.len-place-end.ensures c.loop-place-test.false in
    let none : AllByRecursion (λ field. is_named c.args.column field ≡ false) fields =
    subst (λ (xs : List (List ℕ)). AllByRecursion (λ field. is_named c.args.column field ≡ false) xs) (take_all c.loop-place.place fields past) c.loop-place.invariant in
    sym (position_nowhere (is_named c.args.column) fields none)
