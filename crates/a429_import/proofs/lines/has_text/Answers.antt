use Rattle.std.proofs.Common.{◌≡◌, ◌<◌, ◌≤◌, ◌∙◌, [], ap, false, true, length, get_or, subst, sym, ℕ, List}
use Rattle.std.specs.Prelude.{not}
use Rattle.std.specs.List.{AllByRecursion}
use Rattle.std.proofs.lemmas.List.{take_all}
use Rattle.std.proofs.lemmas.Map.Keys.{any_passes_from_place}
use Rattle.std.proofs.lemmas.Option.{slice_get-get_or}
use Rattle.csv.specs.Records.{fields_of}
use Rattle.a429_import.specs.Imports.{is_filled}
use Rattle.a429_import.proofs.FirstPlaces.{none_passes}
use Rattle.a429_import.proofs.lines.has_text.Goals as goal

pub returns-then-not-is_empty : goal.returns-then-not-is_empty
returns-then-not-is_empty c =
    let fields : List (List ℕ) = fields_of c.args.line.now.fields in
    let i : ℕ = c.loop-place.place in
    let below : i < length fields = subst (λ (n : ℕ). i < n) c.len-place-end.ensures c.loop-place-test.true in
    let passes : is_filled (get_or fields i []) ≡ true = ap is_filled (sym c.field.ensures) ∙ ap not (sym c.is_empty.ensures ∙ c.if-not-is_empty.true) in
    sym (any_passes_from_place is_filled fields i (get_or fields i []) (slice_get-get_or fields i [] below) passes)

pub returns : goal.returns
returns c =
    let fields : List (List ℕ) = fields_of c.args.line.now.fields in
    let past : length fields ≤ c.loop-place.place = subst (λ (n : ℕ). n ≤ c.loop-place.place) c.len-place-end.ensures c.loop-place-test.false in
    let none : AllByRecursion (λ field. is_filled field ≡ false) fields =
    subst (λ (xs : List (List ℕ)). AllByRecursion (λ field. is_filled field ≡ false) xs) (take_all c.loop-place.place fields past) c.loop-place.invariant in
    sym (none_passes is_filled fields none)
