use Rattle.std.proofs.Common.{◌≡◌, ◌<◌, ◌≤◌, ◌∙◌, [], ap, false, true, length, get_or, subst, sym, Bool, ℕ, List}
use Rattle.std.specs.List.{AllByRecursion}
use Rattle.std.proofs.lemmas.List.{take_all}
use Rattle.std.proofs.lemmas.Map.Keys.{any_passes_from_place}
use Rattle.std.proofs.lemmas.Option.{slice_get-get_or}
use Rattle.csv.specs.Records.{fields_of}
use Rattle.a429_import.specs.ImportMaps.{is_about}
use Rattle.a429_import.proofs.FirstPlaces.{none_passes}
use Rattle.a429_import.proofs.maps.has_heading.Goals as goal

pub returns-then-is_about : goal.returns-then-is_about
returns-then-is_about c =
    let passes : List ℕ → Bool = λ field. is_about field c.args.text.now in
    let fields : List (List ℕ) = fields_of c.args.heading.now.fields in
    let i : ℕ = c.loop-place.place in
    let below : i < length fields = subst (λ (n : ℕ). i < n) c.len-place-end.ensures c.loop-place-test.true in
    let here : passes (get_or fields i []) ≡ true = ap passes (sym c.field.ensures) ∙ sym c.is_about.ensures ∙ c.if-is_about.true in
    sym (any_passes_from_place passes fields i (get_or fields i []) (slice_get-get_or fields i [] below) here)

pub returns : goal.returns
returns c =
    let passes : List ℕ → Bool = λ field. is_about field c.args.text.now in
    let fields : List (List ℕ) = fields_of c.args.heading.now.fields in
    let past : length fields ≤ c.loop-place.place = subst (λ (n : ℕ). n ≤ c.loop-place.place) c.len-place-end.ensures c.loop-place-test.false in
    let none : AllByRecursion (λ field. passes field ≡ false) fields =
    subst (λ (xs : List (List ℕ)). AllByRecursion (λ field. passes field ≡ false) xs) (take_all c.loop-place.place fields past) c.loop-place.invariant in
    sym (none_passes passes fields none)
