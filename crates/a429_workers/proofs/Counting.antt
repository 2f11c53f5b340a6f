-- How many words a source accepted does not go back as a history goes on.
use Rattle.std.proofs.Common.{◌≡◌, ℕ, ◌+◌, ◌-◌, ◌^◌, ◌≤◌, List, [], ◌∷◌, ◌++◌, length, map, ◌∙◌, ap, subst, arith}
use Rattle.std.specs.Prelude.{Option, Some, None, filter, filter_map, slice_get}
use Rattle.std.specs.List.{AllByRecursion}
use Rattle.std.specs.Option.{option_map_or}
use Rattle.std.proofs.lemmas.List.{length-append, length-map, length-take}
use Rattle.std.proofs.lemmas.List.Elements.{filter-append, filter_map-append}
use mathlib.Core.List.{IsPrefix}
use Rattle.a429_equipment.specs.Arrivals.{accepts}
use Rattle.a429_equipment.specs.declared.loads.Load.{Load}
use Rattle.a429_equipment.specs.declared.rows.SourceRow.{SourceRow}
use Rattle.a429_slots.specs.Events.{Event}
use Rattle.a429_slots.specs.History.{Opening, accepted_by, accepted_in, arrival_of}

accepted_on : (C : ℕ) (o : Opening) (s : SourceRow) (E F : List Event) → length (accepted_in C o s E) ≤ length (accepted_in C o s (E ++ F))
accepted_on C o s E F =
    let t = o.proposal.station in
    let xs = filter (accepts t s) (filter_map arrival_of E) in
    let ys = filter (accepts t s) (filter_map arrival_of F) in
    let both : filter (accepts t s) (filter_map arrival_of (E ++ F)) ≡ xs ++ ys =
    ap (filter (accepts t s)) (filter_map-append arrival_of E F) ∙ filter-append (accepts t s) (filter_map arrival_of E) (filter_map arrival_of F) in
    let more : length (map (λ (a : ℕ × ℕ). a.1) (filter (accepts t s) (filter_map arrival_of (E ++ F)))) ≡ length xs + length ys =
    length-map (filter (accepts t s) (filter_map arrival_of (E ++ F))) (λ (a : ℕ × ℕ). a.1) ∙ (ap (λ (zs : List (ℕ × ℕ)). length zs) both ∙ length-append xs ys) in
    omega (arith, more, length-map xs (λ (a : ℕ × ℕ). a.1), length-take (2 ^ C - 1) (map (λ (a : ℕ × ℕ). a.1) xs), length-take (2 ^ C - 1) (map (λ (a : ℕ × ℕ). a.1) (filter (accepts t s) (filter_map arrival_of (E ++ F)))))

pub count_on : (C : ℕ) (o : Opening) (i : ℕ) (E F : List Event) → length (accepted_by C o i E) ≤ length (accepted_by C o i (E ++ F))
count_on C o i E F = by (slice_get o.proposal.station.sources i)
  where
    by : (s : Option SourceRow) → length (option_map_or (λ s. accepted_in C o s E) s []) ≤ length (option_map_or (λ s. accepted_in C o s (E ++ F)) s [])
    by None = omega arith
    by (Some s) = accepted_on C o s E F

-- the source of the load accepted as many words as the load counted
abbrev pub IsCounted : ℕ → Opening → List Event → Load → Type 0
IsCounted C o E l = l.count ≤ length (accepted_by C o l.source E)

pub counted_on : (C : ℕ) (o : Opening) (E F : List Event) (loads : List Load) → AllByRecursion (IsCounted C o E) loads → AllByRecursion (IsCounted C o (E ++ F)) loads
counted_on C o E F [] all = tt
counted_on C o E F (l ∷ loads) all = (omega (arith, all.0, count_on C o l.source E F), counted_on C o E F loads all.1)

pub counted_along : (C : ℕ) (o : Opening) (E F : List Event) (loads : List Load) → IsPrefix E F → AllByRecursion (IsCounted C o E) loads → AllByRecursion (IsCounted C o F) loads
counted_along C o E F loads P all = subst (λ (G : List Event). AllByRecursion (IsCounted C o G) loads) P.1 (counted_on C o E P.0 loads all)

pub all_join : {X : Type 0} (P : X → Type 0) (xs ys : List X) → AllByRecursion P xs → AllByRecursion P ys → AllByRecursion P (xs ++ ys)
all_join P [] ys first rest = rest
all_join P (x ∷ xs) ys first rest = (first.0, all_join P xs ys first.1 rest)
