-- The first fault is that of an early kind, if a row shows one, and otherwise that of a late kind.
use Rattle.std.proofs.Common.{◌≡◌, ◌∙◌, ap, refl, sym, Bool, true, false, not, List, [], ◌∷◌, ◌++◌, Option, Some, None, option_map, map}
use Rattle.std.specs.Prelude.{ℕ, ◌+◌, is_some}
use Rattle.std.specs.List.{enumerate_from, find, flat_map, list_all}
use Rattle.std.specs.Option.{option_or}
use Rattle.std.proofs.lemmas.Grind.{flat_map-append}
use Rattle.std.proofs.lemmas.List.Folds.{find-append}
use Rattle.toml.specs.Data.{Data}
use Rattle.a429_table.specs.declared.fault.FaultKind.{FaultKind}
use Rattle.a429_table.specs.declared.fault.TablePlace.{TablePlace}
use Rattle.a429_table.specs.declared.repeats.Repeats.{Repeats}
use Rattle.a429_table.specs.Early.{early_kinds, late_kinds, shows}
use Rattle.a429_table.specs.Faults.{faults, faults_of, first, kinds, stands}
use Rattle.a429_table.specs.Repeats.{AreRepeatsIn, found, is_found}
use Rattle.a429_table.specs.Stated.{stated}
use Rattle.a429_table.specs.Version.{version_of}
use Rattle.a429_table.specs.Walk.{Stop, group_stops, walk}
use Rattle.a429_table.proofs.Firsts.{first_append}
use Rattle.a429_table.proofs.RepeatedRows.{first_found}

-- ---- places

abbrev pub place_in : (Stop → Bool) → List Stop → Option TablePlace
place_in test stops = option_map (λ s. s.0) (find test stops)

mapped_or : {X Y : Type 0} (f : X → Y) (a b : Option X) → option_map f (option_or a b) ≡ option_or (option_map f a) (option_map f b)
mapped_or f None b = refl
mapped_or f (Some x) b = refl

-- the first place among more stops
pub place_in_more : (test : Stop → Bool) (xs ys : List Stop) → place_in test (xs ++ ys) ≡ option_or (place_in test xs) (place_in test ys)
place_in_more test xs ys = ap (option_map (λ s. s.0)) (find-append test xs ys) ∙ mapped_or (λ s. s.0) (find test xs) (find test ys)

-- a stop before others, that is the place or not
pub place_here : (test : Stop → Bool) (s : Stop) (stops : List Stop) → test s ≡ true → place_in test (s ∷ stops) ≡ Some s.0
place_here test s stops is = rw is refl

pub place_later : (test : Stop → Bool) (s : Stop) (stops : List Stop) → test s ≡ false → place_in test (s ∷ stops) ≡ place_in test stops
place_later test s stops is = rw is refl

-- a group before others, that has the place or not
pub group_here : (test : Stop → Bool) (number : ℕ) (group : Data) (groups : List Data) (place : Option TablePlace) → place ≡ place_in test (group_stops (number, group)) → is_some place ≡ true
    → place_in test (flat_map group_stops (enumerate_from number (group ∷ groups))) ≡ place
group_here test number group groups (Some p) is some =
    place_in_more test (group_stops (number, group)) (flat_map group_stops (enumerate_from (number + 1) groups)) ∙ rw (← is) refl
group_here test number group groups None is some = cc

pub group_later : (test : Stop → Bool) (number : ℕ) (group : Data) (groups : List Data) (place : Option TablePlace) → place ≡ place_in test (group_stops (number, group)) → is_some place ≡ false
    → place_in test (flat_map group_stops (enumerate_from number (group ∷ groups))) ≡ place_in test (flat_map group_stops (enumerate_from (number + 1) groups))
group_later test number group groups None is some =
    place_in_more test (group_stops (number, group)) (flat_map group_stops (enumerate_from (number + 1) groups)) ∙ rw (← is) refl
group_later test number group groups (Some p) is some = cc

-- no stop fails a test if and only if all pass it
pub none_fails : (test : Stop → Bool) (stops : List Stop) → not (is_some (place_in (λ s. not (test s)) stops)) ≡ list_all test stops
none_fails test [] = refl
none_fails test (s ∷ stops) = go (test s) refl (none_fails test stops)
  where
    go : (b : Bool) → test s ≡ b → not (is_some (place_in (λ s. not (test s)) stops)) ≡ list_all test stops → not (is_some (place_in (λ s. not (test s)) (s ∷ stops))) ≡ list_all test (s ∷ stops)
    go true is rest = rw is rest
    go false is rest = rw is refl

-- ---- kinds

either : {X : Type 0} (a b : Option X) (x : X) → a ≡ Some x → option_or a b ≡ Some x
either (Some y) b x is = is
either None b x is = cc

other : {X : Type 0} (a b : Option X) → a ≡ None → option_or a b ≡ b
other None b is = refl
other (Some y) b is = cc

by_kinds : (root : Data) → first (faults root) ≡ option_or (first (flat_map (faults_of root) early_kinds)) (first (flat_map (faults_of root) late_kinds))
unfolding faults kinds early_kinds late_kinds
by_kinds root = ap first (flat_map-append (faults_of root) early_kinds late_kinds) ∙ first_append (flat_map (faults_of root) early_kinds) (flat_map (faults_of root) late_kinds)

-- a fault that a row shows by itself comes before all others
pub early_is_first : (root : Data) (fault : FaultKind × TablePlace) → first (flat_map (faults_of root) early_kinds) ≡ Some fault → first (faults root) ≡ Some fault
early_is_first root fault is = by_kinds root ∙ either _ _ fault is

-- what the rows show of the early kinds is their faults
pub shown_are_faults : (root : Data) → flat_map (found (shows (version_of root)) (walk root)) early_kinds ≡ flat_map (faults_of root) early_kinds
unfolding shows stands early_kinds
shown_are_faults root = refl

found_by_kinds : (repeats : Repeats) (root : Data)
    → first (flat_map (found (is_found repeats root) (walk root)) kinds) ≡ option_or (first (flat_map (faults_of root) early_kinds)) (first (flat_map (found (is_found repeats root) (walk root)) late_kinds))
unfolding kinds early_kinds late_kinds is_found
found_by_kinds repeats root =
    ap first (flat_map-append (found (is_found repeats root) (walk root)) early_kinds late_kinds)
    ∙ first_append (flat_map (faults_of root) early_kinds) (flat_map (found (is_found repeats root) (walk root)) late_kinds)

-- without one, the first of the late kinds is the first of all
pub late_is_first : (root : Data) (repeats : Repeats) → AreRepeatsIn (stated root).sources (stated root).outputs repeats → first (flat_map (faults_of root) early_kinds) ≡ None
    → first (flat_map (found (is_found repeats root) (walk root)) late_kinds) ≡ first (faults root)
late_is_first root repeats are none =
    sym (found_by_kinds repeats root ∙ other _ _ none) ∙ first_found root repeats are
