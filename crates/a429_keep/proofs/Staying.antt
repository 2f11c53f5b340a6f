-- Outputs that all have a block stay.
use Rattle.std.proofs.Common.{◌≡◌, ◌∙◌, Bool, false, ℕ, zero, suc, List, [], ◌∷◌, ap, length, refl}
use Rattle.std.specs.Prelude.{◌&&◌, ◌==◌, ◌^◌, if◌then◌else◌, is_none, slice_get}
use Rattle.std.specs.List.{AllByRecursion}
use Rattle.std.specs.Option.{option_map_or}
use Rattle.a429_keep.specs.declared.blocks.Stand.{Stand}
use Rattle.a429_keep.specs.Laws.{AllStay}
use Rattle.a429_keep.specs.Placing.{is_waiting, place_down, place_first, place_one, put_on}
use Rattle.a429_keep.specs.Spots.{spot_on}

none_waits : (cells o : ℕ) (stands : List Stand) → AllByRecursion (λ s. is_none s.start ≡ false) stands → option_map_or (is_waiting cells) (slice_get stands o) false ≡ false
none_waits cells o [] all = refl
none_waits cells zero (s ∷ stands) all = ap (λ (b : Bool). b && (s.cells == cells)) all.0
none_waits cells (suc o) (s ∷ stands) all = none_waits cells o stands all.1

one_stays : (buses frame cells o : ℕ) (stands : List Stand) → AllByRecursion (λ s. is_none s.start ≡ false) stands → place_one buses frame cells o stands ≡ stands
one_stays buses frame cells o stands all =
    ap (λ (b : Bool). if b then put_on o cells (spot_on buses frame cells stands) stands else stands) (none_waits cells o stands all)

first_stay : (buses frame cells n : ℕ) (stands : List Stand) → AllByRecursion (λ s. is_none s.start ≡ false) stands → place_first buses frame cells n stands ≡ stands
unfolding place_first
first_stay buses frame cells zero stands all = refl
first_stay buses frame cells (suc n) stands all =
    ap (place_one buses frame cells n) (first_stay buses frame cells n stands all) ∙ one_stays buses frame cells n stands all

down_stay : (buses frame digits : ℕ) (stands : List Stand) → AllByRecursion (λ s. is_none s.start ≡ false) stands → place_down buses frame digits stands ≡ stands
unfolding place_down
down_stay buses frame zero stands all = refl
down_stay buses frame (suc digits) stands all =
    ap (place_down buses frame digits) (first_stay buses frame (2 ^ digits) (length stands) stands all) ∙ down_stay buses frame digits stands all

pub all_stay : AllStay
all_stay buses frame stands all = down_stay buses frame 14 stands all
