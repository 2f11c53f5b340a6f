-- Loops over outputs: one that takes blocks from them, and those that give them blocks.
use Rattle.std.proofs.Common.{◌≡◌, ◌≢◌, ◌<◌, ◌+◌, ◌-◌, ◌^◌, ◌++◌, ℕ, zero, suc, List, refl, ap, arith, length, map, take, drop, get_or, set}
use Rattle.std.proofs.lemmas.List.Edits.{map_over_more}
use Rattle.a429_keep.specs.declared.blocks.Block.{Block}
use Rattle.a429_keep.specs.declared.blocks.Stand.{Stand}
use Rattle.a429_keep.specs.Placing.{cleared, place_down, place_first, place_one}

pub cleared_more : (b : Block) (xs ys : List Stand) (i : ℕ) (x : Stand) → i < length xs → ys ≡ map (cleared b) (take i xs) ++ drop i xs → x ≡ get_or ys i x
    → set ys i (cleared b x) ≡ map (cleared b) (take (i + 1) xs) ++ drop (i + 1) xs
cleared_more b = map_over_more (cleared b)

pub first_none : (buses frame cells : ℕ) (stands : List Stand) → stands ≡ place_first buses frame cells 0 stands
unfolding place_first
first_none buses frame cells stands = refl

pub first_more : (buses frame cells o : ℕ) (stands : List Stand)
    → place_one buses frame cells o (place_first buses frame cells o stands) ≡ place_first buses frame cells (o + 1) stands
unfolding place_first
first_more buses frame cells o stands =
    let same : suc o ≡ o + 1 = omega arith in
    ap (λ n. place_first buses frame cells n stands) same

pub down_none : (buses frame : ℕ) (stands : List Stand) → place_down buses frame 0 stands ≡ stands
unfolding place_down
down_none buses frame stands = refl

pub down_more : (buses frame digits : ℕ) (stands : List Stand) → digits ≢ 0
    → place_down buses frame (digits - 1) (place_first buses frame (2 ^ (digits - 1)) (length stands) stands) ≡ place_down buses frame digits stands
unfolding place_down
down_more buses frame zero stands more = absurd (more refl)
down_more buses frame (suc digits) stands more =
    let same : suc digits - 1 ≡ digits = omega arith in
    ap (λ d. place_down buses frame d (place_first buses frame (2 ^ d) (length stands) stands)) same
