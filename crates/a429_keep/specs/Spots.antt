-- The best block for an output that has none (profile: docs/RULES.md, Plans that stay): the smallest free one that has room for it;
-- otherwise the one of its own size from which the fewest outputs move, all of them smaller. Of equal ones it is the first.
use Rattle.std.specs.Prelude.{ℕ, zero, suc, ◌+◌, ◌*◌, ◌^◌, ◌==◌, ◌&&◌, ◌||◌, Bool, Option, Some, None, List, count_by, if◌then◌else◌, nat_le, nat_lt, unwrap_or}
use Rattle.std.specs.List.{list_any}
use Rattle.a429_keep.specs.declared.blocks.Block.{Block}
use Rattle.a429_keep.specs.declared.blocks.Stand.{Stand}
use Rattle.a429_keep.specs.declared.spots.Spot.{Spot}
use Rattle.a429_keep.specs.Blocks.{fills, is_in}

-- fewer outputs move, or equally many and it is smaller
abbrev pub is_better : Spot → Spot → Bool
is_better a b = nat_lt a.moved b.moved || (a.moved == b.moved && nat_lt a.cells b.cells)

-- the second if it is better, otherwise the first
abbrev pub better : Option Spot → Option Spot → Option Spot
better None b = b
better a None = a
better (Some a) (Some b) = if is_better b a then Some b else Some a

-- the whole block: it is free, or an output of its size is in it, or it has the size that is asked for and smaller outputs are in
-- it; otherwise its halves have to be looked at
unfoldable pub spot_of_whole : Block → ℕ → List Stand → Option (Option Spot)
spot_of_whole b cells stands =
    let moved = count_by (is_in b) stands in
    let spot : Spot = record { cells = b.cells; start = b.start; moved = moved } in
    if moved == 0 then Some (Some spot)
    else (if list_any (fills b) stands then Some None else (if nat_le b.cells cells then Some (Some spot) else None))

-- the best spot for an output of this number of cells in the block of 2^digits cells that begins here
unfoldable pub spot_in : ℕ → ℕ → ℕ → List Stand → Option Spot
spot_in zero start cells stands = unwrap_or (spot_of_whole (record { cells = 1; start = start }) cells stands) None
spot_in (suc digits) start cells stands =
    unwrap_or (spot_of_whole (record { cells = 2 ^ suc digits; start = start }) cells stands)
    (better (spot_in digits start cells stands) (spot_in digits (start + 2 ^ digits) cells stands))

-- on these buses, each with 2^frame cells in a frame
unfoldable pub spot_on : ℕ → ℕ → ℕ → List Stand → Option Spot
spot_on zero frame cells stands = None
spot_on (suc bus) frame cells stands = better (spot_on bus frame cells stands) (spot_in frame (bus * 2 ^ frame) cells stands)
