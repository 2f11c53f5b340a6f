-- The blocks of the outputs of a group that do not stay (profile: docs/RULES.md, Plans that stay).
use Rattle.std.specs.Prelude.{ℕ, zero, suc, ◌==◌, ◌&&◌, ◌^◌, Bool, false, Option, Some, None, List, if◌then◌else◌, is_none, length, map, slice_get, slice_set}
use Rattle.std.specs.Option.{option_map_or}
use Rattle.a429_keep.specs.declared.blocks.Block.{Block}
use Rattle.a429_keep.specs.declared.blocks.Stand.{Stand}
use Rattle.a429_keep.specs.declared.spots.Spot.{Spot}
use Rattle.a429_keep.specs.Blocks.{is_in}
use Rattle.a429_keep.specs.Spots.{spot_on}

-- the output loses its block, if it has a cell of this one
abbrev pub cleared : Block → Stand → Stand
cleared b s = if is_in b s then record { cells = s.cells; start = None } else s

-- the output has this number of cells and no block
abbrev pub is_waiting : ℕ → Stand → Bool
is_waiting cells s = is_none s.start && s.cells == cells

-- output o has the block that begins here, and those with a cell of it have none
abbrev pub put : ℕ → ℕ → ℕ → List Stand → List Stand
put o cells start stands = slice_set (map (cleared (record { cells = cells; start = start })) stands) o (record { cells = cells; start = Some start })

-- on its spot, if there is one
abbrev pub put_on : ℕ → ℕ → Option Spot → List Stand → List Stand
put_on o cells None stands = stands
put_on o cells (Some spot) stands = put o cells spot.start stands

-- output o gets a block if it waits for one of this number of cells
abbrev pub place_one : ℕ → ℕ → ℕ → ℕ → List Stand → List Stand
place_one buses frame cells o stands =
    if option_map_or (is_waiting cells) (slice_get stands o) false then put_on o cells (spot_on buses frame cells stands) stands else stands

-- the first outputs in table order
unfoldable pub place_first : ℕ → ℕ → ℕ → ℕ → List Stand → List Stand
place_first buses frame cells zero stands = stands
place_first buses frame cells (suc o) stands = place_one buses frame cells o (place_first buses frame cells o stands)

-- those of fewer than 2^digits cells, the greatest first
unfoldable pub place_down : ℕ → ℕ → ℕ → List Stand → List Stand
place_down buses frame zero stands = stands
place_down buses frame (suc digits) stands = place_down buses frame digits (place_first buses frame (2 ^ digits) (length stands) stands)

-- those of 8192 cells first, which is a frame at most
abbrev pub place_all : ℕ → ℕ → List Stand → List Stand
place_all buses frame stands = place_down buses frame 14 stands
