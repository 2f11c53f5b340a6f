-- Blocks of cells, and the outputs that have one (profile: layout). Places of cells are counted bus by bus, and on a bus by the
-- slot with its digits in reverse, so that the cells of an output are a block.
use Rattle.std.specs.Prelude.{ℕ, ◌+◌, ◌&&◌, Bool, false, nat_le, nat_lt}
use Rattle.std.specs.Option.{option_map_or}
use Rattle.a429_keep.specs.declared.blocks.Block.{Block}
use Rattle.a429_keep.specs.declared.blocks.Stand.{Stand}

-- the place after its last cell
abbrev pub end_of : Block → ℕ
end_of b = b.start + b.cells

-- the two have a cell in common
abbrev pub meet : Block → Block → Bool
meet a b = nat_lt a.start (end_of b) && nat_lt b.start (end_of a)

-- the output has a cell of the block
abbrev pub is_in : Block → Stand → Bool
is_in b s = option_map_or (λ start. meet b (record { cells = s.cells; start = start })) s.start false

-- and has at least as many cells as the block
abbrev pub fills : Block → Stand → Bool
fills b s = is_in b s && nat_le b.cells s.cells
