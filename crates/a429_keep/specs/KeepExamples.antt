-- Blocks of outputs in a frame of 4 slots (profile: docs/RULES.md, Plans that stay). Its cells are those of the offsets 0, 2, 1, 3.
use Rattle.std.specs.Prelude.{◌≡◌, ℕ, [], ◌∷◌, None, Some, map}
use Rattle.a429_keep.specs.declared.blocks.Stand.{Stand}
use Rattle.a429_keep.specs.Places.{block_start}
use Rattle.a429_keep.specs.Placing.{place_all}
use Rattle.a429_keep.specs.Spots.{spot_on}

-- an output of one cell, which begins here
abbrev one_at : ℕ → Stand
one_at start = record { cells = 1; start = Some start }

pub record AreExamples : Type 0 where
  -- the places of outputs with a period of 4 slots
  pub starts : map (block_start 2 2 0) (0 ∷ 2 ∷ 1 ∷ 3 ∷ []) ≡ 0 ∷ 1 ∷ 2 ∷ 3 ∷ []
  -- an output of one cell goes next to another one, and leaves the free half whole
  pub smallest : spot_on 1 2 1 (one_at 3 ∷ []) ≡ Some (record { cells = 1; start = 2; moved = 0 })
  -- an output of two cells finds no free half: the first of two equal ones is taken
  pub moved : spot_on 1 2 2 (one_at 0 ∷ one_at 2 ∷ []) ≡ Some (record { cells = 2; start = 0; moved = 1 })
  -- and the output in it goes to the last free cell
  pub placed : place_all 1 2 (record { cells = 2; start = None } ∷ one_at 0 ∷ one_at 2 ∷ []) ≡ record { cells = 2; start = Some 0 } ∷ one_at 3 ∷ one_at 2 ∷ []
