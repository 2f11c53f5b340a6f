-- the definitions at small lines
use Rattle.std.proofs.Common.{◌≡◌, [], ◌∷◌, ◌++◌, refl}
use Rattle.std.specs.Prelude.{replicate}
use Rattle.a429_word.specs.Bits.{ones_from}
use Rattle.a429_line.specs.Reports.{reports, rest, runs, runs_from, first_piece, later_pieces, number}
use Rattle.a429_line.specs.Slots.{bits_from}
use Rattle.a429_line.specs.declared.found.Symbol.TheVariants.{Hi, Null}
use Rattle.a429_line.specs.declared.found.Found.TheVariants.{Word, Short, Long, Gap}

row_gap : reports (replicate 3 Null ++ bits_from 1 32 0x6000_00c1) ≡ Gap 3 ∷ []
unfolding reports runs runs_from first_piece later_pieces number bits_from ones_from
row_gap = refl

row_word : reports (replicate 4 Null ++ bits_from 1 32 0x6000_00c1 ++ Null ∷ []) ≡ Word 0x6000_00c1 ∷ []
unfolding reports runs runs_from first_piece later_pieces number bits_from ones_from
row_word = refl

row_rest : rest (replicate 4 Null ++ bits_from 1 32 0x6000_00c1) ≡ 32
unfolding rest runs runs_from first_piece later_pieces number bits_from ones_from
row_rest = refl

row_short : reports (replicate 4 Null ++ bits_from 1 31 0x6000_00c1 ++ Null ∷ []) ≡ Short 31 ∷ []
unfolding reports runs runs_from first_piece later_pieces number bits_from ones_from
row_short = refl

row_long : reports (replicate 4 Null ++ bits_from 1 32 0x6000_00c1 ++ Hi ∷ []) ≡ Long ∷ []
unfolding reports runs runs_from first_piece later_pieces number bits_from ones_from
row_long = refl
