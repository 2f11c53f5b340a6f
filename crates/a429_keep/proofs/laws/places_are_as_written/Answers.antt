use Rattle.std.proofs.Common.{refl}
use Rattle.a429_grid.specs.Reversal.{reversed}
use Rattle.a429_keep.specs.Placing.{place_down, place_first}
use Rattle.a429_keep.specs.Spots.{spot_in, spot_of_whole, spot_on}
use Rattle.a429_keep.proofs.laws.places_are_as_written.Goals as goal

pub returns : goal.returns
unfolding reversed spot_on spot_in spot_of_whole place_down place_first
returns c = record { starts = refl; smallest = refl; moved = refl; placed = refl }
