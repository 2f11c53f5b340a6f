use Rattle.a429_keep.proofs.spots.+spot_in.Given as goal

abbrev pub decreases-spot_in : goal.decreases-spot_in
decreases-spot_in l = l.digits
