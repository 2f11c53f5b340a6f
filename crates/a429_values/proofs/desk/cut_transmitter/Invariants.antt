use Rattle.a429_values.proofs.desk.cut_transmitter.Given as goal

abbrev pub ghosts-cut_transmitter_as : goal.ghosts-cut_transmitter_as
ghosts-cut_transmitter_as a = record { number = a.number }
