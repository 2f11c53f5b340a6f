use Rattle.a429_values.proofs.desk.cut_receiver.Given as goal

abbrev pub ghosts-cut_receiver_as : goal.ghosts-cut_receiver_as
ghosts-cut_receiver_as a = record { number = a.number }
