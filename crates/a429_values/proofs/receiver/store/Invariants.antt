use Rattle.a429_values.proofs.receiver.store.Given as goal

abbrev pub ghosts-store_as : goal.ghosts-store_as
ghosts-store_as a = record { number = a.word }
