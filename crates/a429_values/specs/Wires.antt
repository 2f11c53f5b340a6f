-- What all ends of a hub have in common (vocabulary of contracts).
use Rattle.a429_values.specs.declared.wired.Wired.{Wired}
use Rattle.a429_values.specs.Ends.{Place}

abbrev pub place_of : Wired → Place
place_of w = record { hub = w.shared_words.shared.table_id; station = w.equipment }
