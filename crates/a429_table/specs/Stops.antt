-- The root and the places of a walk, as the code holds them (vocabulary of contracts).
use Rattle.toml.specs.Data.{Data}
use Rattle.toml.specs.View.{view}
use Rattle.a429_table.specs.declared.table_index.TableIndex.{TableIndex}
use Rattle.a429_table.specs.declared.walk.Stop.{Stop as CodeStop}
use Rattle.a429_table.specs.Walk.{Stop}

abbrev pub stop_view : CodeStop → Stop
stop_view s = (s.place, view s.value.now)

abbrev pub table_of : TableIndex → Data
table_of n = view n.root.now
