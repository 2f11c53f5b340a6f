-- The room of a caller.
use Rattle.std.specs.Prelude.{◌+◌, ◌++◌, ℕ, List, Bool, nat_le, length, drop}

-- both fit into a room
abbrev pub do_fit : List ℕ → List ℕ → List ℕ → Bool
do_fit out err room = nat_le (length out + length err) (length room)

-- a room with both at its begin
abbrev pub room_with : List ℕ → List ℕ → List ℕ → List ℕ
room_with out err room = out ++ (err ++ drop (length out + length err) room)
