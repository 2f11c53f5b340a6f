-- The bytes of files, as lists of numbers (vocabulary of contracts).
use Rattle.std.specs.Prelude.{ℕ, List, map}
use Rattle.std.specs.declared.vec.Vec.{Vec}
use Rattle.std.specs.declared.alloc.Global.{Global}
use Rattle.a429_logs.specs.Logs.{joined}

-- the bytes of several files
abbrev pub bytes_of : List (Vec ℕ Global) → List (List ℕ)
bytes_of files = map (λ f. f.items) files

-- the texts of several logs, of which each is in pieces
abbrev pub logs_of : List (Vec (Vec ℕ Global) Global) → List (List ℕ)
logs_of logs = map (λ pieces. joined (bytes_of pieces.items)) logs
