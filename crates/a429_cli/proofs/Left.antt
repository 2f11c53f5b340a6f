-- Nothing was put.
use Rattle.std.proofs.Common.{[], ℕ, List, sym, append-nil}
use Rattle.std.specs.Prelude.{Option, None, Some}
use Rattle.std.specs.Io.KnownBytes.{Appends}

pub none_put : (known : Option (List ℕ)) → Appends known known []
none_put None = tt
none_put (Some bytes) = sym (append-nil bytes)
