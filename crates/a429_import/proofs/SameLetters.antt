-- Headings that begin with the same letter.
use Rattle.std.proofs.Common.{◌≡◌, ◌<◌, ℕ, List, [], ◌∷◌, arith, length, true}
use Rattle.a429_import.specs.Letters.{begin_alike}

pub begins : (before : ℕ) (left : List ℕ) (other : ℕ) (right : List ℕ) → begin_alike before left other right ≡ true → 0 < length left
begins before [] other right is = cc is
begins before (b ∷ left) other right is = omega arith
