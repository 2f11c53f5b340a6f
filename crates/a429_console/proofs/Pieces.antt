-- Texts in pieces.
use Rattle.std.proofs.Common.{◌≡◌, ◌∷◌, ◌++◌, [], ℕ, List, ap, sym}
use Rattle.std.specs.declared.vec.Vec.{Vec}
use Rattle.std.specs.declared.alloc.Global.{Global}
use Rattle.a429_logs.specs.Logs.{joined}
use Rattle.a429_console.specs.Files.{bytes_of}

-- the last piece is cut at a line feed
pub joined-cut : (pieces : List (Vec ℕ Global)) (piece front rest : Vec ℕ Global) → piece.items ≡ front.items ++ 10 ∷ rest.items
    → joined (bytes_of ((pieces ++ front ∷ []) ++ rest ∷ [])) ≡ joined (bytes_of (pieces ++ piece ∷ []))
joined-cut [] piece front rest cut = sym cut
joined-cut (before ∷ []) piece front rest cut = ap (λ text. before.items ++ 10 ∷ text) (sym cut)
joined-cut (before ∷ next ∷ pieces) piece front rest cut = ap (λ text. before.items ++ 10 ∷ text) (joined-cut (next ∷ pieces) piece front rest cut)
