-- A byte order mark, as the library `csv` skips it.
use Rattle.std.proofs.Common.{◌≡◌, ℕ, Bool, true, false, List, [], ◌∷◌, ap, refl}
use Rattle.std.specs.Prelude.{◌==◌, ◌&&◌, if◌then◌else◌}
use Rattle.csv.specs.Reading.{strip_bom}
use Rattle.a429_text.specs.CutText.{without_byte_order_mark}

and_assoc : (a b c : Bool) → ((a && b) && c) ≡ (a && (b && c))
and_assoc true b c = refl
and_assoc false b c = refl

pub same_mark : (text : List ℕ) → strip_bom text ≡ without_byte_order_mark text
unfolding strip_bom
same_mark [] = refl
same_mark (a ∷ []) = refl
same_mark (a ∷ b ∷ []) = refl
same_mark (a ∷ b ∷ c ∷ rest) = ap (λ (t : Bool). if t then rest else a ∷ b ∷ c ∷ rest) (and_assoc (a == 239) (b == 187) (c == 191))
