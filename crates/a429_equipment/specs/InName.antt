-- The inside of a name (vocabulary of contracts).
use Rattle.std.specs.Prelude.{◌≡◌, ◌≤◌, ◌-◌, ◌++◌, ℕ, List, IsUtf8, length, drop, replicate, take}
use Rattle.std.proofs.Common.{◌∙◌, ap, sym, arith, take-append-drop, length-take-le}
use Rattle.a429_equipment.specs.declared.names.Name.TheInside.{Inside}

-- zeros follow the text
pub record IsNameInside (n : Inside) : Type 0 where
  pub size : length n.bytes ≡ 16
  pub few : n.len ≤ 16
  pub zeros : drop n.len n.bytes ≡ replicate (16 - n.len) 0
  pub text : ∥ IsUtf8 (take n.len n.bytes) ∥₁

-- the text says what is inside
pub len_is : (n : Inside) → IsNameInside n → length (take n.len n.bytes) ≡ n.len
len_is n h = length-take-le n.len n.bytes (omega (arith, h.few, h.size))

pub bytes_are : (n : Inside) → IsNameInside n → take n.len n.bytes ++ replicate (16 - length (take n.len n.bytes)) 0 ≡ n.bytes
bytes_are n h =
    ap (λ (k : ℕ). take n.len n.bytes ++ replicate (16 - k) 0) (len_is n h)
    ∙ (ap (λ (z : List ℕ). take n.len n.bytes ++ z) (sym h.zeros) ∙ take-append-drop n.len n.bytes)
