-- A name made of a text.
use Rattle.std.proofs.Common.{◌≡◌, ◌∙◌, ◌-◌, ◌≤◌, ◌++◌, ℕ, List, IsUtf8, length, take, drop, replicate, ap, sym, arith, subst}
use Rattle.std.proofs.lemmas.List.{drop-replicate, length-append, length-replicate, take-append-le, take_all, drop-append-le, drop_all}
use Rattle.a429_equipment.specs.InName.{IsNameInside}

pub inside_of : (text : List ℕ) → length text ≤ 16 → IsUtf8 text → IsNameInside (record { bytes = text ++ drop (length text) (replicate 16 0); len = length text })
inside_of text few valid =
    let n = length text in
    let rest : List ℕ = drop n (replicate 16 0) in
    let left : length rest ≡ 16 - n = ap length (drop-replicate n 16 0) ∙ length-replicate (16 - n) 0 in
    let all : take n (text ++ rest) ≡ text = take-append-le n text rest (omega arith) ∙ take_all n text (omega arith) in
    let none : drop n (text ++ rest) ≡ rest = drop-append-le n text rest (omega arith) ∙ ap (λ (xs : List ℕ). xs ++ rest) (drop_all n text (omega arith)) in
    record {
      size = omega (arith, length-append text rest, left, few);
      few = few;
      zeros = none ∙ drop-replicate n 16 0;
      text = ∣ subst IsUtf8 (sym all) valid ∣₁;
    }
