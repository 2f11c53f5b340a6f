-- Rows that are added one after another.
use Rattle.std.proofs.Common.{◌≡◌, ℕ, suc, ◌+◌, ◌<◌, List, [], ◌∷◌, ◌++◌, length, get_or, take, sym, ap, ◌∙◌, arith, append-nil, append_assoc}
use Rattle.std.specs.Prelude.{flat_map}
use Rattle.std.specs.List.{range_with_len}
use Rattle.std.proofs.lemmas.List.{take_more}
use Rattle.std.proofs.lemmas.Grind.{flat_map-append}
use Rattle.a429_word.proofs.Lists.{range_next}

flat_more : {X Y : Type 0} (f : X → List Y) (xs : List X) (x : X) → flat_map f (xs ++ x ∷ []) ≡ flat_map f xs ++ f x
flat_more {X} {Y} f xs x = flat_map-append f xs (x ∷ []) ∙ ap (λ (ys : List Y). flat_map f xs ++ ys) (append-nil (f x))

range_more : (n : ℕ) → range_with_len 0 (n + 1) ≡ range_with_len 0 n ++ n ∷ []
range_more n =
    let e : n + 1 ≡ suc n = omega arith in
    let f : 0 + n ≡ n = omega arith in
    ap (range_with_len 0) e ∙ range_next 0 n ∙ ap (λ (x : ℕ). range_with_len 0 n ++ x ∷ []) f

pub range_rows : {Y : Type 0} (f : ℕ → List Y) (n : ℕ) (old now next : List Y) → now ≡ old ++ flat_map f (range_with_len 0 n) → next ≡ now ++ f n → next ≡ old ++ flat_map f (range_with_len 0 (n + 1))
range_rows {Y} f n old now next now_is next_is =
    next_is ∙ ap (λ (rs : List Y). rs ++ f n) now_is ∙ append_assoc old (flat_map f (range_with_len 0 n)) (f n)
    ∙ ap (λ (rs : List Y). old ++ rs) (sym (ap (flat_map f) (range_more n) ∙ flat_more f (range_with_len 0 n) n))

pub line_rows : {X Y : Type 0} (f : X → List Y) (xs : List X) (i : ℕ) (x : X) (now next : List Y) → i < length xs → x ≡ get_or xs i x → now ≡ flat_map f (take i xs) → next ≡ now ++ f x → next ≡ flat_map f (take (i + 1) xs)
line_rows {X} {Y} f xs i x now next within is now_is next_is =
    next_is ∙ ap (λ (rs : List Y). rs ++ f x) now_is ∙ sym (flat_more f (take i xs) x)
    ∙ ap (λ (y : X). flat_map f (take i xs ++ y ∷ [])) is
    ∙ ap (flat_map f) (sym (take_more xs i x within))

-- the same after rows that were there before
pub added_rows : {X Y : Type 0} (f : X → List Y) (xs : List X) (i : ℕ) (x : X) (old now next : List Y) → i < length xs → x ≡ get_or xs i x → now ≡ old ++ flat_map f (take i xs) → next ≡ now ++ f x
    → next ≡ old ++ flat_map f (take (i + 1) xs)
added_rows {X} {Y} f xs i x old now next within is now_is next_is =
    next_is ∙ ap (λ (rs : List Y). rs ++ f x) now_is ∙ append_assoc old (flat_map f (take i xs)) (f x)
    ∙ ap (λ (rs : List Y). old ++ rs)
    (sym (flat_more f (take i xs) x) ∙ ap (λ (y : X). flat_map f (take i xs ++ y ∷ [])) is ∙ ap (flat_map f) (sym (take_more xs i x within)))
