-- Bytes that are cut into parts, part by part.
use Rattle.std.proofs.Common.{cond, ◌≡◌, ◌∙◌, ◌++◌, ◌∷◌, [], ◌+◌, ◌<◌, ◌≤◌, ℕ, List, Option, None, Some, length, take, drop, get_or, option_map, refl, ap, sym}
use Rattle.std.proofs.lemmas.Bool.{le-leb, lt-leb}
use Rattle.std.proofs.lemmas.List.{append_assoc, at_drop_more}
use Rattle.a429_page.specs.Parts.{parts_of}

-- a part that comes after those that are there, or before those that are left
joined : (got : List (List ℕ)) (part : List ℕ) (left : Option (List (List ℕ)))
    → option_map (λ (more : List (List ℕ)). got ++ more) (option_map (λ parts. part ∷ parts) left) ≡ option_map (λ (more : List (List ℕ)). (got ++ part ∷ []) ++ more) left
joined got part None = refl
joined got part (Some parts) = ap Some (sym (append_assoc got (part ∷ []) parts))

-- the parts from a size on, if the bytes are enough for it
pub parts_of-taken : (got : List (List ℕ)) (sizes : List ℕ) (i : ℕ) (rest : List ℕ) → i < length sizes → get_or sizes i 0 ≤ length rest
    → option_map (λ (more : List (List ℕ)). (got ++ take (get_or sizes i 0) rest ∷ []) ++ more) (parts_of (drop (i + 1) sizes) (drop (get_or sizes i 0) rest))
    ≡ option_map (λ (more : List (List ℕ)). got ++ more) (parts_of (drop i sizes) rest)
unfolding parts_of
parts_of-taken got sizes i rest more enough =
    let left = parts_of (drop (i + 1) sizes) (drop (get_or sizes i 0) rest) in
    let step : parts_of (drop i sizes) rest ≡ option_map (λ parts. take (get_or sizes i 0) rest ∷ parts) left =
    at_drop_more (λ s. parts_of s rest) sizes i 0 more ∙ ap (λ b. cond b (option_map (λ parts. take (get_or sizes i 0) rest ∷ parts) left) None) (le-leb (get_or sizes i 0) (length rest) enough) in
    sym (ap (option_map (λ (more : List (List ℕ)). got ++ more)) step ∙ joined got (take (get_or sizes i 0) rest) left)

-- and if they are too few
pub parts_of-cut : (sizes : List ℕ) (i : ℕ) (rest : List ℕ) → i < length sizes → length rest < get_or sizes i 0 → parts_of (drop i sizes) rest ≡ None
unfolding parts_of
parts_of-cut sizes i rest more few =
    at_drop_more (λ s. parts_of s rest) sizes i 0 more
    ∙ ap (λ b. cond b (option_map (λ parts. take (get_or sizes i 0) rest ∷ parts) (parts_of (drop (i + 1) sizes) (drop (get_or sizes i 0) rest))) None) (lt-leb (get_or sizes i 0) (length rest) few)
