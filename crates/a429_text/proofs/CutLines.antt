-- The lines of a text by its first line.
use Rattle.std.proofs.Common.{◌≡◌, ◌∙◌, ◌+◌, ℕ, suc, Bool, true, false, cond, List, take, drop, [], ◌∷◌, length, refl, sym, ap, arith, add-one}
use Rattle.std.specs.Prelude.{◌==◌, Option, Some, None, nat_lt, option_map, if◌then◌else◌}
use Rattle.std.specs.List.{position_or_len}
use Rattle.std.proofs.lemmas.Bool.Decides.{nat_tests}
use Rattle.a429_text.specs.CutText.{cut, joined_on, lines_of}

-- a byte before a cut
abbrev after_byte : ℕ → ℕ → List ℕ → Option (List ℕ × List ℕ) → Option (List ℕ × List ℕ)
after_byte b x xs later = if x == b then Some ([], xs) else option_map (λ p. (x ∷ p.0, p.1)) later

below_both : (m n : ℕ) → nat_lt (1 + m) (suc n) ≡ nat_lt m n
below_both m n = grind (arith, nat_tests)

zero_below : (n : ℕ) → nat_lt 0 (suc n) ≡ true
zero_below n = grind (arith, nat_tests)

abbrev around : List ℕ → ℕ → List ℕ × List ℕ
around xs k = (take k xs, drop (k + 1) xs)

abbrev byte_on : ℕ → List ℕ × List ℕ → List ℕ × List ℕ
byte_on x p = (x ∷ p.0, p.1)

-- a place after a byte
moved : (x m : ℕ) (xs : List ℕ) (u : Bool) → option_map (around (x ∷ xs)) (cond u (Some (1 + m)) None) ≡ option_map (byte_on x) (option_map (around xs) (cond u (Some m) None))
moved x m xs true = let one : 1 + m ≡ suc m = omega arith in rw (one, add-one, add-one) refl
moved x m xs false = refl

cut_on : (b x : ℕ) (xs : List ℕ) (t : Bool) → (x == b) ≡ t → cut b (x ∷ xs) ≡ after_byte b x xs (cut b xs)
unfolding cut
cut_on b x xs true e = rw (e, zero_below (length xs)) refl
cut_on b x xs false e =
    rw (e, below_both (position_or_len (λ y. y == b) xs) (length xs)) (moved x (position_or_len (λ y. y == b) xs) xs (nat_lt (position_or_len (λ y. y == b) xs) (length xs)))

pub cut-cons : (b x : ℕ) (xs : List ℕ) → cut b (x ∷ xs) ≡ after_byte b x xs (cut b xs)
cut-cons b x xs = cut_on b x xs (x == b) refl

-- the lines of a text by its first cut at a line feed
abbrev pub lines_by : Option (List ℕ × List ℕ) → List ℕ → List (List ℕ) × List ℕ
lines_by None text = ([], text)
lines_by (Some p) text = (p.0 ∷ (lines_of p.1).0, (lines_of p.1).1)

joined : (x : ℕ) (xs : List ℕ) (o : Option (List ℕ × List ℕ)) → joined_on x (lines_by o xs).0 (lines_by o xs).1 ≡ lines_by (option_map (λ p. (x ∷ p.0, p.1)) o) (x ∷ xs)
joined x xs None = refl
joined x xs (Some p) = refl

cut_or_joined : (x : ℕ) (xs : List ℕ) (t : Bool) → (x == 10) ≡ t → lines_of xs ≡ lines_by (cut 10 xs) xs → lines_of (x ∷ xs) ≡ lines_by (after_byte 10 x xs (cut 10 xs)) (x ∷ xs)
cut_or_joined x xs true e later = rw e refl
cut_or_joined x xs false e later = rw (e, later) (joined x xs (cut 10 xs))

pub lines-cut : (text : List ℕ) → lines_of text ≡ lines_by (cut 10 text) text
unfolding cut
lines-cut [] = refl
lines-cut (x ∷ xs) = cut_or_joined x xs (x == 10) refl (lines-cut xs) ∙ ap (λ (o : Option (List ℕ × List ℕ)). lines_by o (x ∷ xs)) (sym (cut-cons 10 x xs))
