-- The first line of a text, and the others.
use Rattle.std.proofs.Common.{◌≡◌, ℕ, suc, ◌+◌, ◌<◌, ◌≤◌, Bool, true, false, cond, ltb, eqb, not, List, [], ◌∷◌, length, take, drop, Some, None, refl, ◌∙◌, arith, position, one-add, inl, inr}
use Rattle.std.specs.List.{onto_first, position_or_len}
use Rattle.std.proofs.lemmas.Bool.{cases_lt, le-ltb, lt-ltb}
use Rattle.std.proofs.lemmas.List.Quantifiers.{position-Some}
use Rattle.std.proofs.lemmas.List.Sums.{prefix_len-le-length}
use Rattle.a429_cert.specs.Lines.{lines_of, line_at, line_end, after_place}

-- the same by recursion on the text
abbrev first_length : List ℕ → ℕ
first_length [] = 0
first_length (b ∷ bs) = cond (eqb b 10) 1 (1 + first_length bs)

placed : (b : Bool) (p n : ℕ) → after_place (cond b (Some p) None) n ≡ cond b (p + 1) n
placed true p n = refl
placed false p n = refl

next_place : (b : Bool) (p n r : ℕ) → p ≤ n → cond (ltb p n) (p + 1) n ≡ r
    → cond (ltb (cond (not b) (1 + p) 0) (suc n)) (cond (not b) (1 + p) 0 + 1) (suc n) ≡ cond b 1 (1 + r)
next_place true p n r h e = rw (lt-ltb 0 (suc n) (omega arith)) (omega arith)
next_place false p n r h e =
    elim (cases_lt p n) [
      | inl lt ↦ let t = lt-ltb p n lt in rw (lt-ltb (1 + p) (suc n) (omega arith)) (omega (arith, rw t at e))
      | inr le ↦ let t = le-ltb p n le in rw (le-ltb (1 + p) (suc n) (omega arith)) (omega (arith, rw t at e))
    ]

by_place : (bs : List ℕ) → cond (ltb (position_or_len (λ b. eqb b 10) bs) (length bs)) (position_or_len (λ b. eqb b 10) bs + 1) (length bs) ≡ first_length bs
by_place [] = refl
by_place (b ∷ bs) = next_place (eqb b 10) (position_or_len (λ b. eqb b 10) bs) (length bs) (first_length bs) (prefix_len-le-length (λ x. not (eqb x 10)) bs) (by_place bs)

end_is : (bs : List ℕ) → line_end bs ≡ first_length bs
end_is bs = placed (ltb (position_or_len (λ b. eqb b 10) bs) (length bs)) (position_or_len (λ b. eqb b 10) bs) (length bs) ∙ by_place bs

pub feed_within : (text : List ℕ) (place : ℕ) → position (λ b. eqb b 10) text ≡ Some place → place < length text
feed_within text place h = (position-Some _ text place 0 h).0

within_more : (b : Bool) (n r : ℕ) → r ≤ n → cond b 1 (1 + r) ≤ suc n
within_more true n r h = omega arith
within_more false n r h = omega arith

first_within : (bs : List ℕ) → first_length bs ≤ length bs
first_within [] = omega arith
first_within (b ∷ bs) = within_more (eqb b 10) (length bs) (first_length bs) (first_within bs)

pub end_within : (text : List ℕ) → line_end text ≤ length text
end_within text = rw (end_is text) (first_within text)

onto_line : (b : ℕ) (lines : List (List ℕ)) → line_at (onto_first b lines) 0 ≡ b ∷ line_at lines 0
onto_line b [] = refl
onto_line b (l ∷ ls) = refl

onto_rest : (b : ℕ) (lines : List (List ℕ)) → drop 1 (onto_first b lines) ≡ drop 1 lines
onto_rest b [] = refl
onto_rest b (l ∷ ls) = refl

line_more : (t : Bool) (b : ℕ) (bs : List ℕ) (lines : List (List ℕ)) → take (first_length bs) bs ≡ line_at lines 0
    → take (cond t 1 (1 + first_length bs)) (b ∷ bs) ≡ line_at (cond t ((b ∷ []) ∷ lines) (onto_first b lines)) 0
line_more true b bs lines h = refl
line_more false b bs lines h = rw (one-add, onto_line b lines, ← h) refl

line_first : (text : List ℕ) → take (first_length text) text ≡ line_at (lines_of text) 0
line_first [] = refl
line_first (b ∷ bs) = line_more (eqb b 10) b bs (lines_of bs) (line_first bs)

rest_more : (t : Bool) (b : ℕ) (bs : List ℕ) (lines : List (List ℕ)) → lines_of bs ≡ lines → lines_of (drop (first_length bs) bs) ≡ drop 1 lines
    → lines_of (drop (cond t 1 (1 + first_length bs)) (b ∷ bs)) ≡ drop 1 (cond t ((b ∷ []) ∷ lines) (onto_first b lines))
rest_more true b bs lines e h = e
rest_more false b bs lines e h = rw (one-add, onto_rest b lines) h

rest_first : (text : List ℕ) → lines_of (drop (first_length text) text) ≡ drop 1 (lines_of text)
rest_first [] = refl
rest_first (b ∷ bs) = rest_more (eqb b 10) b bs (lines_of bs) refl (rest_first bs)

pub line_cut : (text : List ℕ) → take (line_end text) text ≡ line_at (lines_of text) 0
line_cut text = rw (end_is text) (line_first text)

pub rest_cut : (text : List ℕ) → lines_of (drop (line_end text) text) ≡ drop 1 (lines_of text)
rest_cut text = rw (end_is text) (rest_first text)
