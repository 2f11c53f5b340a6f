-- Texts without a byte, and their cuts at that byte.
use Rattle.std.proofs.Common.{rules, ◌≡◌, ◌+◌, ◌*◌, ℕ, Bool, true, false, cond, List, [], ◌∷◌, ◌++◌, ◌<◌, length, drop, take, take-append-drop, get_or, length-drop, ◌∙◌, ◌-◌, sym, ap, arith, refl, eq-eqb}
use Rattle.std.specs.Prelude.{◌==◌, Option, Some, None, option_and_then}
use Rattle.std.proofs.lemmas.List.{drop_more, take_all}
use Rattle.a429_word.specs.Hexadecimal.{hex_digit, hex_onto, raw_word}
use Rattle.a429_text.specs.CutText.{cut}
use Rattle.a429_text.proofs.CutLines.{cut-cons}

-- a text without b that begins with x
none_by : (b x : ℕ) (xs : List ℕ) (t : Bool) (o : Option (List ℕ × List ℕ)) → (x == b) ≡ t → cut b xs ≡ o → cut b (x ∷ xs) ≡ None → (t ≡ false) × (o ≡ None)
none_by b x xs true o e c none = let some = rw (cut-cons b x xs, e) at none in cc
none_by b x xs false (Some p) e c none = let some = rw (cut-cons b x xs, e, c) at none in cc
none_by b x xs false None e c none = (refl, refl)

none_parts : (b x : ℕ) (xs : List ℕ) → cut b (x ∷ xs) ≡ None → ((x == b) ≡ false) × (cut b xs ≡ None)
none_parts b x xs none = none_by b x xs (x == b) (cut b xs) refl refl none

none_cons : (b x : ℕ) (xs : List ℕ) → (x == b) ≡ false → cut b xs ≡ None → cut b (x ∷ xs) ≡ None
none_cons b x xs other none = rw (cut-cons b x xs, other, none) refl

pub cut-nil : (b : ℕ) → cut b [] ≡ None
unfolding cut
cut-nil b = refl

-- the first b after a text without b
pub cut-after : (b : ℕ) (xs rest : List ℕ) → cut b xs ≡ None → cut b (xs ++ b ∷ rest) ≡ Some (xs, rest)
cut-after b [] rest none = rw (cut-cons b b rest, eq-eqb b b refl) refl
cut-after b (x ∷ xs) rest none =
    let parts = none_parts b x xs none in
    rw (cut-cons b x (xs ++ b ∷ rest), parts.0, cut-after b xs rest parts.1) refl

pub cut_none-append : (b : ℕ) (xs ys : List ℕ) → cut b xs ≡ None → cut b ys ≡ None → cut b (xs ++ ys) ≡ None
cut_none-append b [] ys first later = later
cut_none-append b (x ∷ xs) ys first later =
    let parts = none_parts b x xs first in
    none_cons b x (xs ++ ys) parts.0 (cut_none-append b xs ys parts.1 later)

pub cut_none-cons : (b x : ℕ) (xs : List ℕ) → (x == b) ≡ false → cut b xs ≡ None → cut b (x ∷ xs) ≡ None
cut_none-cons b x xs other none = none_cons b x xs other none

-- ---- hexadecimal digits

digit_by : (c d : ℕ) (t : Bool) → (c == 10) ≡ t → hex_digit c ≡ Some d → t ≡ false
digit_by c d true e is = let ten : c ≡ 10 = search rules in let none = rw ten at is in cc
digit_by c d false e is = refl

onto_by : (n c m : ℕ) (cs : List ℕ) (o : Option ℕ) → hex_digit c ≡ o → option_and_then (λ d. hex_onto (n * 16 + d) cs) o ≡ Some m → (d : ℕ) × (hex_digit c ≡ Some d) × (hex_onto (n * 16 + d) cs ≡ Some m)
onto_by n c m cs None e is = cc
onto_by n c m cs (Some d) e is = (d, e, is)

onto_plain : (n m : ℕ) (cs : List ℕ) → hex_onto n cs ≡ Some m → cut 10 cs ≡ None
onto_plain n m [] is = cut-nil 10
onto_plain n m (c ∷ cs) is =
    let (d, digit, later) = onto_by n c m cs (hex_digit c) refl is in
    none_cons 10 c cs (digit_by c d (c == 10) refl digit) (onto_plain (n * 16 + d) m cs later)

word_by : (text : List ℕ) (raw : ℕ) (t : Bool) → cond t (hex_onto 0 text) None ≡ Some raw → hex_onto 0 text ≡ Some raw
word_by text raw true is = is
word_by text raw false is = cc

-- a raw word has no line feed among its digits
pub raw_word_plain : (text : List ℕ) (raw : ℕ) → raw_word text ≡ Some raw → cut 10 text ≡ None
unfolding raw_word
raw_word_plain text raw is = onto_plain 0 raw text (word_by text raw (length text == 8) is)

-- ---- texts cut by the code

-- a text that begins with a name and the byte end
pub named_front : (name text : List ℕ) (end : ℕ) → length name < length text → get_or text (length name) 0 ≡ end → take (length name) text ≡ name
    → text ≡ name ++ end ∷ take (length text - (length name + 1)) (drop (length name + 1) text)
named_front name text end below ends same =
    let n = length name in
    let after : take (length text - (n + 1)) (drop (n + 1) text) ≡ drop (n + 1) text = take_all _ _ (omega (arith, length-drop (n + 1) text)) in
    let left : drop n text ≡ end ∷ drop (n + 1) text = drop_more text n 0 below ∙ ap (λ (x : ℕ). x ∷ drop (n + 1) text) ends in
    sym (take-append-drop n text) ∙ (ap (λ (xs : List ℕ). xs ++ drop n text) same ∙ (ap (λ (xs : List ℕ). name ++ xs) left ∙ ap (λ (xs : List ℕ). name ++ end ∷ xs) (sym after)))

-- the text after this number of bytes, as the code cuts it
pub whole_rest : (n : ℕ) (text : List ℕ) → take (length text - n) (drop n text) ≡ drop n text
whole_rest n text = take_all _ _ (omega (arith, length-drop n text))
