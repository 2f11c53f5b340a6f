-- Lines that are digits, a blank, a name, a blank and a word, byte by byte.
use Rattle.std.proofs.Common.{◌≡◌, ◌∙◌, ◌+◌, ◌*◌, ◌<◌, ◌∷◌, ◌++◌, [], ℕ, suc, Bool, true, false, List, drop, get_or, length, take, refl, sym, ap, subst, arith}
use Rattle.std.specs.Prelude.{◌==◌, ◌&&◌, ◌||◌, Option, Some, None, if◌then◌else◌, nat_lt, not, option_and_then, position}
use Rattle.std.specs.List.{list_all, onto_first, position_or_len}
use Rattle.std.specs.Char.{is_ascii_digit}
use Rattle.std.proofs.lemmas.Bool.{and_parts}
use Rattle.std.proofs.lemmas.Bool.Decides.{nat_tests}
use Rattle.std.proofs.lemmas.List.{drop_more, take-append-drop}
use Rattle.std.proofs.lemmas.List.Folds.{list_all-append}
use Rattle.std.proofs.lemmas.List.Splits.{slice_split-cons_no, slice_split-cons_yes}
use Rattle.std.proofs.lemmas.Option.{cond_some}
use Rattle.a429_word.specs.Hexadecimal.{hex_digit, hex_onto, raw_word}
use Rattle.a429_logs.specs.LogFields.{has_quotes, is_separator, is_quote, parts_of}
use Rattle.a429_logs.specs.LogRows.{whole_word}
use Rattle.a429_logs.specs.LogTimes.{decimal_digits}
use Rattle.a429_logs.specs.QuickRows.{ends_name, is_gap}
use Rattle.a429_logs.specs.declared.fields.Separator.TheVariants.{Blank}
use Rattle.a429_logs.proofs.PlainRows.{number}

-- a byte within a field
abbrev pub is_inner : ℕ → Bool
is_inner b = not (ends_name b)

abbrev pub is_plain : ℕ → Bool
is_plain b = not (is_quote b)

pub both_true : {a b : Bool} → a ≡ true → b ≡ true → (a && b) ≡ true
both_true e f = rw (e, f) refl

-- ---- bytes

inner_no_blank : (b : ℕ) → is_inner b ≡ true → is_separator Blank b ≡ false
inner_no_blank b inner = grind (arith, nat_tests)

inner_plain : (b : ℕ) → is_inner b ≡ true → is_plain b ≡ true
inner_plain b inner = grind (arith, nat_tests)

pub blank_plain : (b : ℕ) → is_separator Blank b ≡ true → is_plain b ≡ true
blank_plain b blank = grind (arith, nat_tests)

pub gap_blank : (b : ℕ) → is_gap b ≡ true → is_separator Blank b ≡ true
gap_blank b gap = grind (arith, nat_tests)

digit_inner : (b : ℕ) → is_ascii_digit b ≡ true → is_inner b ≡ true
digit_inner b digit = grind (arith, nat_tests)

hex_inner : (c d : ℕ) → hex_digit c ≡ Some d → is_inner c ≡ true
hex_inner c d is = grind (arith, nat_tests)

-- ---- fields

digits-inner : (xs : List ℕ) → list_all is_ascii_digit xs ≡ true → list_all is_inner xs ≡ true
digits-inner [] all = refl
digits-inner (x ∷ xs) all =
    let both = and_parts (is_ascii_digit x) (list_all is_ascii_digit xs) all in
    both_true (digit_inner x both.0) (digits-inner xs both.1)

pub number-inner : (xs : List ℕ) (n : ℕ) → decimal_digits xs ≡ Some n → list_all is_inner xs ≡ true
number-inner xs n is = digits-inner xs (number xs n is).all

pub all_plain : (xs : List ℕ) → list_all is_inner xs ≡ true → list_all is_plain xs ≡ true
all_plain [] all = refl
all_plain (x ∷ xs) all =
    let both = and_parts (is_inner x) (list_all is_inner xs) all in
    both_true (inner_plain x both.0) (all_plain xs both.1)

hex_more : (n c : ℕ) (cs : List ℕ) (raw : ℕ) (o : Option ℕ) → hex_digit c ≡ o → option_and_then (λ d. hex_onto (n * 16 + d) cs) o ≡ Some raw
    → ((d : ℕ) → hex_onto (n * 16 + d) cs ≡ Some raw → list_all is_inner cs ≡ true) → list_all is_inner (c ∷ cs) ≡ true
hex_more n c cs raw None e is later = absurd (cc is)
hex_more n c cs raw (Some d) e is later = both_true (hex_inner c d e) (later d is)

hexes-inner : (n : ℕ) (cs : List ℕ) (raw : ℕ) → hex_onto n cs ≡ Some raw → list_all is_inner cs ≡ true
hexes-inner n [] raw is = refl
hexes-inner n (c ∷ cs) raw is = hex_more n c cs raw (hex_digit c) refl is (λ d later. hexes-inner (n * 16 + d) cs raw later)

pub raw_by : (b : Bool) (o : Option ℕ) (raw : ℕ) → (if b then o else None) ≡ Some raw → o ≡ Some raw
raw_by true o raw is = is
raw_by false o raw is = absurd (cc is)

raw-inner : (w : List ℕ) (raw : ℕ) → raw_word w ≡ Some raw → list_all is_inner w ≡ true
unfolding raw_word
raw-inner w raw is = hexes-inner 0 w raw (raw_by (length w == 8) (hex_onto 0 w) raw is)

prefix_by : (a b : ℕ) (digits : List ℕ) (raw : ℕ) (t : Bool) → (a == 48 && (b == 120 || b == 88)) ≡ t
    → raw_word (if t then digits else a ∷ b ∷ digits) ≡ Some raw → list_all is_inner (a ∷ b ∷ digits) ≡ true
prefix_by a b digits raw true e is =
    let first : is_inner a ≡ true = grind (arith, nat_tests) in
    let second : is_inner b ≡ true = grind (arith, nat_tests) in
    both_true first (both_true second (raw-inner digits raw is))
prefix_by a b digits raw false e is = raw-inner (a ∷ b ∷ digits) raw is

pub word-inner : (w : List ℕ) (raw : ℕ) → whole_word w ≡ Some raw → list_all is_inner w ≡ true
unfolding whole_word
word-inner [] raw is = refl
word-inner (a ∷ []) raw is = raw-inner (a ∷ []) raw is
word-inner (a ∷ b ∷ digits) raw is = prefix_by a b digits raw (a == 48 && (b == 120 || b == 88)) refl is

-- the bytes before the first one at which a name ends
name_by : (x : ℕ) (xs : List ℕ) (t : Bool) → ends_name x ≡ t → list_all is_inner (take (position_or_len ends_name xs) xs) ≡ true
    → list_all is_inner (take (position_or_len ends_name (x ∷ xs)) (x ∷ xs)) ≡ true
name_by x xs true e later = rw e refl
name_by x xs false e later =
    let m : ℕ = position_or_len ends_name xs in
    let one : 1 + m ≡ suc m = omega arith in
    let here : is_inner x ≡ true = rw e refl in
    rw (e, one) (both_true {a = is_inner x} {b = list_all is_inner (take m xs)} here later)

name_all : (xs : List ℕ) → list_all is_inner (take (position_or_len ends_name xs) xs) ≡ true
name_all [] = refl
name_all (x ∷ xs) = name_by x xs (ends_name x) refl (name_all xs)

pub name-inner : (xs : List ℕ) (k : ℕ) → position ends_name xs ≡ Some k → list_all is_inner (take k xs) ≡ true
name-inner xs k is =
    let at = cond_some (nat_lt (position_or_len ends_name xs) (length xs)) (position_or_len ends_name xs) k is in
    subst (λ (n : ℕ). list_all is_inner (take n xs) ≡ true) at.1 (name_all xs)

-- ---- lines

pub parts-first : (xs : List ℕ) (b : ℕ) (ys : List ℕ) → list_all is_inner xs ≡ true → is_separator Blank b ≡ true → parts_of Blank (xs ++ b ∷ ys) ≡ xs ∷ parts_of Blank ys
parts-first [] b ys all blank = slice_split-cons_yes (is_separator Blank) b ys blank
parts-first (x ∷ xs) b ys all blank =
    let both = and_parts (is_inner x) (list_all is_inner xs) all in
    slice_split-cons_no (is_separator Blank) x (xs ++ b ∷ ys) (inner_no_blank x both.0)
    ∙ ap (λ (l : List (List ℕ)). onto_first x l) (parts-first xs b ys both.1 blank)

pub parts-last : (xs : List ℕ) → list_all is_inner xs ≡ true → parts_of Blank xs ≡ xs ∷ []
parts-last [] all = refl
parts-last (x ∷ xs) all =
    let both = and_parts (is_inner x) (list_all is_inner xs) all in
    slice_split-cons_no (is_separator Blank) x xs (inner_no_blank x both.0) ∙ ap (λ (l : List (List ℕ)). onto_first x l) (parts-last xs both.1)

none_at : (xs : List ℕ) → list_all is_plain xs ≡ true → position_or_len is_quote xs ≡ length xs
none_at [] all = refl
none_at (x ∷ xs) all =
    let both = and_parts (is_plain x) (list_all is_plain xs) all in
    let here : is_quote x ≡ false = grind (arith, nat_tests, both.0) in
    rw here (let later = none_at xs both.1 in omega (arith, later))

pub no_quotes : (xs : List ℕ) → list_all is_plain xs ≡ true → has_quotes xs ≡ false
no_quotes xs all =
    let end = none_at xs all in
    let none : nat_lt (position_or_len is_quote xs) (length xs) ≡ false = grind (arith, nat_tests, end) in
    rw none refl

-- a line and its three parts
pub record IsLine (line t n w : List ℕ) : Type 0 where
  pub plain : has_quotes line ≡ false
  pub parts : parts_of Blank line ≡ t ∷ n ∷ w ∷ []

pub joined : (t n w : List ℕ) (b c : ℕ) → list_all is_inner t ≡ true → list_all is_inner n ≡ true → list_all is_inner w ≡ true
    → is_gap b ≡ true → is_gap c ≡ true → IsLine (t ++ b ∷ (n ++ c ∷ w)) t n w
joined t n w b c first second third blank later =
    record {
      plain =
          no_quotes (t ++ b ∷ (n ++ c ∷ w))
          (list_all-append is_plain t (b ∷ (n ++ c ∷ w))
          ∙ both_true (all_plain t first)
          (both_true (blank_plain b (gap_blank b blank))
          (list_all-append is_plain n (c ∷ w) ∙ both_true (all_plain n second) (both_true (blank_plain c (gap_blank c later)) (all_plain w third)))));
      parts =
          parts-first t b (n ++ c ∷ w) first (gap_blank b blank)
          ∙ ap (λ (l : List (List ℕ)). t ∷ l) (parts-first n c w second (gap_blank c later) ∙ ap (λ (l : List (List ℕ)). n ∷ l) (parts-last w third));
    }

-- a list around one of its places
pub around : (xs : List ℕ) (i : ℕ) → i < length xs → take i xs ++ get_or xs i 0 ∷ drop (i + 1) xs ≡ xs
around xs i within = ap (λ (l : List ℕ). take i xs ++ l) (sym (drop_more xs i 0 within)) ∙ take-append-drop i xs

pub three_parts : (line rest t n w : List ℕ) (i j : ℕ) → i < length line → j < length rest
    → take i line ≡ t → drop (i + 1) line ≡ rest → take j rest ≡ n → drop (j + 1) rest ≡ w
    → list_all is_inner t ≡ true → list_all is_inner n ≡ true → list_all is_inner w ≡ true
    → is_gap (get_or line i 0) ≡ true → is_gap (get_or rest j 0) ≡ true → IsLine line t n w
three_parts line rest t n w i j within later ti ri nj wj first second third blank other =
    let inside : n ++ get_or rest j 0 ∷ w ≡ rest = rw (← nj, ← wj) (around rest j later) in
    let all : t ++ get_or line i 0 ∷ (n ++ get_or rest j 0 ∷ w) ≡ line = rw (inside, ← ri, ← ti) (around line i within) in
    subst (λ (l : List ℕ). IsLine l t n w) all (joined t n w (get_or line i 0) (get_or rest j 0) first second third blank other)
