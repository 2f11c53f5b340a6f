-- Texts that begin with a row: digits, a blank, a name, a blank, a word and a line feed.
use Rattle.std.proofs.Common.{◌≡◌, ◌∙◌, ◌+◌, ◌*◌, ◌<◌, ◌∷◌, ◌++◌, [], ℕ, zero, suc, true, false, List, drop, get_or, length, take, refl, sym, ap, subst, arith, inl, inr}
use Rattle.std.specs.Prelude.{◌==◌, ◌&&◌, ◌||◌, Bool, Option, None, Some, Ok, if◌then◌else◌, filter_map, not, option_and_then, position}
use Rattle.std.specs.List.{list_all, onto_first}
use Rattle.std.specs.Char.{is_ascii_digit, is_ascii_whitespace}
use Rattle.std.proofs.lemmas.Bool.{and_parts, cases_lt}
use Rattle.std.proofs.lemmas.Bool.Decides.{nat_tests}
use Rattle.std.proofs.lemmas.List.{get_or-drop, length-drop, length-take, take_more}
use Rattle.std.proofs.lemmas.List.Folds.{list_all-append}
use Rattle.std.proofs.lemmas.List.Splits.{slice_split-cons_no, slice_split-cons_yes}
use Rattle.a429_word.specs.Hexadecimal.{hex_digit, hex_onto, raw_word}
use Rattle.a429_logs.specs.LogColumns.{plain_places}
use Rattle.a429_logs.specs.LogFields.{field_in, fields_of, has_quotes, is_separator, parts_of}
use Rattle.a429_logs.specs.LogRows.{in_micros, row_of, unreversed, whole_word}
use Rattle.a429_logs.specs.LogTimes.{decimal_digits}
use Rattle.a429_logs.specs.Logs.{is_passed_over}
use Rattle.a429_logs.specs.QuickRows.{IsWordSize, StartsPlain, ends_name, is_gap}
use Rattle.a429_logs.specs.declared.fields.Separator.TheVariants.{Blank, LineFeed}
use Rattle.a429_logs.specs.declared.times.TimeUnit.TheVariants.{Microseconds}
use Rattle.a429_logs.specs.declared.words.BitOrder.{BitOrder}
use Rattle.a429_logs.proofs.PassedLines.{passed_first}
use Rattle.a429_logs.proofs.PlainRows.{fields_row, filled, number}
use Rattle.a429_logs.proofs.QuickRows.{all_plain, around, blank_plain, both_true, gap_blank, is_inner, is_plain, name-inner, no_quotes, number-inner, parts-first, parts-last, raw_by, word-inner}

abbrev is_within : ℕ → Bool
is_within b = not (is_separator LineFeed b)

inner_within : (b : ℕ) → is_inner b ≡ true → is_within b ≡ true
inner_within b inner = grind (arith, nat_tests)

gap_within : (b : ℕ) → is_gap b ≡ true → is_within b ≡ true
gap_within b gap = grind (arith, nat_tests)

no_end : (b : ℕ) → is_within b ≡ true → is_separator LineFeed b ≡ false
no_end b within = grind (arith, nat_tests)

all_within : (xs : List ℕ) → list_all is_inner xs ≡ true → list_all is_within xs ≡ true
all_within [] all = refl
all_within (x ∷ xs) all =
    let both = and_parts (is_inner x) (list_all is_inner xs) all in
    both_true (inner_within x both.0) (all_within xs both.1)

line_first : (xs : List ℕ) (b : ℕ) (ys : List ℕ) → list_all is_within xs ≡ true → is_separator LineFeed b ≡ true
    → parts_of LineFeed (xs ++ b ∷ ys) ≡ xs ∷ parts_of LineFeed ys
line_first [] b ys all ends = slice_split-cons_yes (is_separator LineFeed) b ys ends
line_first (x ∷ xs) b ys all ends =
    let both = and_parts (is_within x) (list_all is_within xs) all in
    slice_split-cons_no (is_separator LineFeed) x (xs ++ b ∷ ys) (no_end x both.0)
    ∙ ap (λ (l : List (List ℕ)). onto_first x l) (line_first xs b ys both.1 ends)

-- a list around one of its places, up to a later one
pub around_take : (i : ℕ) (xs : List ℕ) (m : ℕ) → i < length xs → take (i + 1 + m) xs ≡ take i xs ++ get_or xs i 0 ∷ take m (drop (i + 1) xs)
around_take i [] m within = absurd (omega (arith, within))
around_take zero (x ∷ xs) m within = let one : 0 + 1 + m ≡ suc m = omega arith in rw one refl
around_take (suc i) (x ∷ xs) m within =
    let one : suc i + 1 + m ≡ suc (i + 1 + m) = omega arith in
    let other : suc i + 1 ≡ suc (i + 1) = omega arith in
    rw (one, other) (ap (λ (l : List ℕ). x ∷ l) (around_take i xs m (omega (arith, within))))

-- ---- the word and the end of a line

record EndsLine (e w : List ℕ) : Type 0 where
  pub plain : list_all is_plain e ≡ true
  pub within : list_all is_within e ≡ true
  pub fields : filter_map (field_in Blank) (parts_of Blank e) ≡ w ∷ []

ends_bare : (w : List ℕ) → list_all is_inner w ≡ true → 0 < length w → EndsLine w w
ends_bare w all some = record { plain = all_plain w all; within = all_within w all; fields = rw (parts-last w all, filled w some) refl }

ends_return : (w : List ℕ) → list_all is_inner w ≡ true → 0 < length w → EndsLine (w ++ 13 ∷ []) w
ends_return w all some =
    record {
      plain = list_all-append is_plain w (13 ∷ []) ∙ both_true (all_plain w all) refl;
      within = list_all-append is_within w (13 ∷ []) ∙ both_true (all_within w all) refl;
      fields = rw (parts-first w 13 [] all refl, filled w some) refl;
    }

ends_line : (last : List ℕ) (size : ℕ) → IsWordSize last size → list_all is_inner (take 8 last) ≡ true → EndsLine (take size last) (take 8 last)
ends_line last size S all =
    let many : 0 < length (take 8 last) = omega (arith, length-take 8 last, S.low, S.within) in
    elim (cases_lt 8 size) [
      | inl more ↦
          let nine : 9 ≡ size = omega (arith, S.high, more) in
          let inside : 8 < length last = omega (arith, S.within, more) in
          let two : take 9 last ≡ take 8 last ++ 13 ∷ [] = take_more last 8 0 inside ∙ ap (λ (b : ℕ). take 8 last ++ b ∷ []) (S.returns more) in
          subst (λ (k : ℕ). EndsLine (take k last) (take 8 last)) nine (subst (λ (e : List ℕ). EndsLine e (take 8 last)) (sym two) (ends_return (take 8 last) all many))
      | inr few ↦
          let eight : 8 ≡ size = omega (arith, S.low, few) in
          subst (λ (k : ℕ). EndsLine (take k last) (take 8 last)) eight (ends_bare (take 8 last) all many)
    ]

-- ---- a line

line_plain : (t n e w : List ℕ) (b c : ℕ) → list_all is_inner t ≡ true → list_all is_inner n ≡ true → EndsLine e w
    → is_gap b ≡ true → is_gap c ≡ true → list_all is_plain (t ++ b ∷ (n ++ c ∷ e)) ≡ true
line_plain t n e w b c first second E gap other =
    list_all-append is_plain t (b ∷ (n ++ c ∷ e))
    ∙ both_true (all_plain t first)
    (both_true (blank_plain b (gap_blank b gap))
    (list_all-append is_plain n (c ∷ e) ∙ both_true (all_plain n second) (both_true (blank_plain c (gap_blank c other)) E.plain)))

line_within : (t n e w : List ℕ) (b c : ℕ) → list_all is_inner t ≡ true → list_all is_inner n ≡ true → EndsLine e w
    → is_gap b ≡ true → is_gap c ≡ true → list_all is_within (t ++ b ∷ (n ++ c ∷ e)) ≡ true
line_within t n e w b c first second E gap other =
    list_all-append is_within t (b ∷ (n ++ c ∷ e))
    ∙ both_true (all_within t first)
    (both_true (gap_within b gap)
    (list_all-append is_within n (c ∷ e) ∙ both_true (all_within n second) (both_true (gap_within c other) E.within)))

line_fields : (t n e w : List ℕ) (b c : ℕ) → list_all is_inner t ≡ true → list_all is_inner n ≡ true → EndsLine e w
    → is_gap b ≡ true → is_gap c ≡ true → 0 < length t → 0 < length n → fields_of Blank (t ++ b ∷ (n ++ c ∷ e)) ≡ t ∷ n ∷ w ∷ []
unfolding fields_of
line_fields t n e w b c first second E gap other some full =
    let line = t ++ b ∷ (n ++ c ∷ e) in
    let plain : has_quotes line ≡ false = no_quotes line (line_plain t n e w b c first second E gap other) in
    let parts : parts_of Blank line ≡ t ∷ n ∷ parts_of Blank e =
    parts-first t b (n ++ c ∷ e) first (gap_blank b gap) ∙ ap (λ (l : List (List ℕ)). t ∷ l) (parts-first n c e second (gap_blank c other)) in
    rw (plain, parts, filled t some, filled n full, E.fields) refl

pub first_line : (text line : List ℕ) (end : ℕ) → end < length text → line ≡ take end text → list_all is_within line ≡ true
    → get_or text end 0 ≡ 10 → parts_of LineFeed text ≡ take end text ∷ parts_of LineFeed (drop (end + 1) text)
first_line text line end within is all ends =
    let separator : is_separator LineFeed (get_or text end 0) ≡ true = rw ends refl in
    let same : list_all is_within (take end text) ≡ true = subst (λ (l : List ℕ). list_all is_within l ≡ true) is all in
    ap (λ (l : List ℕ). parts_of LineFeed l) (sym (around text end within))
    ∙ line_first (take end text) (get_or text end 0) (drop (end + 1) text) same separator

-- ---- a line that begins with a digit

digit_stated : (t rest : List ℕ) → 0 < length t → list_all is_ascii_digit t ≡ true → is_passed_over (t ++ rest) ≡ false
digit_stated [] rest some all = absurd (omega (arith, some))
digit_stated (d ∷ ds) rest some all =
    let digit = (and_parts (is_ascii_digit d) (list_all is_ascii_digit ds) all).0 in
    let full : is_ascii_whitespace d ≡ false = grind (arith, nat_tests) in
    let other : (d == 35) ≡ false = grind (arith, nat_tests) in
    passed_first (d ∷ (ds ++ rest)) (omega arith) full ∙ other

pub number_stated : (t rest : List ℕ) (time : ℕ) → decimal_digits t ≡ Some time → is_passed_over (t ++ rest) ≡ false
number_stated t rest time is = let N = number t time is in digit_stated t rest N.some N.all

-- ---- words without a prefix

second_hex : (a b : ℕ) (ds : List ℕ) (raw : ℕ) (o : Option ℕ) → option_and_then (λ d. hex_onto (0 * 16 + d) (b ∷ ds)) o ≡ Some raw → hex_digit b ≡ None → ⊥
second_hex a b ds raw None is none = cc is
second_hex a b ds raw (Some d) is none =
    let gone : hex_onto (0 * 16 + d) (b ∷ ds) ≡ None = rw none refl in
    cc (gone, is)

no_prefix : (a b : ℕ) (ds : List ℕ) (raw : ℕ) (t : Bool) → (a == 48 && (b == 120 || b == 88)) ≡ t → raw_word (a ∷ b ∷ ds) ≡ Some raw
    → raw_word (if t then ds else a ∷ b ∷ ds) ≡ Some raw
unfolding raw_word
no_prefix a b ds raw true e is =
    let none : hex_digit b ≡ None = grind (arith, nat_tests) in
    absurd (second_hex a b ds raw (hex_digit a) (raw_by (length (a ∷ b ∷ ds) == 8) (hex_onto 0 (a ∷ b ∷ ds)) raw is) none)
no_prefix a b ds raw false e is = is

pub raw_whole : (w : List ℕ) (raw : ℕ) → raw_word w ≡ Some raw → whole_word w ≡ Some raw
unfolding whole_word
raw_whole [] raw is = is
raw_whole (a ∷ []) raw is = is
raw_whole (a ∷ b ∷ ds) raw is = no_prefix a b ds raw (a == 48 && (b == 120 || b == 88)) refl is

-- ---- the first row

pub starts_plain : (order : BitOrder) (text rest last : List ℕ) (i j size time raw : ℕ) → i < length text → drop (i + 1) text ≡ rest → j < length rest → drop (j + 1) rest ≡ last
    → IsWordSize last size → decimal_digits (take i text) ≡ Some time → is_gap (get_or text i 0) ≡ true
    → position ends_name rest ≡ Some j → 0 < j → is_gap (get_or rest j 0) ≡ true → raw_word (take 8 last) ≡ Some raw
    → StartsPlain order text (i + j + size + 2) (record { time = time; name = take j rest; raw = unreversed order raw })
starts_plain order text rest last i j size time raw inside from within after S time_is gap stops some other raw_is =
    let t = take i text in
    let n = take j rest in
    let w = take 8 last in
    let e = take size last in
    let b : ℕ = get_or text i 0 in
    let c : ℕ = get_or rest j 0 in
    let line = t ++ b ∷ (n ++ c ∷ e) in
    let word = raw_whole w raw raw_is in
    let first = number-inner t time time_is in
    let second = name-inner rest j stops in
    let E = ends_line last size S (word-inner w raw word) in
    let rest_long = length-drop (i + 1) text in
    let last_long = length-drop (j + 1) rest in
    let rest_is = ap (λ (l : List ℕ). length l) from in
    let last_is = ap (λ (l : List ℕ). length l) after in
    let below : i + j + size + 2 < length text = omega (arith, S.within) in
    let at : i + 1 + (j + 1 + size) ≡ i + j + size + 2 = omega arith in
    let inner : take (j + 1 + size) (drop (i + 1) text) ≡ n ++ c ∷ e =
    ap (λ (l : List ℕ). take (j + 1 + size) l) from ∙ (around_take j rest size within ∙ ap (λ (l : List ℕ). n ++ c ∷ take size l) after) in
    let line_is : line ≡ take (i + j + size + 2) text =
    sym (ap (λ (k : ℕ). take k text) (sym at) ∙ (around_take i text (j + 1 + size) inside ∙ ap (λ (l : List ℕ). t ++ b ∷ l) inner)) in
    let end_is : get_or text (i + j + size + 2) 0 ≡ 10 =
    ap (λ (k : ℕ). get_or text k 0) (sym at)
    ∙ (sym (get_or-drop (i + 1) text (j + 1 + size) 0)
    ∙ (ap (λ (l : List ℕ). get_or l (j + 1 + size) 0) from
    ∙ (sym (get_or-drop (j + 1) rest size 0) ∙ (ap (λ (l : List ℕ). get_or l size 0) after ∙ S.ends)))) in
    let long : 0 < length n = omega (arith, length-take j rest, within) in
    let N = number t time time_is in
    record {
      within = below;
      lines = first_line text line (i + j + size + 2) below line_is (line_within t n e w b c first second E gap other) end_is;
      stated = subst (λ (l : List ℕ). is_passed_over l ≡ false) line_is (number_stated t (b ∷ (n ++ c ∷ e)) time time_is);
      row =
          subst (λ (l : List ℕ). row_of Microseconds order Blank plain_places (fields_of Blank l) ≡ Ok (in_micros (record { time = time; name = n; raw = unreversed order raw }))) line_is
          (fields_row order line t n w time raw (line_fields t n e w b c first second E gap other N.some long) time_is word);
    }
