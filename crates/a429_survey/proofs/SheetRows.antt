-- The rows by figures are those of the words.
use Rattle.std.proofs.Common.{◌≡◌, ℕ, ℤ, zero, suc, ◌+◌, ◌-◌, ◌*◌, ◌<◌, List, [], ◌∷◌, ◌++◌, Bool, true, false, cond, length, map, refl, ap, ap₂, sym, ◌∙◌, arith, zero-add, append-nil}
use Rattle.std.specs.Prelude.{None, Option, Some, codes, count_by, filter, flat_map, fold, if◌then◌else◌, max, nat_lt, ◌==◌, ◌&&◌}
use Rattle.std.specs.Int.{div_ceil}
use Rattle.std.specs.List.{range_with_len}
use Rattle.std.proofs.lemmas.Bool.Decides.{nat_tests}
use Rattle.std.proofs.lemmas.List.FromFn.{get_or-map-range_with_len}
use Rattle.a429_text.specs.Fields.{Field, Text, Number, Absent}
use Rattle.a429_text.specs.Texts.{octal}
use Rattle.a429_word.proofs.Ones.{number_is}
use Rattle.a429_word.specs.Bits.{label_of, sdi_of}
use Rattle.a429_word.specs.Hexadecimal.{hex}
use Rattle.a429_survey.specs.Data.{bcd_data, bnr_data, data_fields, greatest_said, least_said, no_data_fields, said_by}
use Rattle.a429_survey.specs.Figures.{Noted, first_of, greatest_field, intervals, intervals_after, is_even, last_of, least_field, load_field, mean_field, times_of}
use Rattle.a429_survey.specs.Survey.{label_rows, name_rows, names_of, pair_row, pair_rows, rows_if_any, sdi_text, survey_row, survey_rows, words_of, words_with}
use Rattle.a429_survey.specs.Starts.{interval_field, longer_field, shorter_field, source_name, start_row, start_rows}
use Rattle.a429_survey.specs.Expected.{Expectation, comes_faster, comes_slower, compared_name, compared_row, expectation_for, pace_of, ssm_fields, verdict_of}
use Rattle.a429_survey.specs.Kept.{LineKept, extent_fields, extent_of, extents_of, figures_of, greatest_in, is_above, label_in, least_in, least_of, line_of, lines_of, load_in, longer_in, no_row_figures, pair_by, pair_in, place_of, row_figures, row_in, rows_by, rows_in, shorter_in, start_in, verdict_in, words_at}
use Rattle.a429_survey.specs.declared.rows.RowKind.{RowKind}
use Rattle.a429_survey.specs.declared.rows.RowKind.TheVariants as kind

-- ---- a row

least_is : (ws : List Noted) → (if nat_lt 1 (length ws) then Number (least_of (intervals (times_of ws))) else Absent) ≡ least_field (intervals (times_of ws))
least_is [] = refl
least_is (w ∷ []) = refl
least_is (w ∷ v ∷ ws) =
    let several : nat_lt 1 (length (w ∷ v ∷ ws)) ≡ true = grind (arith, nat_tests) in
    rw several refl

from_zero : (n : ℕ) (ns : List ℕ) → fold max 0 (n ∷ ns) ≡ fold max n ns
from_zero n ns = let first : max 0 n ≡ n = omega arith in ap (λ (m : ℕ). fold max m ns) first

greatest_is : (ws : List Noted) → (if nat_lt 1 (length ws) then Number (fold max 0 (intervals (times_of ws))) else Absent) ≡ greatest_field (intervals (times_of ws))
greatest_is [] = refl
greatest_is (w ∷ []) = refl
greatest_is (w ∷ v ∷ ws) =
    let several : nat_lt 1 (length (w ∷ v ∷ ws)) ≡ true = grind (arith, nat_tests) in
    rw several (ap (λ (n : ℕ). Number n) (from_zero (v.time - w.time) (intervals_after v.time (times_of ws))))

row_is : (name : List ℕ) (label sdi load : Field) (ws : List Noted) → row_in name label sdi load (figures_of ws) ≡ survey_row name label sdi load ws
unfolding row_in survey_row figures_of
row_is name label sdi load ws =
    ap₂ (λ (least greatest : Field).
    Text name ∷ label ∷ sdi ∷ Number (length ws) ∷ Number (count_by is_even ws) ∷ least ∷ mean_field ws ∷ greatest ∷ Number (first_of (times_of ws)) ∷ Number (last_of (times_of ws))
    ∷ Text (hex (last_of (map (λ w. w.raw) ws))) ∷ load ∷ []) (least_is ws) (greatest_is ws)

-- ---- a row for `import`

shorter_is : (slack : ℕ) (ws : List Noted) → shorter_in slack (figures_of ws) ≡ shorter_field slack (intervals (times_of ws))
unfolding figures_of
shorter_is slack [] = refl
shorter_is slack (w ∷ []) = refl
shorter_is slack (w ∷ v ∷ ws) =
    let several : nat_lt 1 (length (w ∷ v ∷ ws)) ≡ true = grind (arith, nat_tests) in
    rw several refl

longer_is : (slack : ℕ) (ws : List Noted) → longer_in slack (figures_of ws) ≡ longer_field slack (intervals (times_of ws))
unfolding figures_of
longer_is slack [] = refl
longer_is slack (w ∷ []) = refl
longer_is slack (w ∷ v ∷ ws) =
    let several : nat_lt 1 (length (w ∷ v ∷ ws)) ≡ true = grind (arith, nat_tests) in
    rw several (ap (λ (n : ℕ). interval_field (div_ceil (n * (100 + slack)) 100)) (from_zero (v.time - w.time) (intervals_after v.time (times_of ws))))

start_is : (slack rate : ℕ) (name : List ℕ) (label sdi : ℕ) (ws : List Noted) → start_in slack rate name label sdi (figures_of ws) ≡ start_row slack rate name label sdi ws
unfolding start_in
start_is slack rate name label sdi ws =
    ap₂ (λ (shorter longer : Field).
    Absent ∷ Number rate ∷ Text (source_name name label sdi) ∷ Text name ∷ Text (octal label) ∷ Number sdi ∷ shorter ∷ longer ∷ []) (shorter_is slack ws) (longer_is slack ws)

-- ---- what a table says

slow_none : (greatest : Option ℕ) → comes_slower greatest [] ≡ false
slow_none None = refl
slow_none (Some us) = refl

pace_none : (e : Expectation) → codes "expected" ≡ pace_of e []
pace_none e = ap (λ (slow : Bool). if slow then codes "slow" else codes "expected") (sym (slow_none e.greatest))

slow_is : (greatest : Option ℕ) (n : ℕ) (ns : List ℕ) → is_above (fold max 0 (n ∷ ns)) greatest ≡ comes_slower greatest (n ∷ ns)
slow_is None n ns = refl
slow_is (Some us) n ns = ap (nat_lt us) (from_zero n ns)

verdict_is : (e : Option Expectation) (ws : List Noted) → verdict_in e (figures_of ws) ≡ verdict_of e ws
unfolding figures_of
verdict_is None ws = refl
verdict_is (Some e) [] = pace_none e
verdict_is (Some e) (w ∷ []) = pace_none e
verdict_is (Some e) (w ∷ v ∷ ws) =
    let several : nat_lt 1 (length (w ∷ v ∷ ws)) ≡ true = grind (arith, nat_tests) in
    let n : ℕ = v.time - w.time in
    let ns : List ℕ = intervals_after v.time (times_of ws) in
    rw several (ap (λ (slow : Bool). if comes_faster e.least (n ∷ ns) then codes "fast" else (if slow then codes "slow" else codes "expected")) (slow_is e.greatest n ns))

-- ---- the data

low_is : (ns : List ℤ) → least_in (extent_of ns) ≡ least_said ns
low_is [] = refl
low_is (n ∷ ns) = refl

high_is : (ns : List ℤ) → greatest_in (extent_of ns) ≡ greatest_said ns
high_is [] = refl
high_is (n ∷ ns) = refl

same_fields : (a b c d a' b' c' d' : Field) → a ≡ a' → b ≡ b' → c ≡ c' → d ≡ d' → a ∷ b ∷ c ∷ d ∷ [] ≡ a' ∷ b' ∷ c' ∷ d' ∷ []
same_fields a b c d a' b' c' d' p q r s = rw (p, q, r, s) refl

data_is : (ws : List Noted) → extent_fields (extents_of ws) ≡ data_fields ws
data_is ws =
    same_fields _ _ _ _ _ _ _ _ (low_is (said_by bnr_data ws)) (high_is (said_by bnr_data ws)) (low_is (said_by bcd_data ws)) (high_is (said_by bcd_data ws))

-- ---- the row of a label and an SDI, by what is asked for

abbrev asked_pair : RowKind → ℕ → List ℕ → ℕ → ℕ → List Noted → List Field
asked_pair kind.Figures rate name = pair_row name
asked_pair (kind.Starts slack) rate name = start_row slack rate name
asked_pair (kind.Compared expected) rate name = compared_row expected.now name

pair_by_is : (k : RowKind) (rate : ℕ) (name : List ℕ) (label sdi : ℕ) (ws : List Noted) → pair_by k rate name label sdi (row_figures ws) ≡ asked_pair k rate name label sdi ws
unfolding figures_of row_figures
pair_by_is kind.Figures rate name label sdi ws = row_is name (Text (octal label)) (Text (sdi_text sdi)) Absent ws
pair_by_is (kind.Starts slack) rate name label sdi ws = start_is slack rate name label sdi ws
pair_by_is (kind.Compared expected) rate name label sdi ws =
    let e : Option Expectation = expectation_for expected.now name label sdi in
    ap₂ (λ (row fields : List Field). row ++ (ssm_fields ws ++ (fields ++ Text (verdict_in e (figures_of ws)) ∷ []))) (row_is name (Text (octal label)) (Text (sdi_text sdi)) Absent ws) (data_is ws)
    ∙ ap (λ (text : List ℕ). pair_row name label sdi ws ++ (ssm_fields ws ++ (data_fields ws ++ Text text ∷ []))) (verdict_is e ws)

rows_by_is : (k : RowKind) (rate : ℕ) (name : List ℕ) (label sdi : ℕ) (ws : List Noted) → rows_by k rate name label sdi (row_figures ws) ≡ rows_if_any (asked_pair k rate name label sdi) ws
unfolding figures_of row_figures
rows_by_is k rate name label sdi [] = refl
rows_by_is k rate name label sdi (w ∷ ws) =
    let some : (length (w ∷ ws) == 0) ≡ false = grind (arith, nat_tests) in
    ap (λ (b : Bool). if b then [] else pair_by k rate name label sdi (row_figures (w ∷ ws)) ∷ []) some
    ∙ ap (λ (r : List Field). r ∷ []) (pair_by_is k rate name label sdi (w ∷ ws))

-- ---- the words of a row

filter_same : {X : Type 0} (p q : X → Bool) (xs : List X) → ((x : X) → p x ≡ q x) → filter p xs ≡ filter q xs
filter_same p q [] same = refl
filter_same {X} p q (x ∷ xs) same =
    ap (λ (b : Bool). cond b (x ∷ filter p xs) (filter p xs)) (same x) ∙ ap (λ (ys : List X). cond (q x) (x ∷ ys) ys) (filter_same p q xs same)

place_tests : (a b l s : ℕ) → b < 4 → s < 4 → (4 * a + b == 4 * l + s) ≡ (a == l && b == s)
place_tests a b l s small little = grind (arith, nat_tests)

pub words_same : (label sdi : ℕ) (ws : List Noted) → sdi < 4 → words_at (4 * label + sdi) ws ≡ words_with label sdi ws
words_same label sdi ws small =
    filter_same (λ (w : Noted). place_of w.raw == 4 * label + sdi) (λ (w : Noted). label_of w.raw == label && sdi_of w.raw == sdi) ws
    (λ w. place_tests (label_of w.raw) (sdi_of w.raw) label sdi (omega (arith, number_is 8 2 w.raw)) small)

pair_is : (k : RowKind) (rate : ℕ) (name : List ℕ) (ws : List Noted) (label sdi : ℕ) → label < 256 → sdi < 4
    → pair_in k rate (line_of name ws) label sdi ≡ rows_if_any (asked_pair k rate name label sdi) (words_with label sdi ws)
unfolding pair_in line_of
pair_is k rate name ws label sdi within small =
    let place : ℕ = 4 * label + sdi in
    ap (rows_by k rate name label sdi)
    (get_or-map-range_with_len (λ (i : ℕ). row_figures (words_at i ws)) 0 1024 (4 * label + sdi) (4 * label + sdi) no_row_figures (omega (arith, within, small)) (zero-add (4 * label + sdi))
    ∙ ap row_figures (words_same label sdi ws small))
    ∙ rows_by_is k rate name label sdi (words_with label sdi ws)

-- ---- all rows

flat_range : {Y : Type 0} (f g : ℕ → List Y) (from n : ℕ) → ((k : ℕ) → k < from + n → f k ≡ g k) → flat_map f (range_with_len from n) ≡ flat_map g (range_with_len from n)
flat_range f g from zero same = refl
flat_range {Y} f g from (suc n) same =
    ap (λ (ys : List Y). ys ++ flat_map f (range_with_len (from + 1) n)) (same from (omega arith))
    ∙ ap (λ (ys : List Y). g from ++ ys) (flat_range f g (from + 1) n (λ k within. same k (omega (arith, within))))

label_is : (k : RowKind) (rate : ℕ) (name : List ℕ) (ws : List Noted) (label : ℕ) → label < 256 → label_in k rate (line_of name ws) label ≡ label_rows (asked_pair k rate name) ws label
label_is k rate name ws label within =
    flat_range (pair_in k rate (line_of name ws) label) (λ (sdi : ℕ). rows_if_any (asked_pair k rate name label sdi) (words_with label sdi ws)) 0 4
    (λ sdi small. pair_is k rate name ws label sdi within (omega (arith, small)))

labels_are : (k : RowKind) (rate : ℕ) (name : List ℕ) (ws : List Noted) → flat_map (label_in k rate (line_of name ws)) (range_with_len 0 256) ≡ pair_rows (asked_pair k rate name) ws
labels_are k rate name ws =
    flat_range (label_in k rate (line_of name ws)) (label_rows (asked_pair k rate name) ws) 0 256 (λ label within. label_is k rate name ws label (omega (arith, within)))

last_row : (rate : ℕ) (name : List ℕ) (ws : List Noted) → row_in name Absent Absent (load_in rate (figures_of ws)) (figures_of ws) ≡ survey_row name Absent Absent (load_field rate ws) ws
unfolding figures_of
last_row rate name ws = row_is name Absent Absent (load_field rate ws) ws

-- the rows of a name, by what is asked for
abbrev asked_rows : RowKind → ℕ → List ℕ → List Noted → List (List Field)
asked_rows kind.Figures rate name ws = name_rows rate name ws
asked_rows (kind.Starts slack) rate name ws = pair_rows (start_row slack rate name) ws
asked_rows (kind.Compared expected) rate name ws = compared_name expected.now rate name ws

line_is : (k : RowKind) (rate : ℕ) (name : List ℕ) (ws : List Noted) → rows_in k rate (line_of name ws) ≡ asked_rows k rate name ws
unfolding line_of figures_of
line_is kind.Figures rate name ws =
    ap₂ (λ (rs : List (List Field)) (r : List Field). rs ++ r ∷ []) (labels_are kind.Figures rate name ws) (last_row rate name ws)
line_is (kind.Starts slack) rate name ws =
    append-nil (flat_map (label_in (kind.Starts slack) rate (line_of name ws)) (range_with_len 0 256)) ∙ labels_are (kind.Starts slack) rate name ws
line_is (kind.Compared expected) rate name ws =
    ap₂ (λ (rs : List (List Field)) (r : List Field). rs ++ (r ++ (ssm_fields ws ++ (no_data_fields ++ Absent ∷ []))) ∷ []) (labels_are (kind.Compared expected) rate name ws) (last_row rate name ws)

flat_mapped : (k : RowKind) (rate : ℕ) (ws : List Noted) (names : List (List ℕ)) → flat_map (rows_in k rate) (lines_of names ws) ≡ flat_map (λ name. asked_rows k rate name (words_of name ws)) names
flat_mapped k rate ws [] = refl
flat_mapped k rate ws (n ∷ names) = ap₂ (λ (rs qs : List (List Field)). rs ++ qs) (line_is k rate n (words_of n ws)) (flat_mapped k rate ws names)

pub asked_are : (k : RowKind) (rate : ℕ) (ws : List Noted) (lines : List LineKept) → lines ≡ lines_of (names_of ws) ws
    → flat_map (rows_in k rate) lines ≡ flat_map (λ name. asked_rows k rate name (words_of name ws)) (names_of ws)
asked_are k rate ws lines is = ap (flat_map (rows_in k rate)) is ∙ flat_mapped k rate ws (names_of ws)

pub sheet_is : (rate : ℕ) (ws : List Noted) (lines : List LineKept) → lines ≡ lines_of (names_of ws) ws → flat_map (rows_in kind.Figures rate) lines ≡ survey_rows rate ws
unfolding survey_rows
sheet_is rate ws lines is = asked_are kind.Figures rate ws lines is

pub starts_are : (slack rate : ℕ) (ws : List Noted) (lines : List LineKept) → lines ≡ lines_of (names_of ws) ws
    → flat_map (rows_in (kind.Starts slack) rate) lines ≡ start_rows slack rate ws
unfolding start_rows
starts_are slack rate ws lines is = asked_are (kind.Starts slack) rate ws lines is
