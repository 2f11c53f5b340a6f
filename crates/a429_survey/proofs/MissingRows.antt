-- What is missing by figures is missing by the words.
use Rattle.std.proofs.Common.{◌≡◌, ℕ, ◌+◌, ◌*◌, ◌<◌, ◌≤◌, List, [], ◌∷◌, ◌++◌, Bool, true, false, cond, length, map, refl, ap, ap₂, sym, ◌∙◌, arith, zero-add}
use Rattle.std.specs.Prelude.{flat_map, nat_lt, not, slice_index_or, ◌==◌, ◌&&◌, ◌||◌}
use Rattle.std.specs.List.{list_any, range_with_len}
use Rattle.std.proofs.lemmas.Bool.Decides.{nat_tests}
use Rattle.std.proofs.lemmas.List.{get_or_past}
use Rattle.std.proofs.lemmas.List.FromFn.{get_or-map-range_with_len, length-map-range_with_len}
use Rattle.a429_text.specs.Fields.{Field}
use Rattle.a429_survey.specs.Expected.{Expectation, compared_name, compared_rows, has_its, is_missing, is_on, is_seen, missing_if, takes_sdi}
use Rattle.a429_survey.specs.Figures.{Noted}
use Rattle.a429_survey.specs.Survey.{names_of, words_of, words_with}
use Rattle.a429_survey.specs.Kept.{LineKept, figures_of, has_at, has_in, is_seen_in, line_of, lines_of, missing_in, no_row_figures, place_of, row_figures, words_at}
use Rattle.a429_survey.specs.declared.lines.RowFigures.{RowFigures}
use Rattle.a429_survey.proofs.LineMore.{place_small}
use Rattle.a429_survey.proofs.SheetRows.{words_same}

-- no word is at a place from 1024 on
none_at : (place : ℕ) (ws : List Noted) → 1024 ≤ place → words_at place ws ≡ []
none_at place [] far = refl
none_at place (w ∷ ws) far =
    let other : (place_of w.raw == place) ≡ false = grind (arith, nat_tests, place_small w.raw, far) in
    ap (λ (b : Bool). cond b (w ∷ words_at place ws) (words_at place ws)) other ∙ none_at place ws far

figures_far : (b : Bool) (place : ℕ) (ws : List Noted) → nat_lt place 1024 ≡ b → slice_index_or (map (λ (i : ℕ). row_figures (words_at i ws)) (range_with_len 0 1024)) place no_row_figures ≡ row_figures (words_at place ws)
unfolding figures_of row_figures
figures_far true place ws near =
    let within : place < 1024 = grind (arith, nat_tests, near) in
    get_or-map-range_with_len (λ (i : ℕ). row_figures (words_at i ws)) 0 1024 place place no_row_figures within (zero-add place)
figures_far false place ws far =
    let past : 1024 ≤ place = grind (arith, nat_tests, far) in
    let all : List RowFigures = map (λ (i : ℕ). row_figures (words_at i ws)) (range_with_len 0 1024) in
    let count : length all ≡ 1024 = length-map-range_with_len (λ (i : ℕ). row_figures (words_at i ws)) 0 1024 in
    get_or_past all place no_row_figures (omega (arith, count, past)) ∙ sym (ap row_figures (none_at place ws past))

at_is : (e : Expectation) (name : List ℕ) (ws : List Noted) (sdi : ℕ) → sdi < 4 → has_at e (line_of name ws) sdi ≡ (takes_sdi e sdi && nat_lt 0 (length (words_with e.label sdi ws)))
unfolding line_of figures_of row_figures
at_is e name ws sdi small =
    let place : ℕ = 4 * e.label + sdi in
    ap (λ (p : RowFigures). takes_sdi e sdi && nat_lt 0 p.common.words) (figures_far (nat_lt place 1024) place ws refl)
    ∙ ap (λ (vs : List Noted). takes_sdi e sdi && nat_lt 0 (length vs)) (words_same e.label sdi ws small)

four : (a b c d p q r s : Bool) → a ≡ p → b ≡ q → c ≡ r → d ≡ s → (a || (b || (c || d))) ≡ (p || (q || (r || (s || false))))
four a b c true p q r s i j k l = rw (← i, ← j, ← k, ← l) refl
four a b c false p q r s i j k l = rw (← i, ← j, ← k, ← l) refl

its_is : (e : Expectation) (name : List ℕ) (ws : List Noted) → has_in e (line_of name ws) ≡ has_its e ws
its_is e name ws =
    let has : ℕ → Bool = λ sdi. takes_sdi e sdi && nat_lt 0 (length (words_with e.label sdi ws)) in
    four (has_at e (line_of name ws) 0) (has_at e (line_of name ws) 1) (has_at e (line_of name ws) 2) (has_at e (line_of name ws) 3) (has 0) (has 1) (has 2) (has 3)
    (at_is e name ws 0 (omega arith)) (at_is e name ws 1 (omega arith)) (at_is e name ws 2 (omega arith)) (at_is e name ws 3 (omega arith))

heard_is : (e : Expectation) (ws : List Noted) (names : List (List ℕ)) → list_any (λ (l : LineKept). is_on e l.name) (lines_of names ws) ≡ list_any (is_on e) names
unfolding line_of
heard_is e ws [] = refl
heard_is e ws (n ∷ names) = ap (λ (b : Bool). is_on e n || b) (heard_is e ws names)

seen_is : (e : Expectation) (ws : List Noted) (names : List (List ℕ)) → list_any (is_seen_in e) (lines_of names ws) ≡ list_any (is_seen e ws) names
unfolding line_of
seen_is e ws [] = refl
seen_is e ws (n ∷ names) = ap₂ (λ (a b : Bool). (is_on e n && a) || b) (its_is e n (words_of n ws)) (seen_is e ws names)

missing_is : (ws : List Noted) (lines : List LineKept) (e : Expectation) → lines ≡ lines_of (names_of ws) ws → missing_in lines e ≡ missing_if e (is_missing ws e)
missing_is ws lines e is =
    ap (λ (ls : List LineKept). missing_in ls e) is
    ∙ ap₂ (λ (a b : Bool). missing_if e (a && not b)) (heard_is e ws (names_of ws)) (seen_is e ws (names_of ws))

missing_are : (ws : List Noted) (lines : List LineKept) (expected : List Expectation) → lines ≡ lines_of (names_of ws) ws
    → flat_map (missing_in lines) expected ≡ flat_map (λ e. missing_if e (is_missing ws e)) expected
missing_are ws lines [] is = refl
missing_are ws lines (e ∷ es) is = ap₂ (λ (rs qs : List (List Field)). rs ++ qs) (missing_is ws lines e is) (missing_are ws lines es is)

-- the rows of all words, and then those of what is missing
pub compared_are : (rate : ℕ) (ws : List Noted) (lines : List LineKept) (expected : List Expectation) (rows : List (List Field)) → lines ≡ lines_of (names_of ws) ws
    → rows ≡ flat_map (λ name. compared_name expected rate name (words_of name ws)) (names_of ws) → rows ++ flat_map (missing_in lines) expected ≡ compared_rows expected rate ws
unfolding compared_rows
compared_are rate ws lines expected rows is rows_are = ap₂ (λ (rs qs : List (List Field)). rs ++ qs) rows_are (missing_are ws lines expected is)
