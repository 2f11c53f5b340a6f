-- The figures of a line.
use Rattle.std.proofs.Common.{◌≡◌, ℕ, zero, suc, ◌+◌, ◌<◌, ◌==◌, List, [], ◌∷◌, Result, Ok, Err, OnErr, cond, map, set, refl, ap, sym, ◌∙◌}
use Rattle.std.specs.Prelude.{slice_index_or}
use Rattle.std.specs.List.{range_with_len}
use Rattle.a429_survey.specs.declared.figures.Figures.{Figures}
use Rattle.a429_survey.specs.declared.lines.Pair.{Pair}
use Rattle.a429_survey.specs.declared.lines.RowFigures.{RowFigures}
use Rattle.a429_survey.specs.Kept.{LineKept, figures_of, figures_with, line_of, line_with, no_figures, no_row_figures, row_figures, row_figures_with, place_of}
use Rattle.a429_survey.specs.Pairs.{figures_at}
use Rattle.a429_survey.proofs.Pairs.{all_changed, at_all}

none_mapped : (from count : ℕ) → map (figures_at []) (range_with_len from count) ≡ map (λ place. row_figures []) (range_with_len from count)
unfolding figures_of row_figures
none_mapped from zero = refl
none_mapped from (suc count) = ap (λ (fs : List RowFigures). no_row_figures ∷ fs) (none_mapped (from + 1) count)

-- the line of a name with no words
pub new_line : (name text : List ℕ) (none : Figures) (pairs : List Pair) → text ≡ name → none ≡ no_figures → pairs ≡ []
    → ◌≡◌ {A = LineKept} record { name = text; all = none; each = map (figures_at pairs) (range_with_len 0 1024) } (line_of name [])
unfolding line_of figures_of row_figures
new_line name text none pairs text_is none_is pairs_is =
    let line : List ℕ → Figures → List RowFigures → LineKept = λ n f fs. record { name = n; all = f; each = fs } in
    ap (λ (n : List ℕ). line n none (map (figures_at pairs) (range_with_len 0 1024))) text_is
    ∙ ap (λ (f : Figures). line name f (map (figures_at pairs) (range_with_len 0 1024))) none_is
    ∙ ap (line name no_figures) (ap (λ (ps : List Pair). map (figures_at ps) (range_with_len 0 1024)) pairs_is ∙ none_mapped 0 1024)

-- a line with one more word
pub noted_line : (time raw : ℕ) (name : List ℕ) (all next : Figures) (pairs new : List Pair) (old : LineKept)
    → ◌≡◌ {A = LineKept} record { name = name; all = all; each = map (figures_at pairs) (range_with_len 0 1024) } old
    → next ≡ figures_with time raw all → place_of raw < 1024
    → ((place : ℕ) → figures_at new place ≡ cond (place_of raw == place) (row_figures_with time raw (figures_at pairs (place_of raw))) (figures_at pairs place))
    → ◌≡◌ {A = LineKept} record { name = name; all = next; each = map (figures_at new) (range_with_len 0 1024) } (line_with time raw old)
unfolding line_with
noted_line time raw name all next pairs new old old_is next_is small new_is =
    let each = map (figures_at pairs) (range_with_len 0 1024) in
    let kept : slice_index_or each (place_of raw) no_row_figures ≡ figures_at pairs (place_of raw) = at_all (figures_at pairs) (place_of raw) no_row_figures small in
    let changed : map (figures_at new) (range_with_len 0 1024) ≡ set each (place_of raw) (row_figures_with time raw (slice_index_or each (place_of raw) no_row_figures)) =
    all_changed (figures_at pairs) (figures_at new) (place_of raw) (row_figures_with time raw (figures_at pairs (place_of raw))) small new_is
    ∙ ap (λ f. set each (place_of raw) (row_figures_with time raw f)) (sym kept) in
    rw (next_is, changed, ← old_is) refl

-- the figures at a place
pub read_figures : (name : List ℕ) (all : Figures) (figures : RowFigures) (pairs : List Pair) (place : ℕ) (old : LineKept)
    → ◌≡◌ {A = LineKept} record { name = name; all = all; each = map (figures_at pairs) (range_with_len 0 1024) } old
    → place < 1024 → figures ≡ figures_at pairs place → figures ≡ slice_index_or old.each place no_row_figures
read_figures name all figures pairs place old old_is small is =
    is ∙ sym (at_all (figures_at pairs) place no_row_figures small) ∙ ap (λ (l : LineKept). slice_index_or l.each place no_row_figures) old_is

-- what holds, holds after an error too
pub on_err : {T E P : Type 0} (r : Result T E) → P → OnErr r P
on_err (Ok x) p = tt
on_err (Err e) p = p

-- a line with the same pairs is the same
pub kept_line : (name : List ℕ) (all : Figures) (pairs new : List Pair) (old : LineKept)
    → ◌≡◌ {A = LineKept} record { name = name; all = all; each = map (figures_at pairs) (range_with_len 0 1024) } old → new ≡ pairs
    → ◌≡◌ {A = LineKept} record { name = name; all = all; each = map (figures_at new) (range_with_len 0 1024) } old
kept_line name all pairs new old old_is new_is =
    let line : List RowFigures → LineKept = λ fs. record { name = name; all = all; each = fs } in
    ap line (ap (λ (ps : List Pair). map (figures_at ps) (range_with_len 0 1024)) new_is) ∙ old_is
