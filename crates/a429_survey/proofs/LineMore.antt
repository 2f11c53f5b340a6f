-- A line after one more word.
use Rattle.std.proofs.Common.{◌≡◌, ℕ, zero, suc, ◌+◌, ◌-◌, ◌*◌, ◌^◌, ◌<◌, ◌≤◌, List, [], ◌∷◌, ◌++◌, true, false, length, map, set, get_or, refl, sym, ap, subst, ◌∙◌, inl, inr, arith, zero-add}
use Rattle.std.specs.Prelude.{slice_index_or, ◌==◌}
use Rattle.std.specs.List.{range_with_len}
use Rattle.std.proofs.lemmas.Bool.{cases_eq, eqb-true}
use Rattle.std.proofs.lemmas.Bool.Decides.{nat_tests}
use Rattle.std.proofs.lemmas.List.{get_or-set_other, get_or-set_same, length-set}
use Rattle.std.proofs.lemmas.List.FromFn.{fill_by_all, get_or-map-range_with_len, length-map-range_with_len}
use Rattle.std.proofs.lemmas.List.Sums.{count_by-le-length, length-filter}
use Rattle.a429_word.proofs.Lists.{false_unless}
use Rattle.a429_word.proofs.Fields.{power_next}
use Rattle.a429_word.proofs.Ones.{number_is}
use Rattle.a429_word.specs.Bits.{bit, reversed_from}
use Rattle.a429_survey.specs.declared.figures.Figures.{Figures}
use Rattle.a429_survey.specs.declared.lines.RowFigures.{RowFigures}
use Rattle.a429_survey.specs.Figures.{Noted}
use Rattle.a429_survey.specs.Kept.{LineKept, line_of, line_with, no_row_figures, row_figures, row_figures_with, place_of, words_at}
use Rattle.a429_survey.proofs.DataMore.{row_figures_more}
use Rattle.a429_survey.proofs.FiguresMore.{figures_more, filter_more}

bit_cases : (bit power rest : ℕ) → bit < 2 → rest < power → bit * power + rest < power * 2
bit_cases zero power rest b r = omega arith
bit_cases (suc zero) power rest b r = omega arith
bit_cases (suc (suc bit)) power rest b r = absurd (omega arith)

reversed_small : (n count raw : ℕ) → reversed_from n count raw < 2 ^ count
unfolding reversed_from
reversed_small n zero raw = omega arith
reversed_small n (suc count) raw =
    let one : bit n raw < 2 = omega arith in
    subst (λ (p : ℕ). bit n raw * 2 ^ count + reversed_from (n + 1) count raw < p) (sym (power_next count))
    (bit_cases (bit n raw) (2 ^ count) (reversed_from (n + 1) count raw) one (reversed_small (n + 1) count raw))

pub place_small : (raw : ℕ) → place_of raw < 1024
place_small raw = omega (arith, reversed_small 1 8 raw, number_is 8 2 raw)

same_line : (name : List ℕ) (a b : Figures) (c d : List RowFigures) → a ≡ b → c ≡ d → ◌≡◌ {A = LineKept} record { name = name; all = a; each = c } record { name = name; all = b; each = d }
same_line name a b c d p q = rw (p, q) refl

pub line_more : (name : List ℕ) (ws : List Noted) (w : Noted) → length ws < 2 ^ 64 - 1 → line_with w.time w.raw (line_of name ws) ≡ line_of name (ws ++ w ∷ [])
unfolding line_of line_with
line_more name ws w few = same_line name _ _ _ _ (figures_more ws w few) each_is
  where
    place : ℕ
    place = place_of w.raw

    old : ℕ → RowFigures
    old k = row_figures (words_at k ws)

    new : ℕ → RowFigures
    new k = row_figures (words_at k (ws ++ w ∷ []))

    here : row_figures_with w.time w.raw (old place) ≡ new place
    here =
        let passes : (place_of w.raw == place) ≡ true = grind (arith, nat_tests) in
        let short : length (words_at place ws) ≤ length ws = omega (arith, length-filter (λ (x : Noted). place_of x.raw == place) ws, count_by-le-length (λ (x : Noted). place_of x.raw == place) ws) in
        row_figures_more (words_at place ws) w (omega (arith, short, few)) ∙ ap row_figures (sym (filter_more (λ (x : Noted). place_of x.raw == place) ws w true passes))

    elsewhere : (k : ℕ) → (k ≡ place → ⊥) → old k ≡ new k
    elsewhere k differs =
        let fails : (place_of w.raw == k) ≡ false = false_unless (place_of w.raw == k) (λ e. differs (sym (eqb-true (place_of w.raw) k e))) in
        ap row_figures (sym (filter_more (λ (x : Noted). place_of x.raw == k) ws w false fails))

    all : List RowFigures
    all = map old (range_with_len 0 1024)

    read : slice_index_or all place no_row_figures ≡ old place
    read = get_or-map-range_with_len old 0 1024 place place no_row_figures (place_small w.raw) (zero-add place)

    at : (k : ℕ) → k < 1024 → get_or (set all place (new place)) k no_row_figures ≡ new k
    at k within =
        elim (cases_eq k place) [
          | inl same ↦ rw same (get_or-set_same all place (new place) no_row_figures (subst (λ (n : ℕ). place < n) (sym (length-map-range_with_len old 0 1024)) (place_small w.raw)))
          | inr other ↦ get_or-set_other all place k (new place) no_row_figures other ∙ get_or-map-range_with_len old 0 1024 k k no_row_figures within (zero-add k) ∙ elsewhere k other
        ]

    each_is : set all place (row_figures_with w.time w.raw (slice_index_or all place no_row_figures)) ≡ map new (range_with_len 0 1024)
    each_is =
        ap (λ (f : RowFigures). set all place f) (ap (row_figures_with w.time w.raw) read ∙ here)
        ∙ fill_by_all new (set all place (new place)) 1024 no_row_figures (length-set all place (new place) ∙ length-map-range_with_len old 0 1024) at
