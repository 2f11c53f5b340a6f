-- What some words say, after one more word.
use Rattle.std.proofs.Common.{◌≡◌, ℕ, ℤ, ◌-◌, ◌^◌, ◌<◌, List, [], ◌∷◌, ◌++◌, Option, Some, None, length, refl, ap, ap₂, sym, ◌∙◌, append-nil}
use Rattle.std.specs.Int.{int_max, int_min}
use Rattle.std.specs.List.{cons_option}
use Rattle.std.proofs.lemmas.List.Elements.{filter_map-append}
use Rattle.a429_survey.specs.declared.extents.Extent.{Extent}
use Rattle.a429_survey.specs.declared.extents.Extents.{Extents}
use Rattle.a429_survey.specs.declared.figures.Figures.{Figures}
use Rattle.a429_survey.specs.declared.lines.RowFigures.{RowFigures}
use Rattle.a429_survey.specs.Data.{bcd_data, bnr_data, said_by}
use Rattle.a429_survey.specs.Figures.{Noted}
use Rattle.a429_survey.specs.Kept.{extent_of, extents_of, extents_with, row_figures, row_figures_with, widened}
use Rattle.a429_survey.proofs.FiguresMore.{figures_more, fold_more}

extent_more : (ns : List ℤ) (said : Option ℤ) → widened said (extent_of ns) ≡ extent_of (ns ++ cons_option said [])
extent_more ns None = ap extent_of (sym (append-nil ns))
extent_more [] (Some n) = refl
extent_more (m ∷ ns) (Some n) =
    ap₂ (λ (low high : ℤ). Some (record { least = low; greatest = high })) (sym (fold_more int_min m ns n)) (sym (fold_more int_max m ns n))

said_more : (reading : ℕ → Option ℤ) (ws : List Noted) (w : Noted) → widened (reading w.raw) (extent_of (said_by reading ws)) ≡ extent_of (said_by reading (ws ++ w ∷ []))
said_more reading ws w =
    extent_more (said_by reading ws) (reading w.raw) ∙ ap extent_of (sym (filter_map-append (λ (v : Noted). reading v.raw) ws (w ∷ [])))

same_extents : (b c b' c' : Option Extent) → b ≡ b' → c ≡ c' → ◌≡◌ {A = Extents} record { bnr = b; bcd = c } record { bnr = b'; bcd = c' }
same_extents b c b' c' p q = rw (p, q) refl

extents_more : (ws : List Noted) (w : Noted) → extents_with w.raw (extents_of ws) ≡ extents_of (ws ++ w ∷ [])
extents_more ws w = same_extents _ _ _ _ (said_more bnr_data ws w) (said_more bcd_data ws w)

same_row_figures : (f f' : Figures) (e e' : Extents) → f ≡ f' → e ≡ e' → ◌≡◌ {A = RowFigures} record { common = f; said = e } record { common = f'; said = e' }
same_row_figures f f' e e' p q = rw (p, q) refl

pub row_figures_more : (ws : List Noted) (w : Noted) → length ws < 2 ^ 64 - 1 → row_figures_with w.time w.raw (row_figures ws) ≡ row_figures (ws ++ w ∷ [])
unfolding row_figures row_figures_with
row_figures_more ws w few = same_row_figures _ _ _ _ (figures_more ws w few) (extents_more ws w)
