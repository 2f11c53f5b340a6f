-- The figures of each label and SDI, kept of those that came.
use Rattle.std.proofs.Common.{◌≡◌, ◌≢◌, ℕ, zero, suc, ◌+◌, ◌<◌, ◌≤◌, ◌==◌, List, [], ◌∷◌, cond, length, map, set, get_or, Result, Ok, Err, IfOk, IfErr, refl, sym, ap, subst, ◌∙◌, inl, inr, arith, zero-add}
use Rattle.std.specs.Prelude.{insert}
use Rattle.std.specs.List.{range_with_len}
use Rattle.std.specs.List.Sorted.{IsBinarySearchResult, IsNonDecreasingBy, IsSearchInRange}
use Rattle.std.specs.Ordering.{nat_cmp, ordering_index}
use Rattle.std.proofs.lemmas.Bool.{cases_order}
use Rattle.std.proofs.lemmas.Bool.Decides.{nat_tests}
use Rattle.std.proofs.lemmas.Cmp.{ranked}
use Rattle.std.proofs.lemmas.List.FromFn.{get_or-map-range_with_len}
use Rattle.std.proofs.lemmas.List.Sorted.{IsNonDecreasingBy-from_default}
use Rattle.a429_survey.specs.declared.lines.Pair.{Pair}
use Rattle.a429_survey.specs.declared.lines.RowFigures.{RowFigures}
use Rattle.a429_survey.specs.Kept.{no_row_figures, row_figures_with, place_of}
use Rattle.a429_survey.specs.Pairs.{AreFrom, IsGap, IsPlaceOf, figures_at}

-- a pair that no list has
other_pair : Pair
other_pair = record { place = 0; figures = no_row_figures }

-- ---- the order of places

-- each place is from the first on
pub from_le : (from : ℕ) (ps : List Pair) (i : ℕ) (d : Pair) → AreFrom from ps → i < length ps → from ≤ (get_or ps i d).place
from_le from [] i d h within = absurd (omega arith)
from_le from (p ∷ ps) zero d h within = h.0
from_le from (p ∷ ps) (suc i) d h within = omega (arith, h.0, from_le (p.place + 1) ps i d h.1 (omega arith))

-- places rise
pub rise : (from : ℕ) (ps : List Pair) (i j : ℕ) (d : Pair) → AreFrom from ps → i < j → j < length ps → (get_or ps i d).place < (get_or ps j d).place
rise from [] i j d h less within = absurd (omega arith)
rise from (p ∷ ps) i zero d h less within = absurd (omega arith)
rise from (p ∷ ps) zero (suc j) d h less within = omega (arith, from_le (p.place + 1) ps j d h.1 (omega arith))
rise from (p ∷ ps) (suc i) (suc j) d h less within = rise (p.place + 1) ps i j d h.1 (omega arith) (omega arith)

-- a search by place ends at its pair, or at the index of one that is added
comparisons_rise : (ps : List Pair) (place : ℕ) → AreFrom 0 ps → IsNonDecreasingBy (λ p. ordering_index (nat_cmp p.place place)) ps
comparisons_rise ps place h = IsNonDecreasingBy-from_default (λ p. ordering_index (nat_cmp p.place place)) ps other_pair (λ i j le within.
    let up : (get_or ps i other_pair).place ≤ (get_or ps j other_pair).place =
    elim (cases_order i j) [
      | inl same ↦ omega (arith, ap (λ k. (get_or ps k other_pair).place) same)
      | inr (inl less) ↦ omega (arith, rise 0 ps i j other_pair h less within)
      | inr (inr more) ↦ absurd (omega arith)
    ] in
    grind (arith, nat_tests, up))

pub searched : (ps : List Pair) (place : ℕ) (r : Result ℕ ℕ) → AreFrom 0 ps → IsSearchInRange r (length ps) → IsBinarySearchResult (λ p. nat_cmp p.place place) ps r
    → record { found : IfOk r (IsPlaceOf ps place); absent : IfErr r (IsGap ps place) }
searched ps place (Ok index) h in_range equal = record { found = record { within = in_range; is = λ d. ranked _ place _ (sym (equal d)) }; absent = tt }
searched ps place (Err index) h in_range parted = record {
  found = tt;
  absent = record {
    within = in_range;
    before = λ i d less. ranked _ place _ (sym ((parted (comparisons_rise ps place h)).0 i d (omega arith) less));
    after = λ i d le less. ranked _ place _ (sym ((parted (comparisons_rise ps place h)).1 i d le less));
  };
}

-- ---- the figures at a place

pub figures_found : (from : ℕ) (ps : List Pair) (place i : ℕ) (d : Pair) → AreFrom from ps → i < length ps → (get_or ps i d).place ≡ place → figures_at ps place ≡ (get_or ps i d).figures
figures_found from [] place i d h within is = absurd (omega arith)
figures_found from (p ∷ ps) place zero d h within is = grind (arith, nat_tests, is)
figures_found from (p ∷ ps) place (suc i) d h within is =
    let later = from_le (p.place + 1) ps i d h.1 (omega arith) in
    let rest = figures_found (p.place + 1) ps place i d h.1 (omega arith) is in
    grind (arith, nat_tests, later, rest, is)

pub figures_missing : (ps : List Pair) (place : ℕ) → ((i : ℕ) (d : Pair) → i < length ps → (get_or ps i d).place ≢ place) → figures_at ps place ≡ no_row_figures
figures_missing [] place differs = refl
figures_missing (p ∷ ps) place differs =
    let here = differs 0 p (omega arith) in
    let rest = figures_missing ps place (λ i d within. differs (suc i) d (omega arith)) in
    grind (arith, nat_tests, here, rest)

-- ---- a pair with other figures

pub from_set : (from : ℕ) (ps : List Pair) (i : ℕ) (d : Pair) (more : RowFigures) → AreFrom from ps → i < length ps
    → AreFrom from (set ps i (record { place = (get_or ps i d).place; figures = more }))
from_set from [] i d more h within = absurd (omega arith)
from_set from (p ∷ ps) zero d more h within = h
from_set from (p ∷ ps) (suc i) d more h within = (h.0, from_set (p.place + 1) ps i d more h.1 (omega arith))

pub figures_set : (from : ℕ) (ps : List Pair) (i : ℕ) (d : Pair) (more : RowFigures) (place other : ℕ) → AreFrom from ps → i < length ps → (get_or ps i d).place ≡ place
    → figures_at (set ps i (record { place = (get_or ps i d).place; figures = more })) other ≡ cond (place == other) more (figures_at ps other)
figures_set from [] i d more place other h within is = absurd (omega arith)
figures_set from (p ∷ ps) zero d more place other h within is = grind (arith, nat_tests, is)
figures_set from (p ∷ ps) (suc i) d more place other h within is =
    let later = from_le (p.place + 1) ps i d h.1 (omega arith) in
    let rest = figures_set (p.place + 1) ps i d more place other h.1 (omega arith) is in
    grind (arith, nat_tests, later, rest, is)

-- ---- one more pair

from_raised : (from place : ℕ) (ps : List Pair) → AreFrom from ps → place < 1024 → ((i : ℕ) (d : Pair) → i < length ps → place < (get_or ps i d).place) → AreFrom (place + 1) ps
from_raised from place [] h small after = omega arith
from_raised from place (p ∷ ps) h small after = (omega (arith, after 0 p (omega arith)), h.1)

pub from_insert : (from : ℕ) (ps : List Pair) (place index : ℕ) (more : RowFigures) → AreFrom from ps → from ≤ place → place < 1024 → IsGap ps place index
    → AreFrom from (insert ps index (record { place = place; figures = more }))
from_insert from ps place zero more h low small gap = (low, from_raised from place ps h small (λ i d within. gap.after i d (omega arith) within))
from_insert from [] place (suc index) more h low small gap = absurd (omega (arith, gap.within))
from_insert from (p ∷ ps) place (suc index) more h low small gap = (
  h.0,
  from_insert (p.place + 1) ps place index more h.1 (omega (arith, gap.before 0 p (omega arith))) small (record {
    within = omega (arith, gap.within);
    before = λ i d less. gap.before (suc i) d (omega arith);
    after = λ i d le less. gap.after (suc i) d (omega arith) (omega arith);
  }),
)

pub gap_missing : (ps : List Pair) (place index : ℕ) → IsGap ps place index → (i : ℕ) (d : Pair) → i < length ps → (get_or ps i d).place ≢ place
gap_missing ps place index gap i d within same =
    elim (cases_order i index) [
      | inl here ↦ omega (arith, gap.after i d (omega arith) within)
      | inr (inl less) ↦ omega (arith, gap.before i d less)
      | inr (inr more) ↦ omega (arith, gap.after i d (omega arith) within)
    ]

pub figures_insert : (ps : List Pair) (place index : ℕ) (more : RowFigures) (other : ℕ) → index ≤ length ps → ((i : ℕ) (d : Pair) → i < length ps → (get_or ps i d).place ≢ place)
    → figures_at (insert ps index (record { place = place; figures = more })) other ≡ cond (place == other) more (figures_at ps other)
figures_insert ps place zero more other within differs = refl
figures_insert [] place (suc index) more other within differs = absurd (omega arith)
figures_insert (p ∷ ps) place (suc index) more other within differs =
    let here = differs 0 p (omega arith) in
    let rest = figures_insert ps place index more other (omega arith) (λ i d inside. differs (suc i) d (omega arith)) in
    grind (arith, nat_tests, here, rest)

-- ---- the figures of all places

-- no change above the place
unchanged : (old new : ℕ → RowFigures) (place : ℕ) (more : RowFigures) (from count : ℕ) → ((other : ℕ) → new other ≡ cond (place == other) more (old other)) → place < from
    → map new (range_with_len from count) ≡ map old (range_with_len from count)
unchanged old new place more from zero is below = refl
unchanged old new place more from (suc count) is below =
    let here : new from ≡ old from = grind (arith, nat_tests, is from) in
    rw here (ap (λ (fs : List RowFigures). old from ∷ fs) (unchanged old new place more (from + 1) count is (omega arith)))

-- a change at one place alone
changed_from : (old new : ℕ → RowFigures) (place : ℕ) (more : RowFigures) (from count i : ℕ) → ((other : ℕ) → new other ≡ cond (place == other) more (old other)) → from + i ≡ place → i < count
    → map new (range_with_len from count) ≡ set (map old (range_with_len from count)) i more
changed_from old new place more from zero i is at within = absurd (omega arith)
changed_from old new place more from (suc count) zero is at within =
    let here : new from ≡ more = grind (arith, nat_tests, is from, at) in
    rw here (ap (λ (fs : List RowFigures). more ∷ fs) (unchanged old new place more (from + 1) count is (omega arith)))
changed_from old new place more from (suc count) (suc i) is at within =
    let here : new from ≡ old from = grind (arith, nat_tests, is from, at) in
    rw here (ap (λ (fs : List RowFigures). old from ∷ fs) (changed_from old new place more (from + 1) count i is (omega arith) (omega arith)))

pub all_changed : (old new : ℕ → RowFigures) (place : ℕ) (more : RowFigures) → place < 1024 → ((other : ℕ) → new other ≡ cond (place == other) more (old other))
    → map new (range_with_len 0 1024) ≡ set (map old (range_with_len 0 1024)) place more
all_changed old new place more small is = changed_from old new place more 0 1024 place is (omega arith) small

-- the figures at one place among those of all
pub at_all : (figures : ℕ → RowFigures) (place : ℕ) (d : RowFigures) → place < 1024 → get_or (map figures (range_with_len 0 1024)) place d ≡ figures place
at_all figures place d small = get_or-map-range_with_len figures 0 1024 place place d small (zero-add place)

-- ---- what a search found

pub found_figures : (pairs seen : List Pair) (place index : ℕ) (pair : Pair) → seen ≡ pairs → AreFrom 0 pairs → IsPlaceOf seen place index → pair ≡ get_or pairs index pair
    → pair.figures ≡ figures_at pairs place
found_figures pairs seen place index pair seen_is order found pair_is =
    let at : IsPlaceOf pairs place index = subst (λ (ps : List Pair). IsPlaceOf ps place index) seen_is found in
    ap (λ (p : Pair). p.figures) pair_is ∙ sym (figures_found 0 pairs place index pair order at.within (at.is pair))

pub gap_figures : (pairs seen : List Pair) (place index : ℕ) → seen ≡ pairs → IsGap seen place index → figures_at pairs place ≡ no_row_figures
gap_figures pairs seen place index seen_is gap = figures_missing pairs place (gap_missing pairs place index (subst (λ (ps : List Pair). IsGap ps place index) seen_is gap))

-- the pair that was found, with one more word

pub order_found : (pairs seen : List Pair) (place index : ℕ) (pair : Pair) (more : RowFigures) → seen ≡ pairs → AreFrom 0 pairs → IsPlaceOf seen place index → pair ≡ get_or pairs index pair
    → AreFrom 0 (set pairs index (record { place = pair.place; figures = more }))
order_found pairs seen place index pair more seen_is order found pair_is =
    let at : IsPlaceOf pairs place index = subst (λ (ps : List Pair). IsPlaceOf ps place index) seen_is found in
    subst (λ (n : ℕ). AreFrom 0 (set pairs index (record { place = n; figures = more }))) (ap (λ (p : Pair). p.place) (sym pair_is)) (from_set 0 pairs index pair more order at.within)

pub noted_found : (time raw place index : ℕ) (pairs seen : List Pair) (pair : Pair) (more : RowFigures) → place ≡ place_of raw → seen ≡ pairs → AreFrom 0 pairs → IsPlaceOf seen place index
    → pair ≡ get_or pairs index pair → more ≡ row_figures_with time raw pair.figures
    → (other : ℕ) → figures_at (set pairs index (record { place = pair.place; figures = more })) other
    ≡ cond (place_of raw == other) (row_figures_with time raw (figures_at pairs (place_of raw))) (figures_at pairs other)
noted_found time raw place index pairs seen pair more place_is seen_is order found pair_is more_is other =
    let at : IsPlaceOf pairs place index = subst (λ (ps : List Pair). IsPlaceOf ps place index) seen_is found in
    let stands : (get_or pairs index pair).place ≡ place_of raw = at.is pair ∙ place_is in
    let with_word : more ≡ row_figures_with time raw (figures_at pairs (place_of raw)) =
    more_is ∙ ap (row_figures_with time raw) (found_figures pairs seen place index pair seen_is order found pair_is ∙ ap (figures_at pairs) place_is) in
    ap (λ (n : ℕ). figures_at (set pairs index (record { place = n; figures = more })) other) (ap (λ (p : Pair). p.place) pair_is)
    ∙ figures_set 0 pairs index pair more (place_of raw) other order at.within stands
    ∙ ap (λ (f : RowFigures). cond (place_of raw == other) f (figures_at pairs other)) with_word

-- a new pair, with its first word

pub order_gap : (pairs seen new : List Pair) (place index : ℕ) (more : RowFigures) → seen ≡ pairs → AreFrom 0 pairs → place < 1024 → IsGap seen place index
    → new ≡ insert pairs index (record { place = place; figures = more }) → AreFrom 0 new
order_gap pairs seen new place index more seen_is order small gap new_is =
    subst (AreFrom 0) (sym new_is) (from_insert 0 pairs place index more order (omega arith) small (subst (λ (ps : List Pair). IsGap ps place index) seen_is gap))

pub noted_gap : (time raw place index : ℕ) (pairs seen new : List Pair) (none more : RowFigures) → place ≡ place_of raw → seen ≡ pairs → IsGap seen place index
    → none ≡ no_row_figures → more ≡ row_figures_with time raw none → new ≡ insert pairs index (record { place = place; figures = more })
    → (other : ℕ) → figures_at new other ≡ cond (place_of raw == other) (row_figures_with time raw (figures_at pairs (place_of raw))) (figures_at pairs other)
noted_gap time raw place index pairs seen new none more place_is seen_is gap none_is more_is new_is other =
    let here : IsGap pairs place index = subst (λ (ps : List Pair). IsGap ps place index) seen_is gap in
    let missing = gap_missing pairs place index here in
    let with_word : more ≡ row_figures_with time raw (figures_at pairs (place_of raw)) =
    more_is ∙ ap (row_figures_with time raw) (none_is ∙ sym (gap_figures pairs seen place index seen_is gap) ∙ ap (figures_at pairs) place_is) in
    ap (λ (ps : List Pair). figures_at ps other) new_is
    ∙ figures_insert pairs place index more other here.within missing
    ∙ ap (λ (n : ℕ). cond (n == other) more (figures_at pairs other)) place_is
    ∙ ap (λ (f : RowFigures). cond (place_of raw == other) f (figures_at pairs other)) with_word
