-- The names after one more word.
use Rattle.std.proofs.Common.{◌≡◌, ℕ, zero, suc, List, [], ◌∷◌, ◌++◌, Bool, true, false, map, set, refl, sym, ap, ◌∙◌, inl, inr}
use Rattle.std.specs.Prelude.{Some, bytes_eq, slice_get, ◌||◌}
use Rattle.std.specs.List.{list_any}
use Rattle.std.specs.Ordering.{is_eq}
use Rattle.std.proofs.lemmas.Bool.{cases_Bool}
use Rattle.std.proofs.lemmas.Option.{none-some, same_Some}
use Rattle.a429_word.proofs.Lists.{clash}
use Rattle.a429_survey.specs.Figures.{Noted}
use Rattle.a429_survey.specs.Survey.{names_of, with_name}
use Rattle.a429_survey.specs.Kept.{Ascend, IsBeforeAll, LineKept, is_before, line_of, with_line}
use Rattle.a429_survey.proofs.FiguresMore.{fold_more}
use Rattle.a429_survey.proofs.Order.{after_is, after_unequal, before_on, before_unequal, by_bytes, equal_is}
use Rattle.a429_survey.proofs.Places.{before_at}

pub names_more : (ws : List Noted) (w : Noted) → names_of (ws ++ w ∷ []) ≡ with_name w.name (names_of ws)
unfolding names_of
names_more ws w = fold_more (λ (names : List (List ℕ)) (x : Noted). with_name x.name names) [] ws w

-- ---- order

before_all_on : (a b : List ℕ) (names : List (List ℕ)) → is_before a b ≡ true → IsBeforeAll b names → IsBeforeAll a names
before_all_on a b [] ab all = tt
before_all_on a b (n ∷ names) ab all = (before_on a b n ab all.0, before_all_on a b names ab all.1)

before_all_with : (a name : List ℕ) (names : List (List ℕ)) → is_before a name ≡ true → IsBeforeAll a names → IsBeforeAll a (with_name name names)
before_all_with a name [] h all = (h, tt)
before_all_with a name (n ∷ names) h all =
    elim (cases_Bool (is_before n name)) [
      | inl less ↦ rw less (all.0, before_all_with a name names h all.1)
      | inr more ↦ elim (cases_Bool (is_eq (by_bytes n name))) [
        | inl equal ↦ rw (more, equal) all
        | inr unequal ↦ rw (more, unequal) (h, all)
      ]
    ]

pub ascend_with : (name : List ℕ) (names : List (List ℕ)) → Ascend names → Ascend (with_name name names)
ascend_with name [] order = (tt, tt)
ascend_with name (n ∷ names) order =
    elim (cases_Bool (is_before n name)) [
      | inl less ↦ rw less (before_all_with n name names less order.0, ascend_with name names order.1)
      | inr more ↦ elim (cases_Bool (is_eq (by_bytes n name))) [
        | inl equal ↦ rw (more, equal) order
        | inr unequal ↦
            let first : is_before name n ≡ true = after_is n name more unequal in
            rw (more, unequal) ((first, before_all_on name n names first order.0), order)
      ]
    ]

-- ---- absent names

none_after : (name : List ℕ) (names : List (List ℕ)) → IsBeforeAll name names → list_any (λ n. bytes_eq n name) names ≡ false
none_after name [] all = refl
none_after name (n ∷ names) all = rw (after_unequal n name all.0) (none_after name names all.1)

or_none : (a b : Bool) → (a || b) ≡ false → (a ≡ false) × (b ≡ false)
or_none true b h = absurd (clash (sym h))
or_none false b h = (refl, h)

pub none_with : (p : List ℕ → Bool) (name : List ℕ) (names : List (List ℕ)) → list_any p (with_name name names) ≡ false → (list_any p names ≡ false) × (p name ≡ false)
none_with p name [] h = (refl, (or_none (p name) false h).0)
none_with p name (n ∷ names) h =
    elim (cases_Bool (is_before n name)) [
      | inl less ↦
          let parts = or_none (p n) (list_any p (with_name name names)) (rw less at h) in
          let rest = none_with p name names parts.1 in
          (rw parts.0 rest.0, rest.1)
      | inr more ↦ elim (cases_Bool (is_eq (by_bytes n name))) [
        | inl equal ↦
            let all : list_any p (n ∷ names) ≡ false = rw (more, equal) at h in
            (all, ap p (sym (equal_is n name equal)) ∙ (or_none (p n) (list_any p names) all).0)
        | inr unequal ↦
            let all : (p name || list_any p (n ∷ names)) ≡ false = rw (more, unequal) at h in
            let parts = or_none (p name) (list_any p (n ∷ names)) all in
            (parts.1, parts.0)
      ]
    ]

-- ---- lines

-- one more line is that of one more name
pub line_with_name : (f : List ℕ → LineKept) (name : List ℕ) (names : List (List ℕ)) → ((n : List ℕ) → (f n).name ≡ n) → Ascend names
    → (list_any (λ n. bytes_eq n name) names ≡ false → line_of name [] ≡ f name) → with_line name (map f names) ≡ map f (with_name name names)
line_with_name f name [] named order absent = ap (λ (l : LineKept). l ∷ []) (absent refl)
line_with_name f name (n ∷ names) named order absent =
    elim (cases_Bool (is_before n name)) [
      | inl less ↦
          let line_less : is_before (f n).name name ≡ true = ap (λ m. is_before m name) (named n) ∙ less in
          let none : list_any (λ n. bytes_eq n name) names ≡ false → line_of name [] ≡ f name = λ h. absent (rw (before_unequal n name less) h) in
          rw (line_less, less) (ap (λ (ls : List LineKept). f n ∷ ls) (line_with_name f name names named order.1 none))
      | inr more ↦
          let line_more : is_before (f n).name name ≡ false = ap (λ m. is_before m name) (named n) ∙ more in
          elim (cases_Bool (is_eq (by_bytes n name))) [
            | inl equal ↦
                let line_equal : is_eq (by_bytes (f n).name name) ≡ true = ap (λ m. is_eq (by_bytes m name)) (named n) ∙ equal in
                rw (line_more, more, line_equal, equal) refl
            | inr unequal ↦
                let line_unequal : is_eq (by_bytes (f n).name name) ≡ false = ap (λ m. is_eq (by_bytes m name)) (named n) ∙ unequal in
                let first : is_before name n ≡ true = after_is n name more unequal in
                let new : line_of name [] ≡ f name = absent (none_after name (n ∷ names) (first, before_all_on name n names first order.0)) in
                rw (line_more, more, line_unequal, unequal) (ap (λ (l : LineKept). l ∷ f n ∷ map f names) new)
          ]
    ]

map_above : {X : Type 0} (f g : List ℕ → X) (name : List ℕ) (names : List (List ℕ)) → IsBeforeAll name names → ((other : List ℕ) → bytes_eq name other ≡ false → g other ≡ f other) → map f names ≡ map g names
map_above f g name [] all same = refl
map_above {X} f g name (n ∷ names) all same =
    ap (λ (x : X). x ∷ map f names) (sym (same n (before_unequal name n all.0))) ∙ ap (λ (xs : List X). g n ∷ xs) (map_above f g name names all.1 same)

-- a change at one name
pub set_named : {X : Type 0} (f g : List ℕ → X) (name : List ℕ) (names : List (List ℕ)) (place : ℕ) → Ascend names → slice_get names place ≡ Some name
    → ((other : List ℕ) → bytes_eq name other ≡ false → g other ≡ f other) → set (map f names) place (g name) ≡ map g names
set_named f g name [] place order there same = absurd (none-some name there)
set_named {X} f g name (n ∷ names) zero order there same =
    let here : n ≡ name = same_Some n name there in
    ap (λ (m : List ℕ). g m ∷ map f names) (sym here) ∙ ap (λ (xs : List X). g n ∷ xs) (map_above f g n names order.0 (λ other h. same other (ap (λ m. bytes_eq m other) (sym here) ∙ h)))
set_named {X} f g name (n ∷ names) (suc place) order there same =
    let less : is_before n name ≡ true = before_at n name names place order.0 there in
    ap (λ (x : X). x ∷ set (map f names) place (g name)) (sym (same n (after_unequal name n less)))
    ∙ ap (λ (xs : List X). g n ∷ xs) (set_named f g name names place order.1 there same)
