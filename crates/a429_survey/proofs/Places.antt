-- The places of names.
use Rattle.std.proofs.Common.{◌≡◌, ℕ, zero, suc, ◌+◌, ◌<◌, ◌≤◌, List, [], ◌∷◌, Bool, true, false, length, get_or, set, refl, sym, ap, subst, ◌∙◌, inl, inr, arith}
use Rattle.std.specs.Prelude.{Some, bytes_eq, insert, option_map, slice_get, slice_index_or}
use Rattle.std.specs.Ordering.{is_eq}
use Rattle.std.proofs.lemmas.Bool.{cases_Bool}
use Rattle.std.proofs.lemmas.Option.{none-some, same_Some, slice_get-get_or, slice_get-map, slice_get_within}
use Rattle.std.proofs.lemmas.List.{length-map}
use Rattle.std.proofs.lemmas.Slice.Eq.{bytes_eq-Decides}
use Rattle.a429_word.proofs.Lists.{clash}
use Rattle.a429_survey.specs.Kept.{Ascend, IsBeforeAll, LineKept, is_before, line_of, line_with, names_in, no_figures, place_for, with_line}
use Rattle.a429_survey.proofs.Order.{before_on, before_self, by_bytes, equal_is, equal_self}

-- a line that no name has
abbrev pub no_line : LineKept
no_line = record { name = []; all = no_figures; each = [] }

pub named_at : (lines : List LineKept) (place : ℕ) (d : LineKept) → place < length lines → slice_get (names_in lines) place ≡ Some (get_or lines place d).name
named_at lines place d within = slice_get-map (λ (l : LineKept). l.name) lines place ∙ ap (option_map (λ (l : LineKept). l.name)) (slice_get-get_or lines place d within)

-- the answer of a look at a place
pub named_yes : (lines : List LineKept) (place : ℕ) (line : LineKept) (text wanted name : List ℕ) (r : Bool) → place < length lines → line ≡ get_or lines place line → text ≡ line.name → name ≡ text
    → r ≡ bytes_eq name wanted → r ≡ true → slice_get (names_in lines) place ≡ Some wanted
named_yes lines place line text wanted name r within is text_is name_is r_is passes =
    let same : name ≡ wanted = (bytes_eq-Decides name wanted).0 (sym r_is ∙ passes) in
    named_at lines place line within ∙ ap (λ (l : LineKept). Some l.name) (sym is) ∙ ap (λ (n : List ℕ). Some n) (sym text_is ∙ sym name_is ∙ same)

pub named_no : (lines : List LineKept) (place : ℕ) (line : LineKept) (text wanted name : List ℕ) (r : Bool) → place < length lines → line ≡ get_or lines place line → text ≡ line.name → name ≡ text
    → r ≡ bytes_eq name wanted → r ≡ false → slice_get (names_in lines) place ≡ Some wanted → ⊥
named_no lines place line text wanted name r within is text_is name_is r_is fails there =
    let at : slice_get (names_in lines) place ≡ Some name = named_at lines place line within ∙ ap (λ (l : LineKept). Some l.name) (sym is) ∙ ap (λ (n : List ℕ). Some n) (sym text_is ∙ sym name_is) in
    let same : name ≡ wanted = same_Some name wanted (sym at ∙ there) in
    clash (sym fails ∙ r_is ∙ (bytes_eq-Decides name wanted).1 same)

pub named_past : (lines : List LineKept) (place : ℕ) (name : List ℕ) → length lines ≤ place → slice_get (names_in lines) place ≡ Some name → ⊥
named_past lines place name past there =
    let long : length (names_in lines) ≡ length lines = length-map lines (λ (l : LineKept). l.name) in
    let within : place < length (names_in lines) = slice_get_within (names_in lines) place name there in
    omega (arith, long, within)

-- a name is before each of some names
pub before_at : (name other : List ℕ) (names : List (List ℕ)) (place : ℕ) → IsBeforeAll name names → slice_get names place ≡ Some other → is_before name other ≡ true
before_at name other [] place all there = absurd (none-some other there)
before_at name other (first ∷ names) zero all there = ap (is_before name) (sym (same_Some first other there)) ∙ all.0
before_at name other (first ∷ names) (suc place) all there = before_at name other names place all.1 there

-- the place of a name is after each name that is before it
pub place_above : (name other : List ℕ) (names : List (List ℕ)) (place : ℕ) → Ascend names → slice_get names place ≡ Some other → is_before other name ≡ true → place + 1 ≤ place_for name names
place_above name other [] place order there h = absurd (none-some other there)
place_above name other (first ∷ names) zero order there h =
    let less : is_before first name ≡ true = ap (λ n. is_before n name) (same_Some first other there) ∙ h in
    rw less (omega arith)
place_above name other (first ∷ names) (suc place) order there h =
    let less : is_before first name ≡ true = before_on first other name (before_at first other names place order.0 there) h in
    rw less (omega (arith, place_above name other names place order.1 there h))

-- and not after any other
pub place_below : (name other : List ℕ) (names : List (List ℕ)) (place : ℕ) → slice_get names place ≡ Some other → is_before other name ≡ false → place_for name names ≤ place
place_below name other [] place there h = absurd (none-some other there)
place_below name other (first ∷ names) zero there h =
    let more : is_before first name ≡ false = ap (λ n. is_before n name) (same_Some first other there) ∙ h in
    rw more (omega arith)
place_below name other (first ∷ names) (suc place) there h =
    elim (cases_Bool (is_before first name)) [
      | inl less ↦ rw less (omega (arith, place_below name other names place there h))
      | inr more ↦ rw more (omega arith)
    ]

pub place_within : (name : List ℕ) (names : List (List ℕ)) → place_for name names ≤ length names
place_within name [] = omega arith
place_within name (first ∷ names) =
    elim (cases_Bool (is_before first name)) [
      | inl less ↦ rw less (omega (arith, place_within name names))
      | inr more ↦ rw more (omega arith)
    ]

-- a name that has a line gets none
pub found_line : (name : List ℕ) (lines : List LineKept) (place : ℕ) → Ascend (names_in lines) → slice_get (names_in lines) place ≡ Some name → with_line name lines ≡ lines
found_line name [] place order there = absurd (none-some name there)
found_line name (first ∷ lines) zero order there =
    let same : first.name ≡ name = same_Some first.name name there in
    let more : is_before first.name name ≡ false = ap (λ n. is_before n name) same ∙ before_self name in
    let equal : is_eq (by_bytes first.name name) ≡ true = ap (λ n. is_eq (by_bytes n name)) same ∙ equal_self name in
    rw (more, equal) refl
found_line name (first ∷ lines) (suc place) order there =
    let less : is_before first.name name ≡ true = before_at first.name name (names_in lines) place order.0 there in
    rw less (ap (λ (ls : List LineKept). first ∷ ls) (found_line name lines place order.1 there))

-- the line of another name is put at its place
pub new_line_at : (name : List ℕ) (lines : List LineKept) → (slice_get (names_in lines) (place_for name (names_in lines)) ≡ Some name → ⊥)
    → with_line name lines ≡ insert lines (place_for name (names_in lines)) (line_of name [])
new_line_at name [] differs = refl
new_line_at name (first ∷ lines) differs =
    elim (cases_Bool (is_before first.name name)) [
      | inl less ↦ rw less (ap (λ (ls : List LineKept). first ∷ ls) (new_line_at name lines (rw less at differs)))
      | inr more ↦
          let at_first : slice_get (names_in (first ∷ lines)) 0 ≡ Some name → ⊥ = rw more at differs in
          let unequal : is_eq (by_bytes first.name name) ≡ false = elim (cases_Bool (is_eq (by_bytes first.name name))) [
            | inl equal ↦ absurd (at_first (ap (λ (n : List ℕ). Some n) (equal_is first.name name equal)))
            | inr unequal ↦ unequal
          ] in
          rw (more, unequal) refl
    ]

-- there is its name
pub name_at_new : (name : List ℕ) (lines : List LineKept) (place : ℕ) (line : LineKept) → line.name ≡ name → place ≤ length lines → slice_get (names_in (insert lines place line)) place ≡ Some name
name_at_new name lines zero line same within = ap (λ (n : List ℕ). Some n) same
name_at_new name [] (suc place) line same within = absurd (omega arith)
name_at_new name (first ∷ lines) (suc place) line same within = name_at_new name lines place line same (omega arith)

-- what is done when a name has no line
pub lines_after : (name : List ℕ) (lines seen looked new : List LineKept) (place : ℕ) (line : LineKept) → looked ≡ lines → seen ≡ lines → place ≡ place_for name (names_in looked)
    → (slice_get (names_in seen) place ≡ Some name → ⊥) → line ≡ line_of name [] → new ≡ insert lines place line → new ≡ with_line name lines
lines_after name lines seen looked new place line looked_is seen_is place_is differs line_is new_is =
    let at : place ≡ place_for name (names_in lines) = place_is ∙ ap (λ (ls : List LineKept). place_for name (names_in ls)) looked_is in
    let none : slice_get (names_in lines) (place_for name (names_in lines)) ≡ Some name → ⊥ =
    λ there. differs (ap (λ (ls : List LineKept). slice_get (names_in ls) place) seen_is ∙ ap (slice_get (names_in lines)) at ∙ there) in
    new_is ∙ ap (insert lines place) line_is ∙ ap (λ (n : ℕ). insert lines n (line_of name [])) at ∙ sym (new_line_at name lines none)

pub name_of_line : (name : List ℕ) (line : LineKept) → line ≡ line_of name [] → line.name ≡ name
unfolding line_of
name_of_line name line is = ap (λ (l : LineKept). l.name) is

pub name_after : (name : List ℕ) (lines looked new : List LineKept) (place : ℕ) (line : LineKept) → looked ≡ lines → place ≤ length looked → line ≡ line_of name [] → new ≡ insert lines place line
    → slice_get (names_in new) place ≡ Some name
name_after name lines looked new place line looked_is within line_is new_is =
    ap (λ (ls : List LineKept). slice_get (names_in ls) place) new_is
    ∙ name_at_new name lines place line (name_of_line name line line_is) (subst (λ (ls : List LineKept). place ≤ length ls) looked_is within)

pub found_after : (name : List ℕ) (lines seen : List LineKept) (place : ℕ) → Ascend (names_in lines) → seen ≡ lines → slice_get (names_in seen) place ≡ Some name → lines ≡ with_line name lines
found_after name lines seen place order seen_is there =
    sym (found_line name lines place order (ap (λ (ls : List LineKept). slice_get (names_in ls) place) (sym seen_is) ∙ there))

-- what is done when a name has a line: it takes the word
pub noted_found : (time raw : ℕ) (name : List ℕ) (lines seen new : List LineKept) (place : ℕ) → Ascend (names_in lines) → seen ≡ lines → slice_get (names_in seen) place ≡ Some name
    → ((d : LineKept) → new ≡ set lines place (line_with time raw (slice_index_or lines place d)))
    → (d : LineKept) → new ≡ set (with_line name lines) place (line_with time raw (slice_index_or (with_line name lines) place d))
noted_found time raw name lines seen new place order seen_is there new_is d =
    let same : lines ≡ with_line name lines = found_after name lines seen place order seen_is there in
    new_is d ∙ ap (λ (ls : List LineKept). set ls place (line_with time raw (slice_index_or ls place d))) same

pub named_found : (name : List ℕ) (lines seen : List LineKept) (place : ℕ) → Ascend (names_in lines) → seen ≡ lines → slice_get (names_in seen) place ≡ Some name
    → slice_get (names_in (with_line name lines)) place ≡ Some name
named_found name lines seen place order seen_is there =
    ap (λ (ls : List LineKept). slice_get (names_in ls) place) (sym (found_after name lines seen place order seen_is there) ∙ sym seen_is) ∙ there

set_insert : (lines : List LineKept) (place : ℕ) (line : LineKept) (f : LineKept → LineKept) (d : LineKept) → place ≤ length lines
    → set (insert lines place line) place (f (slice_index_or (insert lines place line) place d)) ≡ insert lines place (f line)
set_insert lines zero line f d within = refl
set_insert [] (suc place) line f d within = absurd (omega arith)
set_insert (first ∷ lines) (suc place) line f d within = ap (λ (ls : List LineKept). first ∷ ls) (set_insert lines place line f d (omega arith))

-- what is done when a name has none: its line comes with the word
pub noted_new : (time raw : ℕ) (name : List ℕ) (lines seen looked new : List LineKept) (place : ℕ) (line : LineKept) → looked ≡ lines → seen ≡ lines → place ≡ place_for name (names_in looked)
    → (slice_get (names_in seen) place ≡ Some name → ⊥) → line ≡ line_with time raw (line_of name []) → new ≡ insert lines place line
    → (d : LineKept) → new ≡ set (with_line name lines) place (line_with time raw (slice_index_or (with_line name lines) place d))
noted_new time raw name lines seen looked new place line looked_is seen_is place_is differs line_is new_is d =
    let at : place ≡ place_for name (names_in lines) = place_is ∙ ap (λ (ls : List LineKept). place_for name (names_in ls)) looked_is in
    let within : place ≤ length lines = omega (arith, at, place_within name (names_in lines), length-map lines (λ (l : LineKept). l.name)) in
    let with_it : with_line name lines ≡ insert lines place (line_of name []) =
    sym (lines_after name lines seen looked (insert lines place (line_of name [])) place (line_of name []) looked_is seen_is place_is differs refl refl) in
    new_is ∙ ap (insert lines place) line_is ∙ sym (set_insert lines place (line_of name []) (line_with time raw) d within)
    ∙ ap (λ (ls : List LineKept). set ls place (line_with time raw (slice_index_or ls place d))) (sym with_it)

pub named_new : (name : List ℕ) (lines seen looked : List LineKept) (place : ℕ) → looked ≡ lines → seen ≡ lines → place ≡ place_for name (names_in looked) → place ≤ length looked
    → (slice_get (names_in seen) place ≡ Some name → ⊥) → slice_get (names_in (with_line name lines)) place ≡ Some name
named_new name lines seen looked place looked_is seen_is place_is within differs =
    let with_it : insert lines place (line_of name []) ≡ with_line name lines =
    lines_after name lines seen looked (insert lines place (line_of name [])) place (line_of name []) looked_is seen_is place_is differs refl refl in
    ap (λ (ls : List LineKept). slice_get (names_in ls) place) (sym with_it)
    ∙ name_after name lines looked (insert lines place (line_of name [])) place (line_of name []) looked_is within refl refl
