-- What a survey keeps, after one more word.
use Rattle.std.proofs.Common.{◌≡◌, ℕ, ◌+◌, ◌-◌, ◌^◌, ◌<◌, ◌≤◌, List, [], ◌∷◌, ◌++◌, true, false, length, map, set, get_or, refl, sym, ap, subst, ◌∙◌, arith, length-append}
use Rattle.std.specs.Prelude.{Some, bytes_eq, option_map, slice_get, slice_index_or}
use Rattle.std.specs.List.{list_any}
use Rattle.std.proofs.lemmas.List.{get_or-set_same, length-map, length-set}
use Rattle.std.proofs.lemmas.List.Sums.{count_by-le-length, length-filter}
use Rattle.std.proofs.lemmas.Option.{get_or_from_slice_get, same_Some, slice_get-map, slice_get_within}
use Rattle.std.proofs.lemmas.Slice.Eq.{bytes_eq-Decides}
use Rattle.a429_survey.specs.Figures.{Noted}
use Rattle.a429_survey.specs.Survey.{names_of, with_name, words_of}
use Rattle.a429_survey.specs.Kept.{Ascend, IsKept, LineKept, line_of, line_with, lines_of, names_in, with_line}
use Rattle.a429_survey.proofs.FiguresMore.{filter_more}
use Rattle.a429_survey.proofs.LineMore.{line_more}
use Rattle.a429_survey.proofs.NamesMore.{ascend_with, line_with_name, names_more, none_with, set_named}
use Rattle.a429_survey.proofs.Places.{named_at, no_line}

pub kept_none : IsKept [] [] 0
unfolding names_of
kept_none = record { kept = refl; counted = refl; order = tt; absent = λ name h. refl }

pub names_in_lines : (names : List (List ℕ)) (ws : List Noted) → names_in (lines_of names ws) ≡ names
unfolding line_of
names_in_lines [] ws = refl
names_in_lines (n ∷ names) ws = ap (λ (ms : List (List ℕ)). n ∷ ms) (names_in_lines names ws)

line_name : (n : List ℕ) (ws : List Noted) → (line_of n ws).name ≡ n
unfolding line_of
line_name n ws = refl

pub kept_order : (ws : List Noted) (lines : List LineKept) (count : ℕ) → IsKept ws lines count → Ascend (names_in lines)
kept_order ws lines count k = subst Ascend (sym (ap names_in k.kept ∙ names_in_lines (names_of ws) ws)) k.order

pub kept_more : (ws : List Noted) (old with_it new : List LineKept) (count place time raw : ℕ) (name : List ℕ) → IsKept ws old count → count < 2 ^ 64 - 1
    → with_it ≡ with_line name old → slice_get (names_in with_it) place ≡ Some name
    → ((d : LineKept) → new ≡ set with_it place (line_with time raw (slice_index_or with_it place d)))
    → IsKept (ws ++ record { time = time; name = name; raw = raw } ∷ []) new (count + 1)
kept_more ws old with_it new count place time raw name k few with_is there new_is = record {
  kept = new_is no_line ∙ changed ∙ ap (λ (ns : List (List ℕ)). lines_of ns (ws ++ w ∷ [])) (sym more);
  counted = omega (arith, k.counted, length-append ws (w ∷ []));
  order = subst Ascend (sym more) order;
  absent = λ other h. absent other (ap (list_any (λ n. bytes_eq n other)) (sym more) ∙ h);
}
  where
    w : Noted
    w = record { time = time; name = name; raw = raw }

    before : List ℕ → LineKept
    before n = line_of n (words_of n ws)

    names : List (List ℕ)
    names = with_name name (names_of ws)

    more : names_of (ws ++ w ∷ []) ≡ names
    more = names_more ws w

    order : Ascend names
    order = ascend_with name (names_of ws) k.order

    lines_are : with_it ≡ lines_of names ws
    lines_are = with_is ∙ ap (with_line name) k.kept ∙ line_with_name before name (names_of ws) (λ n. line_name n (words_of n ws)) k.order (λ h. ap (line_of name) (sym (k.absent name h)))

    named : slice_get names place ≡ Some name
    named = ap (λ (ns : List (List ℕ)). slice_get ns place) (sym (ap names_in lines_are ∙ names_in_lines names ws)) ∙ there

    after : List ℕ → LineKept
    after n = line_of n (words_of n (ws ++ w ∷ []))

    read : get_or with_it place no_line ≡ before name
    read =
        ap (λ (ls : List LineKept). get_or ls place no_line) lines_are
        ∙ get_or_from_slice_get (map before names) place (before name) no_line (slice_get-map before names place ∙ ap (option_map before) named)

    here : line_with time raw (before name) ≡ after name
    here =
        let short : length (words_of name ws) ≤ length ws = omega (arith, length-filter (λ (x : Noted). bytes_eq x.name name) ws, count_by-le-length (λ (x : Noted). bytes_eq x.name name) ws) in
        line_more name (words_of name ws) w (omega (arith, short, few, k.counted))
        ∙ ap (line_of name) (sym (filter_more (λ (x : Noted). bytes_eq x.name name) ws w true ((bytes_eq-Decides name name).1 refl)))

    elsewhere : (other : List ℕ) → bytes_eq name other ≡ false → after other ≡ before other
    elsewhere other h = ap (line_of other) (filter_more (λ (x : Noted). bytes_eq x.name other) ws w false h)

    changed : set with_it place (line_with time raw (slice_index_or with_it place no_line)) ≡ lines_of names (ws ++ w ∷ [])
    changed =
        ap (λ (ls : List LineKept). set ls place (line_with time raw (slice_index_or with_it place no_line))) lines_are
        ∙ ap (set (lines_of names ws) place) (ap (line_with time raw) read ∙ here)
        ∙ set_named before after name names place order named elsewhere

    absent : (other : List ℕ) → list_any (λ n. bytes_eq n other) names ≡ false → words_of other (ws ++ w ∷ []) ≡ []
    absent other h =
        let parts = none_with (λ n. bytes_eq n other) name (names_of ws) h in
        filter_more (λ (x : Noted). bytes_eq x.name other) ws w false parts.1 ∙ k.absent other parts.0

-- ---- the line at the place of a name

pub place_inside : (lines : List LineKept) (place : ℕ) (name : List ℕ) → slice_get (names_in lines) place ≡ Some name → place < length lines
place_inside lines place name there =
    let long : length (names_in lines) ≡ length lines = length-map lines (λ (l : LineKept). l.name) in
    omega (arith, long, slice_get_within (names_in lines) place name there)

line_with_name_is : (time raw : ℕ) (l : LineKept) → (line_with time raw l).name ≡ l.name
unfolding line_with
line_with_name_is time raw l = refl

pub place_stays : (with_it new : List LineKept) (place time raw : ℕ) (name : List ℕ) → slice_get (names_in with_it) place ≡ Some name
    → ((d : LineKept) → new ≡ set with_it place (line_with time raw (slice_index_or with_it place d))) → place < length new
place_stays with_it new place time raw name there new_is =
    let long : length new ≡ length with_it = ap (λ (ls : List LineKept). length ls) (new_is no_line) ∙ length-set with_it place (line_with time raw (slice_index_or with_it place no_line)) in
    omega (arith, long, place_inside with_it place name there)

pub name_stays : (with_it new : List LineKept) (place time raw : ℕ) (name text : List ℕ) (line : LineKept) → slice_get (names_in with_it) place ≡ Some name
    → ((d : LineKept) → new ≡ set with_it place (line_with time raw (slice_index_or with_it place d))) → line ≡ get_or new place line → text ≡ line.name → text ≡ name
name_stays with_it new place time raw name text line there new_is line_is text_is =
    let within : place < length with_it = place_inside with_it place name there in
    let one : get_or new place line ≡ line_with time raw (get_or with_it place line) =
    ap (λ (ls : List LineKept). get_or ls place line) (new_is line) ∙ get_or-set_same with_it place (line_with time raw (get_or with_it place line)) line within in
    let named : (get_or with_it place line).name ≡ name = same_Some (get_or with_it place line).name name (sym (named_at with_it place line within) ∙ there) in
    text_is ∙ ap (λ (l : LineKept). l.name) (line_is ∙ one) ∙ line_with_name_is time raw (get_or with_it place line) ∙ named

pub words_more : (ws past : List Noted) (time raw : ℕ) (text name : List ℕ) → text ≡ name → ws ≡ past ++ record { time = time; name = text; raw = raw } ∷ [] → ws ≡ past ++ record { time = time; name = name; raw = raw } ∷ []
words_more ws past time raw text name same is = is ∙ ap (λ (n : List ℕ). past ++ record { time = time; name = n; raw = raw } ∷ []) same
