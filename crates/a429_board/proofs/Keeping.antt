-- Each step on the book of a board keeps its rule.
use Rattle.std.proofs.Common.{◌≡◌, ◌≢◌, ℕ, zero, suc, ◌+◌, ◌<◌, ◌≤◌, ◌==◌, Bool, true, false, List, [], ◌∷◌, ◌++◌, length, refl, ap, sym, ◌∙◌, subst, arith, inl, length-append, None, ⊎_elim}
use Rattle.std.proofs.lemmas.List.{append-nil, length-set, get_or-set_same, get_or-set_other}
use Rattle.std.proofs.lemmas.Bool.{cases_lt, cases_eq}
use Rattle.std.proofs.lemmas.Bool.Decides.{nat_tests}
use prog.Atomic.{either}
use Rattle.core.specs.Prelude.{slice_set}
use Rattle.logbook.specs.Pages.{Cell, cell, keeps, gives, adds as new_cell, no_nib, step, Moves, Goes}
use Rattle.a429_slots.specs.Tables.{PlanTable}
use Rattle.a429_board.specs.Lists.{IsKept, next_nib, reserves, looks, adds}
use Rattle.a429_board.proofs.Fronts.{prefix_whole}

abbrev pub shown : List PlanTable → List PlanTable
shown log = []

abbrev pub moved : List PlanTable → List PlanTable → ℕ → Type 0
moved xs ys n = Unit {0}

first_set : (cs : List Cell) (c : Cell) → 0 < length cs → cell (slice_set cs 0 c) 0 ≡ c
first_set cs c long = get_or-set_same cs 0 c (0, false) long

others_stay : (cs : List Cell) (c : Cell) (k : ℕ) → 0 < k → cell (slice_set cs 0 c) k ≡ cell cs k
others_stay cs c k above = get_or-set_other cs 0 k c (0, false) (λ e. omega arith)

-- a word that is away is as one that is not there yet
new_is_away : (cs : List Cell) (k : ℕ) → cell (cs ++ (0, false) ∷ []) k ≡ cell cs k
new_is_away [] zero = refl
new_is_away [] (suc k) = refl
new_is_away (c ∷ cs) zero = refl
new_is_away (c ∷ cs) (suc k) = new_is_away cs k

-- the first word is written as it was
same_kept : (cs : List Cell) (log : List PlanTable) (kept : IsKept cs log) (x : ℕ) → x ≡ kept.others → IsKept (slice_set cs 0 (x, true)) log
same_kept cs log kept x is = record {
  others = kept.others;
  first = first_set cs (x, true) (omega (arith, kept.many)) ∙ ap (λ (m : ℕ). (m, true)) is;
  many = length-set cs 0 (x, true) ∙ kept.many;
  home = λ k above below. ap (λ (c : Cell). c.1) (others_stay cs (x, true) k above) ∙ kept.home k above below;
  away = λ k above past. ap (λ (c : Cell). c.1) (others_stay cs (x, true) k above) ∙ kept.away k above past;
}

-- one word more, and the first word counts it
more_kept : (cs : List Cell) (log : List PlanTable) (kept : IsKept cs log) (x : ℕ) → x ≡ kept.others + 1 → IsKept (slice_set cs 0 (x, true) ++ (0, false) ∷ []) log
more_kept cs log kept x is =
    let set = slice_set cs 0 (x, true) in
    let stays : (k : ℕ) → 0 < k → (cell (set ++ (0, false) ∷ []) k).1 ≡ (cell cs k).1 = λ k above. ap (λ (c : Cell). c.1) (new_is_away set k ∙ others_stay cs (x, true) k above) in record {
      others = kept.others + 1;
      first = new_is_away set 0 ∙ first_set cs (x, true) (omega (arith, kept.many)) ∙ ap (λ (m : ℕ). (m, true)) is;
      many = omega (arith, length-append set ((0, false) ∷ []), length-set cs 0 (x, true), kept.many);
      home = λ k above below. stays k above ∙ kept.home k above below;
      away = λ k above past. stays k above ∙ kept.away k above past;
    }

-- the next word comes home with a plan
home_kept : (cs : List Cell) (log : List PlanTable) (e : PlanTable) (kept : IsKept cs log) (x : ℕ) → x ≡ kept.others → 0 < length log → length log < length cs
    → IsKept (slice_set (slice_set cs 0 (x, true)) (length log) (0, true)) (log ++ e ∷ [])
home_kept cs log e kept x is some within =
    let set = slice_set cs 0 (x, true) in
    let n = length log in
    let long : length (log ++ e ∷ []) ≡ n + 1 = omega (arith, length-append log (e ∷ [])) in
    let inside : n < length set = omega (arith, length-set cs 0 (x, true)) in
    let stays : (k : ℕ) → 0 < k → k ≢ n → (cell (slice_set set n (0, true)) k).1 ≡ (cell cs k).1 = λ k above apart.
    ap (λ (c : Cell). c.1) (get_or-set_other set n k (0, true) (0, false) apart ∙ others_stay cs (x, true) k above) in
    let here : cell (slice_set set n (0, true)) n ≡ (0, true) = get_or-set_same set n (0, true) (0, false) inside in record {
      others = kept.others;
      first = get_or-set_other set n 0 (0, true) (0, false) (λ z. omega arith) ∙ first_set cs (x, true) (omega (arith, kept.many)) ∙ ap (λ (m : ℕ). (m, true)) is;
      many = length-set set n (0, true) ∙ length-set cs 0 (x, true) ∙ kept.many;
      home = λ k above below. ⊎_elim
          (λ (same : k ≡ n). subst (λ (j : ℕ). (cell (slice_set set n (0, true)) j).1 ≡ true) (sym same) (ap (λ (c : Cell). c.1) here))
          (λ (apart : k ≢ n). stays k above apart ∙ kept.home k above (omega arith))
          (cases_eq k n);
      away = λ k above past. stays k above (λ z. omega arith) ∙ kept.away k above (omega arith);
    }

-- who has the pen of a word that is away knows that the list is no longer
no_longer : (cs : List Cell) (log : List PlanTable) (n : ℕ) → IsKept cs log → 0 < n → (cell cs n).1 ≡ false → length log ≤ n
no_longer cs log n kept some away =
    ⊎_elim (λ (below : n < length log). absurd (cc (kept.home n some below, away))) (λ (past : length log ≤ n). past) (cases_lt n (length log))

same_if : (n : ℕ) (b : Bool) → (n == 0) ≡ b → either b 0 n ≡ n
same_if n true is = let none : n ≡ 0 = grind (arith, nat_tests) in sym none
same_if n false is = refl

-- nothing is written if 0 becomes 0
same_word : (n : ℕ) → either (n == 0) 0 n ≡ n
same_word n = same_if n (n == 0) refl

-- ---- one word more

reserved : (v : List PlanTable) (e : PlanTable) (old : ℕ) (cs : List Cell) (log : List PlanTable) (kept : IsKept cs log) → (b : Bool) → (kept.others == old) ≡ b
    → Goes IsKept shown moved 0 (v, (no_nib, None)) (λ n. either (n == old) (old + 1) n) (reserves (step 0 old (old + 1) e) (v, (no_nib, None))) cs log
reserved v e old cs log kept true is =
    let found : (cell cs 0).0 ≡ kept.others = ap (λ (c : Cell). c.0) kept.first in
    let here : kept.others ≡ old = grind (arith, nat_tests) in
    let word : either ((cell cs 0).0 == old) (old + 1) (cell cs 0).0 ≡ kept.others + 1 = rw (found, is) (ap (λ (m : ℕ). m + 1) (sym here)) in
    let all : log ++ [] ≡ log = append-nil log in
    let key : length cs ≡ old + 1 = omega (arith, kept.many) in (
      new_cell,
      [],
      None,
      tt,
      rw all (more_kept cs log kept _ word),
      inl (refl, refl),
      rw (found, is, key) refl,
    )
reserved v e old cs log kept false is =
    let found : (cell cs 0).0 ≡ kept.others = ap (λ (c : Cell). c.0) kept.first in
    let word : either ((cell cs 0).0 == old) (old + 1) (cell cs 0).0 ≡ kept.others = rw (found, is) refl in
    let all : log ++ [] ≡ log = append-nil log in (
      keeps,
      [],
      None,
      tt,
      rw all (same_kept cs log kept _ word),
      inl (refl, refl),
      rw (found, is) tt,
    )

pub reserves_moves : (v : List PlanTable) (e : PlanTable) (old : ℕ)
    → Moves IsKept shown moved 0 (v, (no_nib, None)) (λ n. either (n == old) (old + 1) n) (reserves (step 0 old (old + 1) e) (v, (no_nib, None)))
reserves_moves v e old cs log kept pre away = (omega (arith, kept.many), ap (λ (c : Cell). c.1) kept.first, reserved v e old cs log kept (kept.others == old) refl)

-- ---- a look at the whole list

pub looks_moves : (v : List PlanTable) (e : PlanTable) (n : ℕ) → 0 < n
    → Moves IsKept shown moved 0 (v, (next_nib n, None)) (λ m. either (m == 0) 0 m) (looks (step 0 0 0 e) (v, (next_nib n, None)))
looks_moves v e n some cs log kept pre away =
    let mine = away refl in
    let all : log ++ [] ≡ log = append-nil log in
    let word : either ((cell cs 0).0 == 0) 0 (cell cs 0).0 ≡ kept.others = same_word (cell cs 0).0 ∙ ap (λ (c : Cell). c.0) kept.first in
    let whole : length log ≤ n = no_longer cs log n kept some mine.1 in (
      omega (arith, kept.many),
      ap (λ (c : Cell). c.1) kept.first,
      (
        keeps,
        [],
        None,
        tt,
        rw all (same_kept cs log kept _ word),
        inl (refl, refl),
        (rw all whole, refl),
      ),
    )

-- ---- one plan more

pub adds_moves : (v : List PlanTable) (e : PlanTable) → 0 < length v
    → Moves IsKept shown moved 0 (v, (next_nib (length v), None)) (λ m. either (m == 0) 0 m) (adds (step 0 0 0 e) (v, (next_nib (length v), None)))
adds_moves v e some cs log kept pre away =
    let mine = away refl in
    let word : either ((cell cs 0).0 == 0) 0 (cell cs 0).0 ≡ kept.others = same_word (cell cs 0).0 ∙ ap (λ (c : Cell). c.0) kept.first in
    let whole : v ≡ log = prefix_whole v log pre (no_longer cs log (length v) kept some mine.1) in
    let Kept = λ (n : ℕ). IsKept (slice_set (slice_set cs 0 (either ((cell cs 0).0 == 0) 0 (cell cs 0).0, true)) n (0, true)) (log ++ e ∷ []) in
    let same : length v ≡ length log = ap length whole in (
      omega (arith, kept.many),
      ap (λ (c : Cell). c.1) kept.first,
      (
        gives,
        e ∷ [],
        None,
        refl,
        subst Kept (sym same) (home_kept cs log e kept _ word (omega (arith, same)) (omega (arith, same, mine.0))),
        inl (refl, refl),
        ap (λ w. w ++ e ∷ []) (sym whole),
      ),
    )
