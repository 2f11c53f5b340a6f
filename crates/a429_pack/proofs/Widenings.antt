-- What wider outputs free, and that the choice of them from the shortest period on is the least.
use Rattle.std.proofs.Common.{◌≡◌, ℕ, zero, suc, ◌+◌, ◌-◌, ◌*◌, ◌/◌, ◌^◌, ◌<◌, ◌≤◌, ◌⊎◌, max, Bool, true, false, cond, List, [], ◌∷◌, length, get_or, drop, take, map, sum, ltb, leb, ◌&&◌, ◌++◌, refl, sym, ap, ◌∙◌, subst, arith, inl, inr}
use Rattle.std.proofs.lemmas.Bool.{cases_lt, cases_eq, cases_Bool}
use Rattle.std.proofs.lemmas.Bool.Decides.{nat_tests}
use Rattle.std.proofs.lemmas.List.{length-set, get_or-set_other, drop_all, map_more, take_more}
use Rattle.std.proofs.lemmas.List.Sums.{sum_by-cons}
use Rattle.std.proofs.lemmas.Nat.{pow-add, pow_pos}
use Rattle.std.proofs.Math.ListN.{set}
use Rattle.std.proofs.Math.Nat.{lt_of_mul-lt-mul_right, mul-le-mul_right, pow-le-pow_right}
use Rattle.std.proofs.Math.Seq.{drop-cons}
use Rattle.a429_pack.specs.Demanded.{demand_of, IsBusCount}
use Rattle.a429_pack.specs.Demands.{greatest}
use Rattle.a429_pack.specs.Taken.{freeable, AreTaken}
use Rattle.a429_pack.specs.Widening.{widened, MayWiden, freed_in, freed, excess, Saves, IsLeastSaving, NoneSaves}
use Rattle.a429_pack.proofs.Entries.{greatest-push}
use Rattle.a429_pack.proofs.Packings.{demand_over}
use Rattle.a429_pack.proofs.Tables.{sum-push}

-- the chosen outputs have an exponent below h
abbrev pub Narrow : ℕ → List ℕ → List Bool → Type 0
Narrow h ks cs = (i : ℕ) → get_or cs i false ≡ true → get_or ks i 0 < h

-- ---- the demand of wider outputs

-- chosen outputs below the greatest leave it as it is
greatest_stays : (h : ℕ) (ks : List ℕ) (cs : List Bool) → Narrow h ks cs → greatest ks ≤ h
    → (greatest (widened ks cs) ≤ h) × (greatest ks ≡ h → greatest (widened ks cs) ≡ h)
greatest_stays h [] cs narrow most = (most, λ is. is)
greatest_stays h (k ∷ ks) [] narrow most = (most, λ is. is)
greatest_stays h (k ∷ ks) (true ∷ cs) narrow most =
    let below : k < h = narrow zero refl in
    let ih : (greatest (widened ks cs) ≤ h) × (greatest ks ≡ h → greatest (widened ks cs) ≡ h) = greatest_stays h ks cs (λ i. narrow (suc i)) (omega arith) in
    (omega arith, λ is. let same : greatest (widened ks cs) ≡ h = ih.1 (omega arith) in omega arith)
greatest_stays h (k ∷ ks) (false ∷ cs) narrow most =
    let ih : (greatest (widened ks cs) ≤ h) × (greatest ks ≡ h → greatest (widened ks cs) ≡ h) = greatest_stays h ks cs (λ i. narrow (suc i)) (omega arith) in (
      omega arith,
      λ is. elim (cases_lt k h) [
        | inl below ↦ let same : greatest (widened ks cs) ≡ h = ih.1 (omega arith) in omega arith
        | inr top ↦ omega arith
      ],
    )

-- a wider output has half of its cells
halves : (h k : ℕ) → k < h → 2 ^ (h - k) ≡ 2 * 2 ^ (h - k - 1)
halves h k below =
    let digits : h - k ≡ h - k - 1 + 1 = omega arith in
    ap (λ z. 2 ^ z) digits ∙ pow-add 2 (h - k - 1) 1 ∙ omega arith

-- how many cells outputs have in a frame of 2^h slots
abbrev pub cells_in : ℕ → List ℕ → ℕ
cells_in h ks = sum (map (λ k. 2 ^ h / 2 ^ k) ks)

cells_of_wider : (h : ℕ) (ks : List ℕ) (cs : List Bool) → Narrow h ks cs → cells_in h (widened ks cs) + freed_in h ks cs ≡ cells_in h ks
cells_of_wider h [] cs narrow = refl
cells_of_wider h (k ∷ ks) [] narrow = omega arith
cells_of_wider h (k ∷ ks) (true ∷ cs) narrow =
    let below : k < h = narrow zero refl in
    let ih : cells_in h (widened ks cs) + freed_in h ks cs ≡ cells_in h ks = cells_of_wider h ks cs (λ i. narrow (suc i)) in
    let less : h - (k + 1) ≡ h - k - 1 = omega arith in
    omega (
      arith,
      sum_by-cons (λ x. x) (2 ^ h / 2 ^ k) (map (λ j. 2 ^ h / 2 ^ j) ks),
      sum_by-cons (λ x. x) (2 ^ h / 2 ^ (k + 1)) (map (λ j. 2 ^ h / 2 ^ j) (widened ks cs)),
      demand_over h k (omega arith),
      demand_over h (k + 1) (omega arith),
      halves h k below,
      ap (λ z. 2 ^ z) less,
    )
cells_of_wider h (k ∷ ks) (false ∷ cs) narrow =
    let ih : cells_in h (widened ks cs) + freed_in h ks cs ≡ cells_in h ks = cells_of_wider h ks cs (λ i. narrow (suc i)) in
    omega (
      arith,
      sum_by-cons (λ x. x) (2 ^ h / 2 ^ k) (map (λ j. 2 ^ h / 2 ^ j) ks),
      sum_by-cons (λ x. x) (2 ^ h / 2 ^ k) (map (λ j. 2 ^ h / 2 ^ j) (widened ks cs)),
    )

frame_stays : (ks : List ℕ) (cs : List Bool) → MayWiden ks cs → greatest (widened ks cs) ≡ greatest ks
frame_stays ks cs may = (greatest_stays (greatest ks) ks cs may.shorter (omega arith)).1 refl

demand_of_wider : (ks : List ℕ) (cs : List Bool) → MayWiden ks cs → demand_of (widened ks cs) + freed ks cs ≡ demand_of ks
demand_of_wider ks cs may =
    ap (λ h. cells_in h (widened ks cs) + freed ks cs) (frame_stays ks cs may) ∙ cells_of_wider (greatest ks) ks cs may.shorter

-- if as many cells become free as needed, and less than a bus more, one bus is saved
saves : (ks : List ℕ) (buses : ℕ) (cs : List Bool) → MayWiden ks cs → IsBusCount ks buses → 2 ≤ buses
    → excess ks buses ≤ freed ks cs → freed ks cs < excess ks buses + 2 ^ greatest ks → Saves ks buses cs
saves ks buses cs may count more enough tight =
    let h : ℕ = greatest ks in
    let demand : demand_of (widened ks cs) + freed ks cs ≡ demand_of ks = demand_of_wider ks cs may in
    let frame : 2 ^ greatest (widened ks cs) ≡ 2 ^ h = ap (λ z. 2 ^ z) (frame_stays ks cs may) in
    let one : buses - 1 ≡ buses - 1 - 1 + 1 = omega arith in
    let last : (buses - 1) * 2 ^ h ≡ (buses - 1 - 1) * 2 ^ h + 2 ^ h = ap (λ z. z * 2 ^ h) one ∙ omega arith in
    let above : (buses - 1) * 2 ^ h < demand_of ks = count.above in
    let fits : demand_of (widened ks cs) ≤ (buses - 1) * 2 ^ h = omega arith in
    let full : (buses - 1 - 1) * 2 ^ h < demand_of (widened ks cs) = omega arith in
    record {
      may = may;
      fewer = record {
        within = omega (arith, fits, ap (λ z. (buses - 1) * z) frame);
        above = omega (arith, full, ap (λ z. (buses - 1 - 1) * z) frame);
      };
    }

-- ---- sums over the first outputs

pub greatest-more : (ks : List ℕ) (i d : ℕ) → i < length ks → greatest (take (i + 1) ks) ≡ max (greatest (take i ks)) (get_or ks i d)
greatest-more ks i d below = ap greatest (take_more ks i d below) ∙ greatest-push (take i ks) (get_or ks i d)

pub cells-more : (h : ℕ) (ks : List ℕ) (i d : ℕ) → i < length ks → cells_in h (take (i + 1) ks) ≡ cells_in h (take i ks) + 2 ^ h / 2 ^ get_or ks i d
cells-more h ks i d below = ap sum (map_more (λ k. 2 ^ h / 2 ^ k) ks i d below) ∙ sum-push (map (λ k. 2 ^ h / 2 ^ k) (take i ks)) (2 ^ h / 2 ^ get_or ks i d)

-- what one output frees
abbrev pub freeable_by : ℕ → ℕ → ℕ → ℕ → ℕ
freeable_by h low high k = cond (leb low k && ltb k high) (2 ^ (h - k - 1)) 0

freeable-push : (h low high : ℕ) (ks : List ℕ) (k : ℕ) → freeable h low high (ks ++ k ∷ []) ≡ freeable h low high ks + freeable_by h low high k
freeable-push h low high [] k = omega arith
freeable-push h low high (x ∷ ks) k = ap (λ z. freeable_by h low high x + z) (freeable-push h low high ks k) ∙ omega arith

pub freeable_more : (h low high : ℕ) (ks : List ℕ) (i d : ℕ) → i < length ks
    → freeable h low high (take (i + 1) ks) ≡ freeable h low high (take i ks) + freeable_by h low high (get_or ks i d)
freeable_more h low high ks i d below = ap (freeable h low high) (take_more ks i d below) ∙ freeable-push h low high (take i ks) (get_or ks i d)

-- ---- what outputs can free

freeable-in : (h low high k : ℕ) (ks : List ℕ) → low ≤ k → k < high → freeable h low high (k ∷ ks) ≡ 2 ^ (h - k - 1) + freeable h low high ks
freeable-in h low high k ks from to = grind (arith, nat_tests)

freeable-out : (h low high k : ℕ) (ks : List ℕ) → (k < low) ⊎ (high ≤ k) → freeable h low high (k ∷ ks) ≡ freeable h low high ks
freeable-out h low high k ks out = grind (arith, nat_tests)

freeable-more : (h low high k : ℕ) (ks : List ℕ) → freeable h low high ks ≤ freeable h low high (k ∷ ks)
freeable-more h low high k ks = omega arith

freeable-split : (h low middle high : ℕ) (ks : List ℕ) → low ≤ middle → middle ≤ high
    → freeable h low high ks ≡ freeable h low middle ks + freeable h middle high ks
freeable-split h low middle high [] first second = refl
freeable-split h low middle high (k ∷ ks) first second =
    let ih : freeable h low high ks ≡ freeable h low middle ks + freeable h middle high ks = freeable-split h low middle high ks first second in
    elim (cases_lt k low) [
      | inl before ↦ omega (arith, freeable-out h low high k ks (inl before), freeable-out h low middle k ks (inl before), freeable-out h middle high k ks (inl (omega arith)))
      | inr from ↦ elim (cases_lt k middle) [
        | inl left ↦ omega (arith, freeable-in h low high k ks from (omega arith), freeable-in h low middle k ks from left, freeable-out h middle high k ks (inl left))
        | inr right ↦ elim (cases_lt k high) [
          | inl within ↦ omega (arith, freeable-in h low high k ks from within, freeable-out h low middle k ks (inr right), freeable-in h middle high k ks right within)
          | inr behind ↦ omega (arith, freeable-out h low high k ks (inr behind), freeable-out h low middle k ks (inr right), freeable-out h middle high k ks (inr behind))
        ]
      ]
    ]

-- no choice frees more than all outputs
freed_most : (h : ℕ) (ks : List ℕ) (cs : List Bool) → Narrow h ks cs → freed_in h ks cs ≤ freeable h 0 h ks
freed_most h [] cs narrow = omega arith
freed_most h (k ∷ ks) [] narrow = omega arith
freed_most h (k ∷ ks) (true ∷ cs) narrow =
    let ih : freed_in h ks cs ≤ freeable h 0 h ks = freed_most h ks cs (λ i. narrow (suc i)) in
    omega (arith, freeable-in h 0 h k ks (omega arith) (narrow zero refl))
freed_most h (k ∷ ks) (false ∷ cs) narrow =
    omega (arith, freed_most h ks cs (λ i. narrow (suc i)), freeable-more h 0 h k ks)

-- what the outputs up to exponent d free is a multiple of what each with exponent d does
freed_parts : (h d : ℕ) (ks : List ℕ) (cs : List Bool) → d < h → Narrow h ks cs
    → (m : ℕ) × (m * 2 ^ (h - d - 1) ≤ freed_in h ks cs) × (freed_in h ks cs ≤ m * 2 ^ (h - d - 1) + freeable h (d + 1) h ks)
freed_parts h d [] cs inside narrow = (0, omega arith, omega arith)
freed_parts h d (k ∷ ks) [] inside narrow = (0, omega arith, omega arith)
freed_parts h d (k ∷ ks) (true ∷ cs) inside narrow =
    let below : k < h = narrow zero refl in
    let (m, low, high) = freed_parts h d ks cs inside (λ i. narrow (suc i)) in
    elim (cases_lt d k) [
      | inl finer ↦ (m, omega arith, omega (arith, freeable-in h (d + 1) h k ks (omega arith) below))
      | inr coarse ↦
          let digits : h - k - 1 ≡ d - k + (h - d - 1) = omega arith in
          let size : 2 ^ (h - k - 1) ≡ 2 ^ (d - k) * 2 ^ (h - d - 1) = ap (λ z. 2 ^ z) digits ∙ pow-add 2 (d - k) (h - d - 1) in
          let sum_is : (2 ^ (d - k) + m) * 2 ^ (h - d - 1) ≡ 2 ^ (d - k) * 2 ^ (h - d - 1) + m * 2 ^ (h - d - 1) = omega arith in
          (2 ^ (d - k) + m, omega arith, omega (arith, freeable-more h (d + 1) h k ks))
    ]
freed_parts h d (k ∷ ks) (false ∷ cs) inside narrow =
    let (m, low, high) = freed_parts h d ks cs inside (λ i. narrow (suc i)) in
    (m, omega arith, omega (arith, freeable-more h (d + 1) h k ks))

-- ---- the choice, output by output

-- The state within the outputs of exponent d: those before `place` are decided too.
pub record AreTakenTo (h needed d place : ℕ) (ks : List ℕ) (cs : List Bool) (cells : ℕ) : Type 0 where
  pub each : length cs ≡ length ks
  pub decided : (i : ℕ) → get_or cs i false ≡ true → (get_or ks i 0 < d) ⊎ ((get_or ks i 0 ≡ d) × (i < place))
  pub is : cells ≡ freed_in h ks cs
  pub whole : (m : ℕ) × (cells ≡ m * 2 ^ (h - d - 1))
  pub enough : needed ≤ cells + freeable h d (d + 1) (drop place ks) + freeable h (d + 1) h ks
  pub tight : cells < needed + 2 ^ h
  pub least : (others : List Bool) → Narrow h ks others → needed ≤ freed_in h ks others → cells ≤ freed_in h ks others

-- nothing chosen
none_freed : (h : ℕ) (ks : List ℕ) (cs : List Bool) → ((i : ℕ) → get_or cs i false ≡ false) → freed_in h ks cs ≡ 0
none_freed h [] cs none = refl
none_freed h (k ∷ ks) [] none = refl
none_freed h (k ∷ ks) (true ∷ cs) none = let no : true ≡ false = none zero in cc
none_freed h (k ∷ ks) (false ∷ cs) none = none_freed h ks cs (λ i. none (suc i))

pub taken_first : (h needed : ℕ) (ks : List ℕ) (cs : List Bool) → length cs ≡ length ks → ((i : ℕ) → get_or cs i false ≡ false)
    → needed ≤ freeable h 0 h ks → AreTaken h needed 0 ks cs 0
taken_first h needed ks cs each none enough = record {
  each = each;
  decided = λ i is. let no : get_or cs i false ≡ false = none i in absurd (cc);
  is = sym (none_freed h ks cs none);
  whole = (0, omega arith);
  enough = omega arith;
  tight = omega (arith, pow_pos h);
  least = λ others narrow most. omega arith;
}

pub taken_from : (h needed d : ℕ) (ks : List ℕ) (cs : List Bool) (cells : ℕ) → d < h → AreTaken h needed d ks cs cells → AreTakenTo h needed d 0 ks cs cells
taken_from h needed d ks cs cells inside t =
    let m : ℕ = t.whole.0 in
    let is : cells ≡ m * 2 ^ (h - d) = t.whole.1 in
    let half : m * 2 ^ (h - d) ≡ m * (2 * 2 ^ (h - d - 1)) = ap (λ z. m * z) (halves h d inside) in
    record {
      each = t.each;
      decided = λ i is. inl (t.decided i is);
      is = t.is;
      whole = (2 * m, omega arith);
      enough = omega (arith, t.enough, freeable-split h d (d + 1) h ks (omega arith) (omega arith));
      tight = t.tight;
      least = t.least;
    }

pub taken_behind : (h needed d place : ℕ) (ks : List ℕ) (cs : List Bool) (cells : ℕ) → length ks ≤ place → AreTakenTo h needed d place ks cs cells → AreTaken h needed (d + 1) ks cs cells
taken_behind h needed d place ks cs cells all t =
    let less : h - d - 1 ≡ h - (d + 1) = omega arith in
    let none : freeable h d (d + 1) (drop place ks) ≡ 0 = ap (freeable h d (d + 1)) (drop_all place ks all) in
    record {
      each = t.each;
      decided = λ i is. elim (t.decided i is) [ inl before ↦ omega arith | inr (same, _) ↦ omega arith ];
      is = t.is;
      whole = (t.whole.0, t.whole.1 ∙ ap (λ z. t.whole.0 * 2 ^ z) less);
      enough = omega (arith, t.enough, none);
      tight = t.tight;
      least = t.least;
    }

-- one more output is decided and not chosen
pub taken_without : (h needed d place : ℕ) (ks : List ℕ) (cs : List Bool) (cells : ℕ) → place < length ks
    → ((get_or ks place 0 ≡ d) → needed ≤ cells + freeable h (d + 1) h ks) → AreTakenTo h needed d place ks cs cells → AreTakenTo h needed d (place + 1) ks cs cells
taken_without h needed d place ks cs cells below spare t =
    let next : drop place ks ≡ get_or ks place 0 ∷ drop (suc place) ks = drop-cons ks place 0 below in
    let more : suc place ≡ place + 1 = omega arith in
    let here : freeable h d (d + 1) (drop place ks) ≡ freeable h d (d + 1) (get_or ks place 0 ∷ drop (suc place) ks) = ap (freeable h d (d + 1)) next in
    let there : freeable h d (d + 1) (drop (suc place) ks) ≡ freeable h d (d + 1) (drop (place + 1) ks) = ap (λ z. freeable h d (d + 1) (drop z ks)) more in
    record {
      each = t.each;
      decided = λ i is. elim (t.decided i is) [ inl before ↦ inl before | inr (same, earlier) ↦ inr (same, omega arith) ];
      is = t.is;
      whole = t.whole;
      enough = elim (cases_eq (get_or ks place 0) d) [
        | inl same ↦ omega (arith, spare same)
        | inr other ↦
            let out : (get_or ks place 0 < d) ⊎ (d + 1 ≤ get_or ks place 0) = elim (cases_lt (get_or ks place 0) d) [ inl less ↦ inl less | inr most ↦ inr (omega arith) ] in
            omega (arith, t.enough, here, there, freeable-out h d (d + 1) (get_or ks place 0) (drop (suc place) ks) out)
      ];
      tight = t.tight;
      least = t.least;
    }

-- one more chosen frees its cells
freed-set : (h : ℕ) (ks : List ℕ) (cs : List Bool) (i : ℕ) → i < length ks → i < length cs → get_or cs i false ≡ false
    → freed_in h ks (set cs i true) ≡ 2 ^ (h - get_or ks i 0 - 1) + freed_in h ks cs
freed-set h [] cs i below inside free = absurd (omega arith)
freed-set h (k ∷ ks) [] i below inside free = absurd (omega arith)
freed-set h (k ∷ ks) (true ∷ cs) zero below inside free = absurd (cc)
freed-set h (k ∷ ks) (false ∷ cs) zero below inside free = refl
freed-set h (k ∷ ks) (true ∷ cs) (suc i) below inside free =
    let ih : freed_in h ks (set cs i true) ≡ 2 ^ (h - get_or ks i 0 - 1) + freed_in h ks cs = freed-set h ks cs i (omega arith) (omega arith) free in
    omega arith
freed-set h (k ∷ ks) (false ∷ cs) (suc i) below inside free = freed-set h ks cs i (omega arith) (omega arith) free

-- if the rest does not suffice, every choice that suffices frees one more piece
one_more : (h needed d : ℕ) (ks : List ℕ) (cells m : ℕ) → d < h → cells ≡ m * 2 ^ (h - d - 1) → cells + freeable h (d + 1) h ks < needed
    → (others : List Bool) → Narrow h ks others → needed ≤ freed_in h ks others → cells + 2 ^ (h - d - 1) ≤ freed_in h ks others
one_more h needed d ks cells m inside is few others narrow most =
    let v : ℕ = 2 ^ (h - d - 1) in
    let (n, low, high) = freed_parts h d ks others inside narrow in
    let less : m * v < n * v = omega arith in
    let steps : m < n = lt_of_mul-lt-mul_right v {m = m} {n = n} less in
    let more : (m + 1) * v ≤ n * v = mul-le-mul_right {m = m + 1} {n = n} v (omega arith) in
    let next : (m + 1) * v ≡ m * v + v = omega arith in
    omega arith

-- one more output is chosen: it is within what is needed, or the rest does not suffice
pub taken_with : (h needed d place : ℕ) (ks : List ℕ) (cs : List Bool) (cells : ℕ) → d < h → place < length ks → get_or ks place 0 ≡ d
    → (cells + 2 ^ (h - d - 1) ≤ needed) ⊎ (cells + freeable h (d + 1) h ks < needed)
    → AreTakenTo h needed d place ks cs cells → AreTakenTo h needed d (place + 1) ks (set cs place true) (cells + 2 ^ (h - d - 1))
taken_with h needed d place ks cs cells inside below here due t =
    let v : ℕ = 2 ^ (h - d - 1) in
    let m : ℕ = t.whole.0 in
    let is : cells ≡ m * v = t.whole.1 in
    let long : place < length cs = omega (arith, t.each) in
    let free : get_or cs place false ≡ false = elim (cases_Bool (get_or cs place false)) [
      | inl taken ↦ elim (t.decided place taken) [ inl before ↦ absurd (omega arith) | inr (_, earlier) ↦ absurd (omega arith) ]
      | inr free ↦ free
    ] in
    let size : 2 ^ (h - get_or ks place 0 - 1) ≡ v = ap (λ z. 2 ^ (h - z - 1)) here in
    let next : drop place ks ≡ get_or ks place 0 ∷ drop (suc place) ks = drop-cons ks place 0 below in
    let more : suc place ≡ place + 1 = omega arith in
    let first : freeable h d (d + 1) (drop place ks) ≡ freeable h d (d + 1) (get_or ks place 0 ∷ drop (suc place) ks) = ap (freeable h d (d + 1)) next in
    let there : freeable h d (d + 1) (drop (suc place) ks) ≡ freeable h d (d + 1) (drop (place + 1) ks) = ap (λ z. freeable h d (d + 1) (drop z ks)) more in
    let small : v ≤ 2 ^ h = let one : 0 < 2 = omega arith in pow-le-pow_right {n = 2} one {i = h - d - 1} {j = h} (omega arith) in
    record {
      each = length-set cs place true ∙ t.each;
      decided = λ i is. elim (cases_eq i place) [
        | inl same ↦ inr (ap (λ z. get_or ks z 0) same ∙ here, omega arith)
        | inr other ↦
            let before : get_or cs i false ≡ true = sym (get_or-set_other cs place i true false other) ∙ is in
            elim (t.decided i before) [ inl less ↦ inl less | inr (same, earlier) ↦ inr (same, omega arith) ]
      ];
      is = omega (arith, t.is, size, freed-set h ks cs place below long free);
      whole = (m + 1, omega arith);
      enough = omega (arith, t.enough, first, there, size, freeable-in h d (d + 1) (get_or ks place 0) (drop (suc place) ks) (omega arith) (omega arith));
      tight = elim due [ inl within ↦ omega (arith, pow_pos h) | inr short ↦ omega arith ];
      least = λ others narrow most. elim due [
        | inl within ↦ omega arith
        | inr short ↦ one_more h needed d ks cells m inside is short others narrow most
      ];
    }

-- ---- what is answered

none_above : (h : ℕ) (ks : List ℕ) → freeable h h h ks ≡ 0
none_above h [] = refl
none_above h (k ∷ ks) =
    let out : (k < h) ⊎ (h ≤ k) = elim (cases_lt k h) [ inl less ↦ inl less | inr most ↦ inr most ] in
    freeable-out h h h k ks out ∙ none_above h ks

-- a choice that saves a bus frees at least the excess
saving_frees : (ks : List ℕ) (buses : ℕ) (cs : List Bool) → MayWiden ks cs → demand_of (widened ks cs) ≤ (buses - 1) * 2 ^ greatest ks → excess ks buses ≤ freed ks cs
saving_frees ks buses cs may fits = omega (arith, demand_of_wider ks cs may)

pub least_saving : (h : ℕ) (ks : List ℕ) (buses : ℕ) (cs : List Bool) (needed cells : ℕ) → h ≡ greatest ks → IsBusCount ks buses → 2 ≤ buses
    → needed ≡ excess ks buses → AreTaken h needed h ks cs cells → IsLeastSaving ks buses cs
least_saving h ks buses cs needed cells frame count more is taken =
    let P : ℕ → Type 0 = λ (z : ℕ). AreTaken z needed z ks cs cells in
    let t : AreTaken (greatest ks) needed (greatest ks) ks cs cells = subst P frame taken in
    let may : MayWiden ks cs = record { each = t.each; shorter = t.decided } in
    let enough : needed ≤ freed ks cs = omega (arith, t.enough, t.is, none_above (greatest ks) ks) in
    record {
      saves = saves ks buses cs may count more (omega arith) (omega (arith, t.is, t.tight));
      least = λ others wider fits.
          let most : needed ≤ freed ks others = omega (arith, is, saving_frees ks buses others wider fits) in
          omega (arith, t.is, t.least others wider.shorter most);
    }

pub none_saves : (h : ℕ) (ks : List ℕ) (buses needed all : ℕ) → h ≡ greatest ks → needed ≡ excess ks buses → all ≡ freeable h 0 h ks → all < needed → NoneSaves ks buses
none_saves h ks buses needed all frame is total few others may =
    let whole : freeable h 0 h ks ≡ freeable (greatest ks) 0 (greatest ks) ks = ap (λ z. freeable z 0 z ks) frame in
    omega (arith, demand_of_wider ks others may, freed_most (greatest ks) ks others may.shorter)
