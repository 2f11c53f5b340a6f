-- The slots of all groups up to a bound for each, in the order of time.
use Rattle.std.proofs.Common.{◌≡◌, ◌∙◌, ◌+◌, ◌*◌, ◌<◌, ◌≤◌, ◌⊎◌, ℕ, zero, suc, true, false, inl, inr, List, [], ◌∷◌, ◌++◌, length, refl, sym, ap, subst, arith, eq-eqb}
use Rattle.std.specs.Prelude.{◌==◌, if◌then◌else◌, nat_lt}
use Rattle.std.specs.List.{range_with_len}
use Rattle.std.proofs.lemmas.Bool.{cases_Bool, cases_eq, cases_lt, ltb-true, ne_eqb}
use Rattle.std.proofs.lemmas.Nat.{mul-le}
use Rattle.a429_grid.specs.Grid.{slot_time}
use Rattle.a429_slots.specs.Proposed.{Proposed}
use Rattle.a429_recordings.specs.Timeline.{AllPrecede, HasHappened, Precedes, rate_of, slots_by}
use Rattle.a429_recordings.specs.declared.simulate.log.LogWord.{LogWord}
use Rattle.a429_recordings.specs.declared.simulate.moments.Moment.{Moment}
use Rattle.a429_recordings.specs.declared.simulate.moments.Moment.TheVariants.{Word, Slot}
use Rattle.a429_recordings.proofs.Timelines.{slot_happens}
use Rattle.a429_recordings.proofs.TrackOrder.{strictly_before}

-- ---- one more

abbrev bump : (ℕ → ℕ) → ℕ → ℕ → ℕ
bump f g h = if h == g then f h + 1 else f h

bump_own : (f : ℕ → ℕ) (g : ℕ) → bump f g g ≡ f g + 1
bump_own f g = let is : (g == g) ≡ true = eq-eqb g g refl in rw is refl

bump_other : (f : ℕ → ℕ) (g h : ℕ) → (h ≡ g → ⊥) → bump f g h ≡ f h
bump_other f g h other = let is : (h == g) ≡ false = ne_eqb h g other in rw is refl

-- the first n numbers of f together
abbrev total : (ℕ → ℕ) → ℕ → ℕ
total f zero = 0
total f (suc n) = f n + total f n

total_most : (f h : ℕ → ℕ) → ((g : ℕ) → f g ≤ h g) → (n : ℕ) → total f n ≤ total h n
total_most f h most zero = omega arith
total_most f h most (suc n) = omega (arith, most n, total_most f h most n)

total_kept : (f : ℕ → ℕ) (g n : ℕ) → n ≤ g → total (bump f g) n ≡ total f n
total_kept f g zero past = refl
total_kept f g (suc n) past = omega (arith, bump_other f g n (λ e. absurd (omega (arith, e, past))), total_kept f g n (omega (arith, past)))

total_more : (f : ℕ → ℕ) (g n : ℕ) → g < n → total (bump f g) n ≡ total f n + 1
total_more f g zero within = absurd (omega (arith, within))
total_more f g (suc n) within = elim (cases_eq n g) [
  | inl same ↦
      let own : bump f g n ≡ f n + 1 = subst (λ (k : ℕ). bump f g k ≡ f k + 1) (sym same) (bump_own f g) in
      omega (arith, own, total_kept f g n (omega (arith, same)))
  | inr other ↦ omega (arith, bump_other f g n other, total_more f g n (omega (arith, within, other)))
]

module _ (q : Proposed) (rates : (g : ℕ) → 1 ≤ rate_of q g) where
  -- ---- the group whose next slot is first

  -- the next slot of g begins no later than that of h, and if both begin at one instant g comes no later in the table
  abbrev Sooner : (ℕ → ℕ) → ℕ → ℕ → Type 0
  Sooner next g h = (next g * rate_of q h ≤ next h * rate_of q g) × (next g * rate_of q h ≡ next h * rate_of q g → g ≤ h)

  record IsFirst (next bound : ℕ → ℕ) (k : ℕ) : Type 0 where
    pub group : ℕ
    pub within : group < k
    pub left : next group < bound group
    pub first : (h : ℕ) → h < k → next h < bound h → Sooner next group h

  abbrev AreDone : (ℕ → ℕ) → (ℕ → ℕ) → ℕ → Type 0
  AreDone next bound k = (g : ℕ) → g < k → bound g ≤ next g

  module _ (next bound : ℕ → ℕ) where
    itself : (k h : ℕ) → h ≡ k → Sooner next k h
    itself k h same = subst (Sooner next k) (sym same) (omega arith, λ e. omega arith)

    done_more : (k : ℕ) → bound k ≤ next k → AreDone next bound k → AreDone next bound (k + 1)
    done_more k own all = λ g below. elim (cases_eq g k) [
      | inl same ↦ subst (λ (n : ℕ). bound n ≤ next n) (sym same) own
      | inr other ↦ all g (omega (arith, below, other))
    ]

    first_kept : (k : ℕ) → bound k ≤ next k → IsFirst next bound k → IsFirst next bound (k + 1)
    first_kept k own F = record {
      group = F.group;
      within = omega (arith, F.within);
      left = F.left;
      first = λ h below left. elim (cases_eq h k) [
        | inl same ↦ let done : bound h ≤ next h = subst (λ (n : ℕ). bound n ≤ next n) (sym same) own in absurd (omega (arith, done, left))
        | inr other ↦ F.first h (omega (arith, below, other)) left
      ];
    }

    only_first : (k : ℕ) → next k < bound k → AreDone next bound k → IsFirst next bound (k + 1)
    only_first k own all = record {
      group = k;
      within = omega arith;
      left = own;
      first = λ h below left. elim (cases_eq h k) [
        | inl same ↦ itself k h same
        | inr other ↦ absurd (omega (arith, all h (omega (arith, below, other)), left))
      ];
    }

    new_first : (k : ℕ) → next k < bound k → (F : IsFirst next bound k) → next k * rate_of q F.group < next F.group * rate_of q k → IsFirst next bound (k + 1)
    new_first k own F sooner = record {
      group = k;
      within = omega arith;
      left = own;
      first = λ h below left. elim (cases_eq h k) [
        | inl same ↦ itself k h same
        | inr other ↦
            let b = F.group in
            let later = (F.first h (omega (arith, below, other)) left).0 in
            let less : next k * rate_of q h < next h * rate_of q k = strictly_before (next k) (rate_of q k) (next b) (rate_of q b) (next h) (rate_of q h) (omega (arith, rates h)) sooner later in
            (omega (arith, less), λ e. absurd (omega (arith, less, e)))
      ];
    }

    old_first : (k : ℕ) (F : IsFirst next bound k) → next F.group * rate_of q k ≤ next k * rate_of q F.group → IsFirst next bound (k + 1)
    old_first k F later = record {
      group = F.group;
      within = omega (arith, F.within);
      left = F.left;
      first = λ h below left. elim (cases_eq h k) [
        | inl same ↦ subst (Sooner next F.group) (sym same) (later, λ e. omega (arith, F.within))
        | inr other ↦ F.first h (omega (arith, below, other)) left
      ];
    }

    first_more : (k : ℕ) → AreDone next bound k ⊎ IsFirst next bound k → AreDone next bound (k + 1) ⊎ IsFirst next bound (k + 1)
    first_more k before = elim (cases_lt (next k) (bound k)) [
      | inl own ↦ elim before [
        | inl all ↦ inr (only_first k own all)
        | inr F ↦ elim (cases_lt (next k * rate_of q F.group) (next F.group * rate_of q k)) [
          | inl sooner ↦ inr (new_first k own F sooner)
          | inr later ↦ inr (old_first k F later)
        ]
      ]
      | inr own ↦ elim before [
        | inl all ↦ inl (done_more k own all)
        | inr F ↦ inr (first_kept k own F)
      ]
    ]

    first_of : (k : ℕ) → AreDone next bound k ⊎ IsFirst next bound k
    first_of zero = inl (λ g below. absurd (omega (arith, below)))
    first_of (suc k) = let one : k + 1 ≡ suc k = omega arith in subst (λ (n : ℕ). AreDone next bound n ⊎ IsFirst next bound n) one (first_more k (first_of k))

  -- ---- one slot after another

  -- up to these bounds the slots of the groups begin before the start, and later ones do not
  pub record AreBounds (words : List LogWord) (start last : ℕ) (bound : ℕ → ℕ) : Type 0 where
    pub few : (g : ℕ) → bound g ≤ slots_by q last g
    pub before : (g t : ℕ) → t < bound g → t * slot_time < start * rate_of q g
    pub after : (g : ℕ) → bound g < slots_by q last g → start * rate_of q g ≤ bound g * slot_time
    pub early : (w : LogWord) (ws : List LogWord) → words ≡ w ∷ ws → start ≤ w.time

  module _ (words : List LogWord) (start last : ℕ) (bound : ℕ → ℕ) (B : AreBounds words start last bound) where
    abbrev groups : ℕ
    groups = length q.station.groups

    within_groups : (g n : ℕ) → n < slots_by q last g → g < groups
    within_groups g n some = elim (cases_Bool (nat_lt g groups)) [
      | inl is ↦ ltb-true g groups is
      | inr is ↦ let none : slots_by q last g ≡ 0 = rw is refl in absurd (omega (arith, none, some))
    ]

    before_word : (g t : ℕ) (w : LogWord) (ws : List LogWord) → t < bound g → words ≡ w ∷ ws → Precedes q (Slot g t) (Word w)
    before_word g t w ws low is =
        let less : t * slot_time < w.time * rate_of q g = omega (arith, B.before g t low, mul-le start (rate_of q g) w.time (rate_of q g) (B.early w ws is) (omega arith)) in
        record { no_later = omega (arith, less); ranked = λ same. absurd (omega (arith, less, same)) }

    before_slot : (next : ℕ → ℕ) (F : IsFirst next bound groups) → ((h : ℕ) → next h ≤ bound h) → (h : ℕ) → next h < slots_by q last h
        → Precedes q (Slot F.group (next F.group)) (Slot h (next h))
    before_slot next F most h left =
        let g = F.group in
        elim (cases_lt (next h) (bound h)) [
          | inl more ↦
              let sooner = F.first h (within_groups h (next h) left) more in
              record { no_later = omega (arith, sooner.0); ranked = λ same. omega (arith, sooner.1 (omega (arith, same))) }
          | inr all ↦
              let end : bound h ≡ next h = omega (arith, all, most h) in
              let after : start * rate_of q h ≤ next h * slot_time = subst (λ (n : ℕ). start * rate_of q h ≤ n * slot_time) end (B.after h (omega (arith, end, left))) in
              let less : next g * rate_of q h < next h * rate_of q g = strictly_before (next g) (rate_of q g) start slot_time (next h) (rate_of q h) (omega (arith, rates h)) (B.before g (next g) F.left) after in
              record { no_later = omega (arith, less); ranked = λ same. absurd (omega (arith, less, same)) }
        ]

    -- these moments have happened, and no word
    abbrev Happens : (ℕ → ℕ) → List Moment → Type 0
    Happens next M = HasHappened q words last M words next

    same_places : (next next' : ℕ → ℕ) (M : List Moment) → ((g : ℕ) → next g ≡ next' g) → Happens next M → Happens next' M
    same_places next next' M same H = record {
      words_are = H.words_are;
      slots_are = λ g. H.slots_are g ∙ ap (range_with_len 0) (same g);
      few = λ g. omega (arith, same g, H.few g);
      in_order = H.in_order;
      before_words = H.before_words;
      before_slots = λ g left. subst (λ (t : ℕ). AllPrecede q M (Slot g t)) (same g) (H.before_slots g (omega (arith, same g, left)));
    }

    all_happen : (next : ℕ → ℕ) (M : List Moment) → ((g : ℕ) → next g ≤ bound g) → AreDone next bound groups → Happens next M → Happens bound M
    all_happen next M most all H = same_places next bound M (λ g. elim (cases_lt (next g) (bound g)) [
      | inl less ↦ absurd (omega (arith, less, all g (within_groups g (next g) (omega (arith, less, B.few g)))))
      | inr end ↦ omega (arith, end, most g)
    ]) H

    bumped_most : (next : ℕ → ℕ) (g : ℕ) → next g < bound g → ((h : ℕ) → next h ≤ bound h) → (h : ℕ) → bump next g h ≤ bound h
    bumped_most next g left most h = elim (cases_eq h g) [
      | inl same ↦ subst (λ (k : ℕ). bump next g k ≤ bound k) (sym same) (omega (arith, bump_own next g, left))
      | inr other ↦ omega (arith, bump_other next g h other, most h)
    ]

    one_happens : (next : ℕ → ℕ) (M : List Moment) (F : IsFirst next bound groups) → ((g : ℕ) → next g ≤ bound g) → Happens next M
        → Happens (bump next F.group) (M ++ Slot F.group (next F.group) ∷ [])
    one_happens next M F most H =
        let g = F.group in
        slot_happens q words last M g words next (bump next g) H (omega (arith, F.left, B.few g)) (bump_own next g) (λ h other. bump_other next g h other)
        (λ w ws is. before_word g (next g) w ws F.left is) (λ h left. before_slot next F most h left)

    go_on : (n : ℕ) (next : ℕ → ℕ) (M : List Moment) → ((g : ℕ) → next g ≤ bound g) → total bound groups < total next groups + n → Happens next M
        → (M' : List Moment) × Happens bound M'
    go_on zero next M most fuel H = absurd (omega (arith, total_most next bound most groups, fuel))
    go_on (suc n) next M most fuel H = elim (first_of next bound groups) [
      | inl all ↦ (M, all_happen next M most all H)
      | inr F ↦
          let g = F.group in
          go_on n (bump next g) (M ++ Slot g (next g) ∷ []) (bumped_most next g F.left most) (omega (arith, total_more next g groups F.within, fuel)) (one_happens next M F most H)
    ]

    -- all of them can have happened before the first word
    pub happen : (M : List Moment) × Happens bound M
    happen =
        let none : ℕ → ℕ = λ g. 0 in
        go_on (total bound groups + 1) none [] (λ g. omega arith) (omega arith) (record {
          words_are = refl;
          slots_are = λ g. refl;
          few = λ g. omega arith;
          in_order = tt;
          before_words = λ w ws is. tt;
          before_slots = λ g left. tt;
        })
