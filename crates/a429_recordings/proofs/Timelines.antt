-- Moments in the order of time, one after another.
use Rattle.std.proofs.Common.{◌≡◌, ◌∙◌, ◌+◌, ◌*◌, ◌<◌, ◌≤◌, ℕ, suc, true, false, inl, inr, List, [], ◌∷◌, ◌++◌, refl, sym, ap, subst, arith, append-nil, append_assoc, eq-eqb}
use Rattle.std.specs.Prelude.{◌==◌, filter_map}
use Rattle.std.specs.List.{range_with_len}
use Rattle.std.proofs.lemmas.Bool.{cases_eq, cases_lt, ne_eqb}
use Rattle.std.proofs.lemmas.Nat.{mul-le}
use Rattle.std.proofs.lemmas.List.Elements.{filter_map-append}
use Rattle.a429_word.proofs.Lists.{all_push, range_next}
use Rattle.a429_slots.specs.Proposed.{Proposed}
use Rattle.a429_grid.specs.Grid.{slot_time}
use Rattle.a429_recordings.specs.Timeline.{AllPrecede, MomentsAreInOrder, HasHappened, IsTimeline, Precedes, instant_of, rate_of, slot_of, slots_by, word_of}
use Rattle.a429_recordings.specs.declared.simulate.log.LogWord.{LogWord}
use Rattle.a429_recordings.specs.declared.simulate.moments.Moment.{Moment}
use Rattle.a429_recordings.specs.declared.simulate.moments.Moment.TheVariants.{Word, Slot}

-- ---- products

pub less_products : (x y k : ℕ) → x * k < y * k → x < y
less_products x y k h = elim (cases_lt x y) [
  | inl less ↦ less
  | inr most ↦ absurd (omega (arith, mul-le y k x k most (omega arith), h))
]

pub most_products : (x y k : ℕ) → 0 < k → x * k ≤ y * k → x ≤ y
most_products x y k some h = elim (cases_lt y x) [
  | inl more ↦ absurd (omega (arith, mul-le (y + 1) k x k (omega arith) (omega arith), h))
  | inr most ↦ most
]

-- ---- moments

later_product : (a d e b c : ℕ) → a * e ≤ b * d → b ≤ c → a * e ≤ c * d
later_product a d e b c first more = omega (arith, mul-le b d c d more (omega arith), first)

same_product : (a d e b c : ℕ) → a * e ≤ b * d → b ≤ c → a * e ≡ c * d → a * e ≡ b * d
same_product a d e b c first more same = omega (arith, mul-le b d c d more (omega arith), first)

-- a word that comes in later
pub before_later_word : (q : Proposed) (a : Moment) (w v : LogWord) → w.time ≤ v.time → Precedes q a (Word w) → Precedes q a (Word v)
before_later_word q a w v more P = record {
  no_later = later_product (instant_of q a).micros (instant_of q a).divisor 1 w.time v.time P.no_later more;
  ranked = λ same. P.ranked (same_product (instant_of q a).micros (instant_of q a).divisor 1 w.time v.time P.no_later more same);
}

-- the next slot of a group
pub before_next_slot : (q : Proposed) (a : Moment) (g t : ℕ) → Precedes q a (Slot g t) → Precedes q a (Slot g (t + 1))
before_next_slot q a g t P =
    let more : t * slot_time ≤ (t + 1) * slot_time = omega arith in
    record {
      no_later = later_product (instant_of q a).micros (instant_of q a).divisor (rate_of q g) (t * slot_time) ((t + 1) * slot_time) P.no_later more;
      ranked = λ same. P.ranked (same_product (instant_of q a).micros (instant_of q a).divisor (rate_of q g) (t * slot_time) ((t + 1) * slot_time) P.no_later more same);
    }

word_before_word : (q : Proposed) (w v : LogWord) → w.time ≤ v.time → Precedes q (Word w) (Word v)
word_before_word q w v more = record { no_later = omega (arith, more); ranked = λ same. omega arith }

slot_before_next : (q : Proposed) (g t : ℕ) → Precedes q (Slot g t) (Slot g (t + 1))
slot_before_next q g t = record { no_later = mul-le (t * slot_time) (rate_of q g) ((t + 1) * slot_time) (rate_of q g) (omega arith) (omega arith); ranked = λ same. omega arith }

-- what follows of all
all_weaker : (q : Proposed) (M : List Moment) (a b : Moment) → ((m : Moment) → Precedes q m a → Precedes q m b) → AllPrecede q M a → AllPrecede q M b
all_weaker q [] a b more all = tt
all_weaker q (m ∷ M) a b more all = (more m all.0, all_weaker q M a b more all.1)

in_order_push : (q : Proposed) (M : List Moment) (m : Moment) → MomentsAreInOrder q M → AllPrecede q M m → MomentsAreInOrder q (M ++ m ∷ [])
in_order_push q [] m order all = (tt, tt)
in_order_push q (x ∷ M) m order all = (all_push (Precedes q x) M m order.0 all.0, in_order_push q M m order.1 all.1)

-- ---- one moment more

module _ (q : Proposed) (words : List LogWord) (last : ℕ) (M : List Moment) where
  words_with : (m : Moment) → filter_map word_of (M ++ m ∷ []) ≡ filter_map word_of M ++ filter_map word_of (m ∷ [])
  words_with m = filter_map-append word_of M (m ∷ [])

  slots_with : (g : ℕ) (m : Moment) → filter_map (slot_of g) (M ++ m ∷ []) ≡ filter_map (slot_of g) M ++ filter_map (slot_of g) (m ∷ [])
  slots_with g m = filter_map-append (slot_of g) M (m ∷ [])

  -- the next word comes before all that is left
  pub word_happens : (w : LogWord) (ws : List LogWord) (next : ℕ → ℕ) → HasHappened q words last M (w ∷ ws) next
      → ((v : LogWord) (vs : List LogWord) → ws ≡ v ∷ vs → w.time ≤ v.time) → ((g : ℕ) → next g < slots_by q last g → Precedes q (Word w) (Slot g (next g)))
      → HasHappened q words last (M ++ Word w ∷ []) ws next
  word_happens w ws next H words_later slots_later =
      let own = H.before_words w ws refl in
      record {
        words_are = ap (λ (xs : List LogWord). xs ++ ws) (words_with (Word w)) ∙ (append_assoc (filter_map word_of M) (w ∷ []) ws ∙ H.words_are);
        slots_are = λ g. slots_with g (Word w) ∙ (append-nil (filter_map (slot_of g) M) ∙ H.slots_are g);
        few = H.few;
        in_order = in_order_push q M (Word w) H.in_order own;
        before_words = λ v vs is. let more = words_later v vs is in all_push (λ m. Precedes q m (Word v)) M (Word w) (all_weaker q M (Word w) (Word v) (λ m P. before_later_word q m w v more P) own) (word_before_word q w v more);
        before_slots = λ g some. all_push (λ m. Precedes q m (Slot g (next g))) M (Word w) (H.before_slots g some) (slots_later g some);
      }

  slot_more : (g t : ℕ) → filter_map (slot_of g) (Slot g t ∷ []) ≡ t ∷ []
  slot_more g t = let same : (g == g) ≡ true = eq-eqb g g refl in rw same refl

  other_slot : (g h t : ℕ) → (h ≡ g → ⊥) → filter_map (slot_of g) (Slot h t ∷ []) ≡ []
  other_slot g h t other = let apart : (h == g) ≡ false = ne_eqb h g other in rw apart refl

  range_more : (n : ℕ) → range_with_len 0 (n + 1) ≡ range_with_len 0 n ++ n ∷ []
  range_more n =
      let one : n + 1 ≡ suc n = omega arith in
      let own : 0 + n ≡ n = omega arith in
      ap (range_with_len 0) one ∙ (range_next 0 n ∙ ap (λ (m : ℕ). range_with_len 0 n ++ m ∷ []) own)

  -- the next slot of group g comes before all that is left
  pub slot_happens : (g : ℕ) (left : List LogWord) (next next' : ℕ → ℕ) → HasHappened q words last M left next → next g < slots_by q last g
      → (next' g ≡ next g + 1) → ((h : ℕ) → (h ≡ g → ⊥) → next' h ≡ next h)
      → ((w : LogWord) (ws : List LogWord) → left ≡ w ∷ ws → Precedes q (Slot g (next g)) (Word w))
      → ((h : ℕ) → next h < slots_by q last h → Precedes q (Slot g (next g)) (Slot h (next h)))
      → HasHappened q words last (M ++ Slot g (next g) ∷ []) left next'
  slot_happens g left next next' H some one others words_later slots_later =
      let m = Slot g (next g) in
      let own = H.before_slots g some in
      let own_slots : filter_map (slot_of g) (M ++ m ∷ []) ≡ range_with_len 0 (next' g) =
      slots_with g m ∙ (ap (λ (xs : List ℕ). filter_map (slot_of g) M ++ xs) (slot_more g (next g))
      ∙ (ap (λ (xs : List ℕ). xs ++ next g ∷ []) (H.slots_are g) ∙ (sym (range_more (next g)) ∙ ap (range_with_len 0) (sym one)))) in
      let later : AllPrecede q (M ++ m ∷ []) (Slot g (next' g)) =
      subst (λ (t : ℕ). AllPrecede q (M ++ m ∷ []) (Slot g t)) (sym one)
      (all_push (λ a. Precedes q a (Slot g (next g + 1))) M m (all_weaker q M m (Slot g (next g + 1)) (λ a P. before_next_slot q a g (next g) P) own) (slot_before_next q g (next g))) in
      record {
        words_are = ap (λ (xs : List LogWord). xs ++ left) (words_with m ∙ append-nil (filter_map word_of M)) ∙ H.words_are;
        slots_are = λ h. elim (cases_eq h g) [
          | inl same ↦ subst (λ (k : ℕ). filter_map (slot_of k) (M ++ m ∷ []) ≡ range_with_len 0 (next' k)) (sym same) own_slots
          | inr other ↦ slots_with h m ∙ (ap (λ (xs : List ℕ). filter_map (slot_of h) M ++ xs) (other_slot h g (next g) (λ is. other (sym is)))
              ∙ (append-nil (filter_map (slot_of h) M) ∙ (H.slots_are h ∙ ap (range_with_len 0) (sym (others h other)))))
        ];
        few = λ h. elim (cases_eq h g) [
          | inl same ↦ subst (λ (k : ℕ). next' k ≤ slots_by q last k) (sym same) (omega (arith, one, some))
          | inr other ↦ omega (arith, others h other, H.few h)
        ];
        in_order = in_order_push q M m H.in_order own;
        before_words = λ w ws is. all_push (λ a. Precedes q a (Word w)) M m (H.before_words w ws is) (words_later w ws is);
        before_slots = λ h left_over. elim (cases_eq h g) [
          | inl same ↦ subst (λ (k : ℕ). AllPrecede q (M ++ m ∷ []) (Slot k (next' k))) (sym same) later
          | inr other ↦
              let same : next' h ≡ next h = others h other in
              subst (λ (t : ℕ). AllPrecede q (M ++ m ∷ []) (Slot h t)) (sym same)
              (all_push (λ a. Precedes q a (Slot h (next h))) M m (H.before_slots h (omega (arith, same, left_over))) (slots_later h (omega (arith, same, left_over))))
        ];
      }

-- nothing is left
pub all_happened : (q : Proposed) (words : List LogWord) (last : ℕ) (M : List Moment) (left : List LogWord) (next : ℕ → ℕ) → HasHappened q words last M left next
    → left ≡ [] → ((g : ℕ) → slots_by q last g ≤ next g) → IsTimeline q words last M
all_happened q words last M left next H none done = record {
  words_are = sym (append-nil (filter_map word_of M)) ∙ (ap (λ (ws : List LogWord). filter_map word_of M ++ ws) (sym none) ∙ H.words_are);
  slots_are = λ g. let same : next g ≡ slots_by q last g = omega (arith, H.few g, done g) in H.slots_are g ∙ ap (range_with_len 0) same;
  in_order = H.in_order;
}
