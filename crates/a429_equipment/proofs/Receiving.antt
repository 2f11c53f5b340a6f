-- What a receiver accepts is, source by source, what the sources accept.
use Rattle.std.proofs.Common.{◌≡◌, ℕ, ◌-◌, ◌^◌, ◌<◌, Bool, true, false, List, [], ◌∷◌, ◌++◌, length, take, map, refl, sym, ap, ◌∙◌, subst, arith, inl, inr, append-nil, append_assoc, eq-eqb, ne_eqb}
use Rattle.std.specs.Prelude.{Option, Some, None, Result, Ok, Err, filter, position, slice_get, nat_lt, if◌then◌else◌, ◌&&◌}
use Rattle.std.specs.Option.{option_map_or}
use Rattle.std.specs.List.{position_or_len}
use Rattle.std.proofs.lemmas.List.{take_all}
use Rattle.std.proofs.lemmas.List.Quantifiers.{position-Some}
use Rattle.std.proofs.lemmas.Bool.{cases_Bool, cases_eq, cases_lt, lt-ltb, le-ltb, ltb-true, and_from}
use Rattle.std.proofs.lemmas.Option.{same_Some, cond_some, slice_get_cases, get_or_from_slice_get}
use Rattle.a429_word.proofs.Lists.{and_false, none_passes, take_push_full, take_push_room}
use Rattle.a429_word.specs.Bits.{has_odd_parity}
use Rattle.a429_equipment.specs.declared.rows.SourceRow.{SourceRow}
use Rattle.a429_equipment.specs.declared.arrivals.ArrivalRefusal.{ArrivalRefusal}
use Rattle.a429_equipment.specs.declared.arrivals.ArrivalRefusal.TheVariants.{Parity, Filtered, NoSource}
use Rattle.a429_equipment.specs.TableRecord.{TableRecord}
use Rattle.a429_equipment.specs.Arrivals.{AcceptApart, passes_at, is_for, sorted, accepts}
use Rattle.a429_equipment.specs.Agreement.{words_of}
use Rattle.a429_equipment.specs.Receiving.{with_word, accepted_after, IsAccepted, ReceiversAcceptForSources, ReceiversAcceptInPieces}
use Rattle.a429_equipment.proofs.Cutting.{words_append}

-- ---- the source that a word is for

first_passes : {X : Type 0} (p : X → Bool) (xs : List X) (i : ℕ) → position p xs ≡ Some i → (x : X) × (slice_get xs i ≡ Some x) × (p x ≡ true)
first_passes p xs i e = elim (slice_get_cases xs i).1 [
  | inl hit ↦ (hit.0, hit.2, subst (λ (y : _). p y ≡ true) (get_or_from_slice_get xs i hit.0 hit.0 hit.2) (position-Some p xs i hit.0 e).1)
  | inr miss ↦
      let found = cond_some (nat_lt (position_or_len p xs) (length xs)) (position_or_len p xs) i e in
      let low = ltb-true (position_or_len p xs) (length xs) found.0 in
      absurd (omega (arith, found.1, miss.0))
]

-- a source accepts the word if and only if it is the one that the word is for
Sorts : TableRecord → ℕ → ℕ → Result ℕ ArrivalRefusal → Type 0
Sorts t r raw (Ok j) = (s : SourceRow) × (slice_get t.sources j ≡ Some s) × (accepts t s (r, raw) ≡ true)
Sorts t r raw (Err refusal) = (i : ℕ) (s : SourceRow) → slice_get t.sources i ≡ Some s → accepts t s (r, raw) ≡ false

by_position : (t : TableRecord) (r raw : ℕ) → has_odd_parity raw ≡ true → passes_at t r raw ≡ true → (o : Option ℕ) → position (is_for r raw) t.sources ≡ o → Sorts t r raw (option_map_or (λ i. Ok i) o (Err NoSource))
unfolding Sorts
by_position t r raw odd passes None h =
    λ i s there. and_false (has_odd_parity raw) (passes_at t r raw && is_for r raw s) (and_false (passes_at t r raw) (is_for r raw s) (none_passes (is_for r raw) t.sources h i s there))
by_position t r raw odd passes (Some j) h =
    let found = first_passes (is_for r raw) t.sources j h in
    (found.0, found.1, and_from (has_odd_parity raw) (passes_at t r raw && is_for r raw found.0) odd (and_from (passes_at t r raw) (is_for r raw found.0) passes found.2))

filtered : (t : TableRecord) (r raw : ℕ) → passes_at t r raw ≡ false → Sorts t r raw (Err Filtered)
unfolding Sorts
filtered t r raw blocked = λ i s there. and_false (has_odd_parity raw) (passes_at t r raw && is_for r raw s) (rw blocked refl)

uneven : (t : TableRecord) (r raw : ℕ) → has_odd_parity raw ≡ false → Sorts t r raw (Err Parity)
unfolding Sorts
uneven t r raw even = λ i s there. rw even refl

sorts : (t : TableRecord) (r raw : ℕ) → Sorts t r raw (sorted t r raw)
sorts t r raw = elim (cases_Bool (has_odd_parity raw)) [
  | inl odd ↦ elim (cases_Bool (passes_at t r raw)) [
    | inl passes ↦
        let o = position (is_for r raw) t.sources in
        let is : sorted t r raw ≡ option_map_or (λ i. Ok i) o (Err NoSource) = rw (odd, passes) refl in
        subst (λ (x : Result ℕ ArrivalRefusal). Sorts t r raw x) (sym is) (by_position t r raw odd passes o refl)
    | inr blocked ↦
        let is : sorted t r raw ≡ Err Filtered = rw (odd, blocked) refl in
        subst (λ (x : Result ℕ ArrivalRefusal). Sorts t r raw x) (sym is) (filtered t r raw blocked)
  ]
  | inr even ↦
      let is : sorted t r raw ≡ Err Parity = rw even refl in
      subst (λ (x : Result ℕ ArrivalRefusal). Sorts t r raw x) (sym is) (uneven t r raw even)
]

pub is_accepted : (t : TableRecord) (r raw i : ℕ) → raw < 2 ^ 32 → sorted t r raw ≡ Ok i → IsAccepted t r (i, raw)
unfolding Sorts
is_accepted t r raw i range h =
    let found = subst (λ (x : Result ℕ ArrivalRefusal). Sorts t r raw x) h (sorts t r raw) in
    record { row = found.0; there = found.1; accepts = found.2; range = range }

-- ---- the words of one source

pub words_same : (s w : ℕ) (A : List (ℕ × ℕ)) → words_of s (A ++ (s, w) ∷ []) ≡ words_of s A ++ w ∷ []
words_same s w A = words_append s A ((s, w) ∷ []) ∙ ap (λ (ws : List ℕ). words_of s A ++ ws) (rw (eq-eqb s s refl) refl)

pub words_other : (s x w : ℕ) (A : List (ℕ × ℕ)) → (x ≡ s → ⊥) → words_of s (A ++ (x, w) ∷ []) ≡ words_of s A
words_other s x w A ne = words_append s A ((x, w) ∷ []) ∙ ap (λ (ws : List ℕ). words_of s A ++ ws) (rw (ne_eqb x s ne) refl) ∙ append-nil (words_of s A)

-- what the source accepts of one word
came : TableRecord → SourceRow → ℕ → ℕ → List ℕ
came t s r raw = if accepts t s (r, raw) then raw ∷ [] else []

module _ (t : TableRecord) (apart : AcceptApart t) (limit r i : ℕ) (s : SourceRow) (there : slice_get t.sources i ≡ Some s) where
  own : (A : List (ℕ × ℕ)) (ws : List ℕ) (raw : ℕ) → accepts t s (r, raw) ≡ true → words_of i A ≡ take limit ws → words_of i (with_word limit A raw (Ok i)) ≡ take limit (ws ++ came t s r raw)
  unfolding came
  own A ws raw mine so_far =
      let n = length (words_of i A) in
      let as_many : n ≡ length (take limit ws) = ap (λ (l : List ℕ). length l) so_far in
      elim (cases_lt n limit) [
        | inl lt ↦ rw (mine, lt-ltb n limit lt) (words_same i raw A ∙ ap (λ (l : List ℕ). l ++ raw ∷ []) so_far ∙ sym (take_push_room limit ws raw (omega (arith, as_many))))
        | inr ge ↦ rw (mine, le-ltb n limit ge) (so_far ∙ sym (take_push_full limit ws raw (omega (arith, as_many))))
      ]

  none : (A : List (ℕ × ℕ)) (ws : List ℕ) (raw : ℕ) → accepts t s (r, raw) ≡ false → words_of i A ≡ take limit ws → words_of i A ≡ take limit (ws ++ came t s r raw)
  unfolding came
  none A ws raw mine so_far = rw mine (so_far ∙ ap (take limit) (sym (append-nil ws)))

  other : (A : List (ℕ × ℕ)) (raw j : ℕ) → (j ≡ i → ⊥) → words_of i (with_word limit A raw (Ok j)) ≡ words_of i A
  other A raw j ne = go (nat_lt (length (words_of j A)) limit)
    where
      go : (b : Bool) → words_of i (if b then A ++ (j, raw) ∷ [] else A) ≡ words_of i A
      go true = words_other i j raw A ne
      go false = refl

  -- the word that the source accepts is for no other
  one_word : (A : List (ℕ × ℕ)) (ws : List ℕ) (raw : ℕ) (x : Result ℕ ArrivalRefusal) → Sorts t r raw x → words_of i A ≡ take limit ws → words_of i (with_word limit A raw x) ≡ take limit (ws ++ came t s r raw)
  unfolding Sorts
  one_word A ws raw (Err refusal) h so_far = none A ws raw (h i s there) so_far
  one_word A ws raw (Ok j) h so_far = elim (cases_eq j i) [
    | inl same ↦
        let row : h.0 ≡ s = same_Some h.0 s (sym h.1 ∙ ap (slice_get t.sources) same ∙ there) in
        subst (λ (k : ℕ). words_of i (with_word limit A raw (Ok k)) ≡ take limit (ws ++ came t s r raw)) (sym same)
        (own A ws raw (subst (λ (x : SourceRow). accepts t x (r, raw) ≡ true) row h.2) so_far)
    | inr differs ↦ other A raw j differs ∙ none A ws raw (elim (cases_Bool (accepts t s (r, raw))) [
      | inl mine ↦ absurd (differs (apart (r, raw) j i h.0 s h.1 there h.2 mine))
      | inr not_mine ↦ not_mine
    ]) so_far
  ]

  all_came : List ℕ → List ℕ
  all_came raws = map (λ a. a.1) (filter (accepts t s) (map (λ raw. (r, raw)) raws))

  came_first : (ws : List ℕ) (raw : ℕ) (raws : List ℕ) → (ws ++ came t s r raw) ++ all_came raws ≡ ws ++ all_came (raw ∷ raws)
  unfolding came all_came
  came_first ws raw raws = elim (cases_Bool (accepts t s (r, raw))) [
    | inl mine ↦ rw mine (append_assoc ws (raw ∷ []) (all_came raws))
    | inr not_mine ↦ rw not_mine (ap (λ (l : List ℕ). l ++ all_came raws) (append-nil ws))
  ]

  pub words_after : (raws : List ℕ) (A : List (ℕ × ℕ)) (ws : List ℕ) → words_of i A ≡ take limit ws → words_of i (accepted_after limit t r A raws) ≡ take limit (ws ++ map (λ a. a.1) (filter (accepts t s) (map (λ raw. (r, raw)) raws)))
  unfolding all_came
  words_after [] A ws so_far = so_far ∙ ap (take limit) (sym (append-nil ws))
  words_after (raw ∷ raws) A ws so_far =
      words_after raws (with_word limit A raw (sorted t r raw)) (ws ++ came t s r raw) (one_word A ws raw (sorted t r raw) (sorts t r raw) so_far) ∙ ap (take limit) (came_first ws raw raws)

pub of_source : (t : TableRecord) → AcceptApart t → ReceiversAcceptForSources t
of_source t apart C r i s raws there = words_after t apart (2 ^ C - 1) r i s there raws [] [] (sym (take_all (2 ^ C - 1) [] (omega arith)))

pub in_pieces : (t : TableRecord) → ReceiversAcceptInPieces t
in_pieces t limit r A [] more = refl
in_pieces t limit r A (raw ∷ raws) more = in_pieces t limit r (with_word limit A raw (sorted t r raw)) raws more
