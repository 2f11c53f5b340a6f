-- What a receiver accepted, word by word, and the words that a source has accepted when these came.
use Rattle.std.proofs.Common.{◌≡◌, ℕ, suc, ◌+◌, ◌-◌, ◌^◌, ◌<◌, ◌≤◌, Bool, true, false, List, [], ◌∷◌, ◌++◌, length, take, drop, map, ◌∙◌, sym, ap, subst, refl, inl, inr, arith, append-nil, append_assoc}
use Rattle.std.specs.Prelude.{Option, Some, None, Result, Ok, Err, ◌==◌, ◌&&◌, if◌then◌else◌, cond, filter, filter_map, slice_get}
use Rattle.std.specs.Option.{option_map_or}
use Rattle.std.proofs.lemmas.List.{take_all, length-append, length-map, map-append, take-append-drop}
use Rattle.std.proofs.lemmas.Option.{same_Some}
use Rattle.std.proofs.lemmas.Bool.{cases_lt, cases_eq, lt-ltb, le-ltb, eq-eqb, ne_eqb}
use Rattle.a429_word.specs.Bits.{has_odd_parity}
use Rattle.a429_equipment.specs.declared.rows.SourceRow.{SourceRow}
use Rattle.a429_equipment.specs.declared.arrivals.ArrivalRefusal.{ArrivalRefusal}
use Rattle.a429_equipment.specs.TableRecord.{TableRecord}
use Rattle.a429_equipment.specs.Arrivals.{accepts, passes_at, is_for, sorted}
use Rattle.a429_equipment.specs.Agreement.{words_of}
use Rattle.a429_equipment.specs.Receiving.{with_word, accepted_after, IsReceived, ReceiversAcceptForSources, ReceiversAcceptInPieces}
use Rattle.a429_slots.specs.Events.{Event, Arrive, Cell, Frame, Publish}
use Rattle.a429_slots.specs.History.{Opening, arrival_of, accepted_in, accepted_by}
use Rattle.a429_workers.proofs.Lists.{same_front, same_back}
use Rattle.a429_slots.proofs.Histories.{take_following}

-- ---- a list that a receiver accepted

-- a list went on by at most n words
record GoesOn (A B : List (ℕ × ℕ)) (n : ℕ) : Type 0 where
  pub more : List (ℕ × ℕ)
  pub is : B ≡ A ++ more
  pub few : length more ≤ n

abbrev words_in : List (ℕ × ℕ) → List ℕ
words_in A = map (λ e. e.1) A

module _ (limit : ℕ) (t : TableRecord) (r : ℕ) where
  one_word : (A : List (ℕ × ℕ)) (raw : ℕ) (x : Result ℕ ArrivalRefusal) → GoesOn A (with_word limit A raw x) 1
  one_word A raw (Err refusal) = record { more = []; is = sym (append-nil A); few = omega arith }
  one_word A raw (Ok s) = elim (cases_lt (length (words_of s A)) limit) [
    | inl lt ↦ record { more = (s, raw) ∷ []; is = rw (lt-ltb (length (words_of s A)) limit lt) refl; few = omega arith }
    | inr ge ↦ record { more = []; is = rw (le-ltb (length (words_of s A)) limit ge) (sym (append-nil A)); few = omega arith }
  ]

  many_words : (raws : List ℕ) (A : List (ℕ × ℕ)) → GoesOn A (accepted_after limit t r A raws) (length raws)
  many_words [] A = record { more = []; is = sym (append-nil A); few = omega arith }
  many_words (raw ∷ raws) A =
      let one = one_word A raw (sorted t r raw) in
      let rest = many_words raws (with_word limit A raw (sorted t r raw)) in
      record {
        more = one.more ++ rest.more;
        is = rest.is ∙ (ap (λ (B : List (ℕ × ℕ)). B ++ rest.more) one.is ∙ append_assoc A one.more rest.more);
        few = omega (arith, length-append one.more rest.more, one.few, rest.few);
      }

  -- each beginning of an accepted list is accepted
  pub beginning : ReceiversAcceptInPieces t → (A : List (ℕ × ℕ)) → IsReceived limit t r A → (k : ℕ) → IsReceived limit t r (take k A)
  beginning pieces A whole k =
      let ws = words_in (take k A) in
      let vs = words_in (drop k A) in
      let B = accepted_after limit t r [] ws in
      let first = many_words ws [] in
      let rest = many_words vs B in
      let words : words_in A ≡ ws ++ vs = ap words_in (sym (take-append-drop k A)) ∙ map-append (λ (e : ℕ × ℕ). e.1) (take k A) (drop k A) in
      let parts : B ++ rest.more ≡ take k A ++ drop k A =
      sym rest.is ∙ (sym (pieces limit r [] ws vs) ∙ (ap (accepted_after limit t r []) (sym words) ∙ (whole ∙ sym (take-append-drop k A)))) in
      let long : length B + length rest.more ≡ length (take k A) + length (drop k A) =
      sym (length-append B rest.more) ∙ (ap (λ (l : List (ℕ × ℕ)). length l) parts ∙ length-append (take k A) (drop k A)) in
      let len : length B ≡ length (take k A) = omega (arith, long, first.few, rest.few, ap (λ (l : List (ℕ × ℕ)). length l) first.is, length-map (take k A) (λ (e : ℕ × ℕ). e.1), length-map (drop k A) (λ (e : ℕ × ℕ). e.1)) in
      same_front B rest.more (take k A) (drop k A) parts len

  -- the word is for its source, which has accepted fewer than the limit
  pub record IsNext (A : List (ℕ × ℕ)) (e : ℕ × ℕ) : Type 0 where
    pub source : sorted t r e.1 ≡ Ok e.0
    pub room : length (words_of e.0 A) < limit

  longer : (A : List (ℕ × ℕ)) (e : ℕ × ℕ) → A ≡ A ++ e ∷ [] → ⊥
  longer A e h = omega (arith, ap (λ (l : List (ℕ × ℕ)). length l) h, length-append A (e ∷ []))

  was_added : (A : List (ℕ × ℕ)) (e : ℕ × ℕ) (x : Result ℕ ArrivalRefusal) → sorted t r e.1 ≡ x → with_word limit A e.1 x ≡ A ++ e ∷ [] → IsNext A e
  was_added A e (Err refusal) is h = absurd (longer A e h)
  was_added A e (Ok s) is h = elim (cases_lt (length (words_of s A)) limit) [
    | inl lt ↦
        let added : A ++ (s, e.1) ∷ [] ≡ A ++ e ∷ [] = sym (rw (lt-ltb (length (words_of s A)) limit lt) refl) ∙ h in
        let same : (s, e.1) ≡ e = same_Some (s, e.1) e (ap (λ (l : List (ℕ × ℕ)). slice_get l 0) (same_back A ((s, e.1) ∷ []) (e ∷ []) added)) in
        let source : s ≡ e.0 = ap (λ (x : ℕ × ℕ). x.0) same in
        record { source = is ∙ ap (λ (i : ℕ). Ok i) source; room = subst (λ (i : ℕ). length (words_of i A) < limit) source lt }
    | inr ge ↦ absurd (longer A e (sym (rw (le-ltb (length (words_of s A)) limit ge) refl) ∙ h))
  ]

  pub next_word : ReceiversAcceptInPieces t → (A : List (ℕ × ℕ)) → IsReceived limit t r A → (k : ℕ) (e : ℕ × ℕ) → slice_get A k ≡ Some e → IsNext (take k A) e
  next_word pieces A whole k e there =
      let more : take (suc k) A ≡ take k A ++ e ∷ [] = take_following A k e there in
      let words : words_in (take k A ++ e ∷ []) ≡ words_in (take k A) ++ e.1 ∷ [] = map-append (λ (e : ℕ × ℕ). e.1) (take k A) (e ∷ []) in
      let grown : accepted_after limit t r [] (words_in (take k A ++ e ∷ [])) ≡ take k A ++ e ∷ [] = subst (IsReceived limit t r) more (beginning pieces A whole (suc k)) in
      was_added (take k A) e (sorted t r e.1) refl
      (ap (λ (B : List (ℕ × ℕ)). with_word limit B e.1 (sorted t r e.1)) (sym (beginning pieces A whole k))
      ∙ (sym (pieces limit r [] (words_in (take k A)) (e.1 ∷ [])) ∙ (ap (accepted_after limit t r []) (sym words) ∙ grown)))

-- ---- the arrivals at one receiver

-- the word that came to receiver r
abbrev pub word_at : ℕ → Event → Option ℕ
word_at r (Arrive k raw) = if k == r then Some raw else None
word_at r (Cell g) = None
word_at r (Frame g) = None
word_at r (Publish q) = None

abbrev pub words_at : ℕ → List Event → List ℕ
words_at r E = filter_map (word_at r) E

-- a source takes only words of its receiver
elsewhere : (t : TableRecord) (s : SourceRow) (k raw : ℕ) → (k ≡ s.receiver → ⊥) → accepts t s (k, raw) ≡ false
elsewhere t s k raw other = by (has_odd_parity raw) (passes_at t k raw)
  where
    unheard : is_for k raw s ≡ false
    unheard = rw (ne_eqb s.receiver k (λ e. other (sym e))) refl

    by : (a b : Bool) → (a && (b && is_for k raw s)) ≡ false
    by true true = unheard
    by true false = refl
    by false b = refl

pub own_words : (t : TableRecord) (s : SourceRow) (E : List Event) → filter (accepts t s) (filter_map arrival_of E) ≡ filter (accepts t s) (map (λ raw. (s.receiver, raw)) (words_at s.receiver E))
own_words t s [] = refl
own_words t s (Cell g ∷ E) = own_words t s E
own_words t s (Frame g ∷ E) = own_words t s E
own_words t s (Publish q ∷ E) = own_words t s E
own_words t s (Arrive k raw ∷ E) =
    let came = λ (a : ℕ × ℕ) (xs : List (ℕ × ℕ)). cond (accepts t s a) (a ∷ xs) xs in
    elim (cases_eq k s.receiver) [
      | inl here ↦ rw (eq-eqb k s.receiver here) (ap (λ (xs : List (ℕ × ℕ)). came (k, raw) xs) (own_words t s E) ∙ ap (λ (r : ℕ). came (r, raw) (filter (accepts t s) (map (λ w. (s.receiver, w)) (words_at s.receiver E)))) here)
      | inr other ↦ rw (ne_eqb k s.receiver other, elsewhere t s k raw other) (own_words t s E)
    ]

module _ (C : ℕ) (o : Opening) (words : ReceiversAcceptForSources o.proposal.station) where
  -- a source has accepted what its receiver accepted for it
  pub accepted_of : (i : ℕ) (s : SourceRow) (E : List Event) (A : List (ℕ × ℕ)) → slice_get o.proposal.station.sources i ≡ Some s → IsReceived (2 ^ C - 1) o.proposal.station s.receiver A
      → words_at s.receiver E ≡ words_in A → accepted_by C o i E ≡ words_of i A
  accepted_of i s E A there whole came =
      let t = o.proposal.station in
      let r = s.receiver in
      ap (λ (x : Option SourceRow). option_map_or (λ s. accepted_in C o s E) x []) there
      ∙ (ap (λ (xs : List (ℕ × ℕ)). take (2 ^ C - 1) (map (λ a. a.1) xs)) (own_words t s E)
      ∙ (sym (words C r i s (words_at r E) there) ∙ ap (words_of i) (ap (accepted_after (2 ^ C - 1) t r []) came ∙ whole)))

  -- a source of another receiver accepts none of these
  pub none_of_others : (i r : ℕ) (s : SourceRow) (A : List (ℕ × ℕ)) → slice_get o.proposal.station.sources i ≡ Some s → IsReceived (2 ^ C - 1) o.proposal.station r A → (r ≡ s.receiver → ⊥) → words_of i A ≡ []
  none_of_others i r s A there whole other =
      let t = o.proposal.station in
      ap (words_of i) (sym whole) ∙ (words C r i s (words_in A) there ∙ ap (λ (xs : List (ℕ × ℕ)). take (2 ^ C - 1) (map (λ a. a.1) xs)) (none (words_in A)) ∙ take_all (2 ^ C - 1) [] (omega arith))
    where
      none : (raws : List ℕ) → filter (accepts o.proposal.station s) (map (λ raw. (r, raw)) raws) ≡ []
      none [] = refl
      none (raw ∷ raws) = rw (elsewhere o.proposal.station s r raw other) (none raws)
