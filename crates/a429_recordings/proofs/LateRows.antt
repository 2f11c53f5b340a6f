-- No row of a summary has a lateness above its bound.
use Rattle.std.proofs.Common.{◌≡◌, ◌∙◌, ◌+◌, ◌^◌, ◌<◌, ◌≤◌, ◌⊎◌, ℕ, zero, suc, Bool, true, false, inl, inr, List, [], ◌∷◌, ◌++◌, length, map, take, refl, sym, ap, subst, arith, append-nil, append_assoc}
use Rattle.std.specs.Prelude.{◌==◌, Option, Some, None, Result, Ok, Err, if◌then◌else◌, max, not, slice_get}
use Rattle.std.specs.List.{AllByRecursion, flat_map, fold, list_any, range_with_len}
use Rattle.std.proofs.lemmas.Bool.{eqb-true}
use Rattle.std.proofs.lemmas.List.{take-append-le, take_all}
use Rattle.std.proofs.lemmas.List.Elements.{filter_map-append}
use Rattle.a429_word.proofs.Lists.{same_Ok}
use Rattle.a429_text.specs.Fields.{Number}
use Rattle.a429_equipment.specs.Sound.{IsSound}
use Rattle.a429_equipment.specs.TableRecord.{TableRecord}
use Rattle.a429_table.specs.Reading.{document, judged, read_root, reading, root_of}
use Rattle.a429_table.specs.Faults.{faults, first}
use Rattle.a429_table.specs.Stated.{stated}
use Rattle.a429_table.specs.declared.fault.FaultKind.{FaultKind}
use Rattle.a429_table.specs.declared.fault.TablePlace.{TablePlace}
use Rattle.a429_table.proofs.Soundness.{is_sound}
use Rattle.a429_slots.specs.Times.{latency_us}
use Rattle.a429_slots.specs.Planned.{IsPlanOf}
use Rattle.a429_slots.specs.Proposed.{Proposed}
use Rattle.a429_slots.specs.Spacing.{PlansInForceAreSpaced}
use Rattle.a429_slots.specs.Tables.{groups_of, outputs_of, placed_at}
use Rattle.a429_slots.specs.declared.answers.Answer.{Answer}
use Rattle.a429_slots.specs.declared.answers.Answer.TheVariants.{Accepted, Sent, Changed, Published, Refused}
use Rattle.a429_core.specs.Latency.{OpeningWordsGoOutInTime}
use Rattle.a429_given.proofs.GivenStations.{given_station}
use Rattle.a429_recordings.specs.Simulating.{Step, Asks, Comes, Turns, answer_after, happening_after, happening_by, happenings_after, happenings_of, last_word, listed, source_in, steps_of, times_of}
use Rattle.a429_recordings.specs.Summary.{greatest_in, group_rows, is_first_of, lateness, latenesses, latenesses_from, number_field, send_in, sends_of, summary_row}
use Rattle.a429_recordings.specs.SummaryLaws.{IsWithinBound, WordsAreWithinBounds}
use Rattle.a429_recordings.specs.Timeline.{IsTimeline, rate_of, slots_by, table_of}
use Rattle.a429_recordings.specs.declared.simulate.figures.OutputSend.{OutputSend}
use Rattle.a429_recordings.specs.declared.simulate.log.LogWord.{LogWord}
use Rattle.a429_recordings.specs.declared.simulate.moments.Moment.{Moment}
use Rattle.a429_recordings.proofs.LastAccepted.{at_end, at_front}
use Rattle.a429_recordings.proofs.LateWords.{no_later, own_send, send_of}
use Rattle.a429_recordings.proofs.SimulatedSteps.{happenings_more}

-- ---- lists of steps

fold_most : (x : ℕ) (xs : List ℕ) (most : ℕ) → x ≤ most → AllByRecursion (λ y. y ≤ most) xs → fold max x xs ≤ most
fold_most x [] most few all = few
fold_most x (y ∷ xs) most few (one, all) = fold_most (max x y) xs most (omega (arith, few, one)) all

greatest_most : (xs : List ℕ) (late most : ℕ) → AllByRecursion (λ y. y ≤ most) xs → greatest_in xs ≡ Some late → late ≤ most
greatest_most [] late most all is = absurd (cc is)
greatest_most (x ∷ xs) late most (one, all) is = let few = fold_most x xs most one all in let same : fold max x xs ≡ late = cc is in omega (arith, few, same)

all_both : {X : Type 0} (P : X → Type 0) (xs ys : List X) → AllByRecursion P xs → AllByRecursion P ys → AllByRecursion P (xs ++ ys)
all_both P [] ys all more = more
all_both P (x ∷ xs) ys (one, all) more = (one, all_both P xs ys all more)

all_range : {X : Type 0} (P : X → Type 0) (f : ℕ → X) (a n : ℕ) → ((k : ℕ) → k < a + n → P (f k)) → AllByRecursion P (map f (range_with_len a n))
all_range P f a zero each = tt
all_range P f a (suc n) each = (each a (omega arith), all_range P f (a + 1) n (λ k below. each k (omega (arith, below))))

all_ranges : {X : Type 0} (P : X → Type 0) (f : ℕ → List X) (a n : ℕ) → ((k : ℕ) → k < a + n → AllByRecursion P (f k)) → AllByRecursion P (flat_map f (range_with_len a n))
all_ranges P f a zero each = tt
all_ranges P f a (suc n) each = all_both P (f a) (flat_map f (range_with_len (a + 1) n)) (each a (omega arith)) (all_ranges P f (a + 1) n (λ k below. each k (omega (arith, below))))

-- ---- one step

module _ (q : Proposed) (g source : ℕ) where
  -- a group sends a word of the source in a step
  record SendsOne (times : ℕ → List ℕ) (s : Step) (a : Answer) : Type 0 where
    pub t : ℕ
    pub bus : ℕ
    pub slot : ℕ
    pub raw : ℕ
    pub asks : s ≡ Asks g t
    pub answered : a ≡ Sent bus slot (Some raw)
    pub from : source_in q g bus slot ≡ source

  abbrev sends_in : (ℕ → List ℕ) → Step → Answer → List OutputSend
  sends_in times s a = sends_of g source (listed (happening_by q times s a))

  sends_by : (times : ℕ → List ℕ) (s : Step) (a : Answer) → (sends_in times s a ≡ []) ⊎ SendsOne times s a
  sends_by times (Comes w) (Accepted i) = inl refl
  sends_by times (Comes w) (Sent bus slot word) = inl refl
  sends_by times (Comes w) (Changed plan) = inl refl
  sends_by times (Comes w) (Published plan) = inl refl
  sends_by times (Comes w) (Refused why) = inl refl
  sends_by times (Turns h) a = inl refl
  sends_by times (Asks h t) (Accepted i) = inl refl
  sends_by times (Asks h t) (Sent bus slot None) = inl refl
  sends_by times (Asks h t) (Changed plan) = inl refl
  sends_by times (Asks h t) (Published plan) = inl refl
  sends_by times (Asks h t) (Refused why) = inl refl
  sends_by times (Asks h t) (Sent bus slot (Some raw)) = by (h == g) refl (source_in q h bus slot == source) refl
    where
      by : (own : Bool) → (h == g) ≡ own → (same : Bool) → (source_in q h bus slot == source) ≡ same → (sends_in times (Asks h t) (Sent bus slot (Some raw)) ≡ []) ⊎ SendsOne times (Asks h t) (Sent bus slot (Some raw))
      by false other same from = inl (rw other refl)
      by true own false apart = inl (rw (own, apart) refl)
      by true own true from =
          let group : h ≡ g = eqb-true h g own in
          inr (record {
            t = t;
            bus = bus;
            slot = slot;
            raw = raw;
            asks = ap (λ (k : ℕ). Asks k t) group;
            answered = refl;
            from = ap (λ (k : ℕ). source_in q k bus slot) (sym group) ∙ eqb-true (source_in q h bus slot) source from;
          })

-- ---- all steps

-- a send that is the first of its word has no greater lateness
abbrev IsLateWithin : ℕ → ℕ → List OutputSend → OutputSend → Type 0
IsLateWithin rate most earlier e = is_first_of earlier e ≡ true → lateness rate e ≤ most

none_more : (rate most : ℕ) (earlier one later : List OutputSend) → one ≡ [] → AllByRecursion (λ l. l ≤ most) (latenesses_from rate (earlier ++ one) later) → AllByRecursion (λ l. l ≤ most) (latenesses_from rate earlier (one ++ later))
none_more rate most earlier one later none all =
    subst (λ (l : List OutputSend). AllByRecursion (λ m. m ≤ most) (latenesses_from rate earlier (l ++ later))) (sym none)
    (subst (λ (l : List OutputSend). AllByRecursion (λ m. m ≤ most) (latenesses_from rate l later)) (ap (λ (l : List OutputSend). earlier ++ l) none ∙ append-nil earlier) all)

one_more : (rate most : ℕ) (earlier one later : List OutputSend) (e : OutputSend) → one ≡ e ∷ [] → IsLateWithin rate most earlier e → AllByRecursion (λ l. l ≤ most) (latenesses_from rate (earlier ++ one) later)
    → AllByRecursion (λ l. l ≤ most) (latenesses_from rate earlier (one ++ later))
one_more rate most earlier one later e is few all =
    subst (λ (l : List OutputSend). AllByRecursion (λ m. m ≤ most) (latenesses_from rate earlier (l ++ later))) (sym is)
    (all_both (λ m. m ≤ most) (if is_first_of earlier e then lateness rate e ∷ [] else []) (latenesses_from rate (earlier ++ e ∷ []) later) (by (is_first_of earlier e) refl)
    (subst (λ (l : List OutputSend). AllByRecursion (λ m. m ≤ most) (latenesses_from rate (earlier ++ l) later)) is all))
  where
    by : (new : Bool) → is_first_of earlier e ≡ new → AllByRecursion (λ m. m ≤ most) (if new then lateness rate e ∷ [] else [])
    by true first' = (few first', tt)
    by false again = tt

module _ (q : Proposed) (sound : IsSound q.station) (planned : IsPlanOf q.station q.plan) (force : PlansInForceAreSpaced) (out : OpeningWordsGoOutInTime) (words : List LogWord) (last : ℕ) (M : List Moment) (timeline : IsTimeline q words last M)
    (g : ℕ) (below : g < length (groups_of q.plan)) (n : ℕ) (within : n < length (outputs_of (table_of q g))) where
  abbrev source : ℕ
  source = (placed_at (table_of q g) n).source

  abbrev most : ℕ
  most = latency_us (rate_of q g) (2 ^ (placed_at (table_of q g) n).place.period)

  abbrev sent : List Step → List OutputSend
  sent past = sends_of g source (happenings_of q past)

  abbrev next : List Step → Step → List OutputSend
  next past s = sends_of g source (listed (happening_after q past s))

  -- of one step
  step_within : (past rest : List Step) (s : Step) → past ++ s ∷ rest ≡ steps_of q M → (S : SendsOne q g source (times_of q past) s (answer_after q past s))
      → IsLateWithin (rate_of q g) most (sent past) (send_of S.t (last_word (times_of q past source)))
  step_within past rest s whole S first' =
      let k = length past in
      let front : take k (steps_of q M) ≡ past = ap (take k) (sym whole) ∙ (take-append-le k past (s ∷ rest) (omega arith) ∙ take_all k past (omega arith)) in
      let there : slice_get (steps_of q M) k ≡ Some (Asks g S.t) =
      ap (λ (xs : List Step). slice_get xs k) (sym whole ∙ sym (append_assoc past (s ∷ []) rest)) ∙ (at_front (past ++ s ∷ []) rest k s (at_end past s) ∙ ap (λ (x : Step). Some x) S.asks) in
      let answered : answer_after q past (Asks g S.t) ≡ Sent S.bus S.slot (Some S.raw) = ap (answer_after q past) (sym S.asks) ∙ S.answered in
      let unsent = not_true (list_any (λ (d : OutputSend). d.word == length (times_of q past source)) (sent past)) first' in
      subst (λ (xs : List Step). lateness (rate_of q g) (send_of S.t (last_word (times_of q xs source))) ≤ most) front
      (no_later q sound planned force out g below M n within (slots_by q last g) (timeline.slots_are g) timeline.in_order k S.t S.bus S.slot S.raw there
      (ap (λ (xs : List Step). answer_after q xs (Asks g S.t)) front ∙ answered) S.from
      (subst (λ (xs : List Step). list_any (λ (d : OutputSend). d.word == length (times_of q xs source)) (sent xs) ≡ false) (sym front) unsent))
    where
      not_true : (b : Bool) → not b ≡ true → b ≡ false
      not_true true is = absurd (cc is)
      not_true false is = refl

  all_within : (past rest : List Step) → past ++ rest ≡ steps_of q M → AllByRecursion (λ l. l ≤ most) (latenesses_from (rate_of q g) (sent past) (sends_of g source (happenings_after q past rest)))
  all_within past [] whole = tt
  all_within past (s ∷ rest) whole =
      let one = next past s in
      let later = sends_of g source (happenings_after q (past ++ s ∷ []) rest) in
      let split : sends_of g source (happenings_after q past (s ∷ rest)) ≡ one ++ later = filter_map-append (send_in g source) (listed (happening_after q past s)) (happenings_after q (past ++ s ∷ []) rest) in
      let grown : sent (past ++ s ∷ []) ≡ sent past ++ one = ap (sends_of g source) (happenings_more q past s) ∙ filter_map-append (send_in g source) (happenings_of q past) (listed (happening_after q past s)) in
      let all = subst (λ (l : List OutputSend). AllByRecursion (λ m. m ≤ most) (latenesses_from (rate_of q g) l later)) grown (all_within (past ++ s ∷ []) rest (append_assoc past (s ∷ []) rest ∙ whole)) in
      subst (λ (l : List OutputSend). AllByRecursion (λ m. m ≤ most) (latenesses_from (rate_of q g) (sent past) l)) (sym split)
      (elim (sends_by q g source (times_of q past) s (answer_after q past s)) [
        | inl none ↦ none_more (rate_of q g) most (sent past) one later none all
        | inr S ↦
            let is : one ≡ send_of S.t (last_word (times_of q past source)) ∷ [] =
            ap (λ (x : Step). sends_of g source (listed (happening_by q (times_of q past) x (answer_after q past s)))) S.asks
            ∙ own_send q g source (times_of q past) S.t S.bus S.slot S.raw (answer_after q past s) S.answered S.from in
            one_more (rate_of q g) most (sent past) one later (send_of S.t (last_word (times_of q past source))) is (step_within past rest s whole S) all
      ])

  -- of a row
  row_within : IsWithinBound (summary_row q (happenings_of q (steps_of q M)) g n)
  row_within late is = (most, refl, greatest_most (latenesses (rate_of q g) (sent (steps_of q M))) late most (all_within [] (steps_of q M) refl) (by (greatest_in (latenesses (rate_of q g) (sent (steps_of q M)))) is))
    where
      by : (x : Option ℕ) → Some (number_field x) ≡ Some (Number late) → x ≡ Some late
      by None is = absurd (cc is)
      by (Some m) is = let same : m ≡ late = cc is in ap (λ (k : ℕ). Some k) same

-- ---- the result

sound_by : (bytes : List ℕ) (t : TableRecord) → reading bytes ≡ Ok t → IsSound t
unfolding reading
sound_by bytes t is = by_root (root_of (document bytes)) is
  where
    by_faults : (root : _) (found : List (FaultKind × TablePlace)) → faults root ≡ found → judged root found ≡ Ok t → IsSound t
    by_faults root [] none is = subst IsSound (same_Ok (stated root) t is) (is_sound root (ap first none))
    by_faults root (fault ∷ later) some is = absurd (cc is)

    by_root : (x : Result _ (FaultKind × TablePlace)) → read_root x ≡ Ok t → IsSound t
    by_root (Err fault) is = absurd (cc is)
    by_root (Ok root) is = by_faults root (faults root) refl is

pub words_within : PlansInForceAreSpaced → OpeningWordsGoOutInTime → WordsAreWithinBounds
words_within force out table q words last M proposed timeline =
    let given = given_station table.plan table.table q proposed in
    let sound = sound_by table.table q.station given.0 in
    all_ranges IsWithinBound (group_rows q (happenings_of q (steps_of q M))) 0 (length (groups_of q.plan)) (λ g below. all_range IsWithinBound (summary_row q (happenings_of q (steps_of q M)) g) 0 (length (outputs_of (table_of q g)))
    (λ n within. row_within q sound given.1 force out words last M timeline g (omega (arith, below)) n (omega (arith, within))))
