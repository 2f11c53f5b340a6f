-- Steps of a simulation, one after another: the words that are accepted, and what happens.
use Rattle.std.proofs.Common.{◌≡◌, ◌∙◌, ◌+◌, ◌-◌, ◌<◌, ◌≤◌, ◌⊎◌, ◌%◌, ◌^◌, ℕ, Bool, true, false, inl, inr, List, [], ◌∷◌, ◌++◌, length, length-append, refl, sym, ap, subst, arith, append-nil, append_assoc, eq-eqb}
use Rattle.std.specs.Prelude.{◌==◌, Option, Some, None, Result, Ok, Err, filter_map, if◌then◌else◌, get_or, min, nat_le, nat_lt, position, slice_get, slice_set}
use Rattle.std.specs.Option.{option_map_or}
use Rattle.std.proofs.lemmas.Bool.{cases_eq, ltb-true, ne_eqb}
use Rattle.std.proofs.lemmas.List.{get_or-set_other, get_or-set_same, length-set, length-take, map-append}
use Rattle.std.proofs.lemmas.List.Elements.{filter_map-append}
use Rattle.std.proofs.lemmas.List.Concat.{flat_map-append}
use Rattle.std.proofs.lemmas.Option.{cond_some, slice_get-get_or}
use Rattle.std.specs.List.{position_or_len}
use Rattle.a429_equipment.specs.Limits.{count_bits}
use Rattle.a429_equipment.specs.Arrivals.{SourcesAreApart, is_for, passes_at, sorted}
use Rattle.a429_equipment.specs.TableRecord.{TableRecord}
use Rattle.a429_equipment.specs.declared.rows.SourceRow.{SourceRow}
use Rattle.a429_equipment.specs.declared.arrivals.ArrivalRefusal.{ArrivalRefusal}
use Rattle.a429_equipment.specs.declared.arrivals.ArrivalRefusal.TheVariants.{Parity, Filtered, NoSource}
use Rattle.a429_word.specs.Bits.{has_odd_parity}
use Rattle.a429_word.proofs.Lists.{same_Ok}
use Rattle.a429_equipment.proofs.Cutting.{last_push}
use Rattle.a429_slots.specs.Events.{Event, Arrive}
use Rattle.a429_slots.specs.Proposed.{Proposed}
use Rattle.a429_slots.specs.Answers.{source_answer}
use Rattle.a429_slots.specs.History.{Opening, accepted_by, accepted_in as accepted_words}
use Rattle.a429_slots.specs.Tables.{SlotTable, frame_of, groups_of}
use Rattle.a429_slots.specs.declared.answers.Answer.{Answer}
use Rattle.a429_slots.specs.declared.answers.Refusal.{Refusal}
use Rattle.a429_slots.specs.declared.answers.Refusal.TheVariants.{CountSpent, NoSuch}
use Rattle.a429_slots.specs.declared.answers.Answer.TheVariants.{Accepted, Sent, Changed, Published, Refused}
use Rattle.a429_slots.proofs.Histories.{by_ends}
use Rattle.a429_core.specs.MachineStates.{GoesOnByEvents, IsWholeEvent, MachineState, StandsForHistory}
use Rattle.a429_core.specs.MachineSteps.{CallsAreAnswered, stepped}
use Rattle.a429_core.proofs.Accepting.{one_by_one}
use Rattle.a429_core.proofs.Words.{words_in}
use Rattle.a429_recordings.specs.Simulating.{Step, Asks, Comes, Turns, accepted_from, accepted_in, answer_after, event_of, happening_after, happening_by, happenings_after, happenings_of, history_of, last_word, listed, opening_of, source_in, steps_in, steps_of, time_for, times_of, turn_after, word_sent}
use Rattle.a429_recordings.specs.Timeline.{table_of}
use Rattle.a429_recordings.specs.SimulationRuns.{StandsAfter, heard_at, noted, unheard}
use Rattle.a429_recordings.specs.declared.simulate.log.LogWord.{LogWord}
use Rattle.a429_recordings.specs.declared.simulate.machine.Happening.{Happening}
use Rattle.a429_recordings.specs.declared.simulate.machine.Happening.TheVariants.{Sends}
use Rattle.a429_recordings.specs.declared.simulate.machine.Heard.{Heard}
use Rattle.a429_recordings.specs.declared.simulate.machine.Run.{Run}
use Rattle.a429_recordings.specs.declared.simulate.moments.Moment.{Moment}

pub history_more : (past : List Step) (s : Step) → history_of (past ++ s ∷ []) ≡ history_of past ++ event_of s ∷ []
history_more past s = map-append event_of past (s ∷ [])

-- ---- the times of the accepted words

accepted-append : (q : Proposed) (past xs ys : List Step) → accepted_from q past (xs ++ ys) ≡ accepted_from q past xs ++ accepted_from q (past ++ xs) ys
accepted-append q past [] ys = ap (λ (p : List Step). accepted_from q p ys) (sym (append-nil past))
accepted-append q past (x ∷ xs) ys =
    let one = accepted_in x (answer_after q past x) in
    ap (λ (t : List (ℕ × ℕ)). one ++ t) (accepted-append q (past ++ x ∷ []) xs ys)
    ∙ (ap (λ (p : List Step). one ++ (accepted_from q (past ++ x ∷ []) xs ++ accepted_from q p ys)) (append_assoc past (x ∷ []) xs)
    ∙ sym (append_assoc one (accepted_from q (past ++ x ∷ []) xs) (accepted_from q (past ++ x ∷ xs) ys)))

more_accepted : (q : Proposed) (past : List Step) (s : Step) → accepted_from q [] (past ++ s ∷ []) ≡ accepted_from q [] past ++ accepted_in s (answer_after q past s)
more_accepted q past s =
    accepted-append q [] past (s ∷ []) ∙ ap (λ (t : List (ℕ × ℕ)). accepted_from q [] past ++ t) (append-nil (accepted_in s (answer_after q past s)))

own_time : (words : List (ℕ × ℕ)) (source time : ℕ) → filter_map (time_for source) (words ++ (source, time) ∷ []) ≡ filter_map (time_for source) words ++ time ∷ []
own_time words source time =
    let own : (source == source) ≡ true = eq-eqb source source refl in
    filter_map-append (time_for source) words ((source, time) ∷ []) ∙ rw own refl

other_time : (words : List (ℕ × ℕ)) (source other time : ℕ) → (other ≡ source → ⊥) → filter_map (time_for source) (words ++ (other, time) ∷ []) ≡ filter_map (time_for source) words
other_time words source other time apart =
    let no : (other == source) ≡ false = ne_eqb other source apart in
    filter_map-append (time_for source) words ((other, time) ∷ []) ∙ rw (no, append-nil (filter_map (time_for source) words)) refl

-- a step in which no word is accepted
pub times_kept : (q : Proposed) (past : List Step) (s : Step) (source : ℕ) → accepted_in s (answer_after q past s) ≡ [] → times_of q (past ++ s ∷ []) source ≡ times_of q past source
unfolding times_of
times_kept q past s source none =
    ap (filter_map (time_for source)) (more_accepted q past s ∙ (ap (λ (t : List (ℕ × ℕ)). accepted_from q [] past ++ t) none ∙ append-nil (accepted_from q [] past)))

-- the step of an accepted word
pub times_own : (q : Proposed) (past : List Step) (w : LogWord) (source : ℕ) → answer_after q past (Comes w) ≡ Accepted source
    → times_of q (past ++ Comes w ∷ []) source ≡ times_of q past source ++ w.time ∷ []
unfolding times_of
times_own q past w source is =
    ap (filter_map (time_for source)) (more_accepted q past (Comes w) ∙ ap (λ (a : Answer). accepted_from q [] past ++ accepted_in (Comes w) a) is)
    ∙ own_time (accepted_from q [] past) source w.time

times_other : (q : Proposed) (past : List Step) (w : LogWord) (source other : ℕ) → answer_after q past (Comes w) ≡ Accepted other → (other ≡ source → ⊥)
    → times_of q (past ++ Comes w ∷ []) source ≡ times_of q past source
unfolding times_of
times_other q past w source other is apart =
    ap (filter_map (time_for source)) (more_accepted q past (Comes w) ∙ ap (λ (a : Answer). accepted_from q [] past ++ accepted_in (Comes w) a) is)
    ∙ other_time (accepted_from q [] past) source other w.time apart

-- a step in which no word of the source is accepted
times_by : (q : Proposed) (past : List Step) (w : LogWord) (source : ℕ) (a : Answer) → a ≡ answer_after q past (Comes w) → (a ≡ Accepted source → ⊥)
    → times_of q (past ++ Comes w ∷ []) source ≡ times_of q past source
times_by q past w source (Accepted other) is none = times_other q past w source other (sym is) (λ e. none (ap Accepted e))
times_by q past w source (Sent bus slot word) is none = times_kept q past (Comes w) source (ap (accepted_in (Comes w)) (sym is))
times_by q past w source (Changed plan) is none = times_kept q past (Comes w) source (ap (accepted_in (Comes w)) (sym is))
times_by q past w source (Published plan) is none = times_kept q past (Comes w) source (ap (accepted_in (Comes w)) (sym is))
times_by q past w source (Refused why) is none = times_kept q past (Comes w) source (ap (accepted_in (Comes w)) (sym is))

pub times_same : (q : Proposed) (past : List Step) (s : Step) (source : ℕ) → (answer_after q past s ≡ Accepted source → ⊥) → times_of q (past ++ s ∷ []) source ≡ times_of q past source
times_same q past (Comes w) source none = times_by q past w source (answer_after q past (Comes w)) refl none
times_same q past (Asks g t) source none = times_kept q past (Asks g t) source refl
times_same q past (Turns g) source none = times_kept q past (Turns g) source refl

-- ---- how many they are

pub times_grow : (q : Proposed) (past : List Step) (s : Step) (source : ℕ) → length (times_of q past source) ≤ length (times_of q (past ++ s ∷ []) source)
unfolding times_of
times_grow q past s source =
    let more = accepted_in s (answer_after q past s) in
    let all = ap (filter_map (time_for source)) (more_accepted q past s) ∙ filter_map-append (time_for source) (accepted_from q [] past) more in
    omega (arith, ap length all, length-append (filter_map (time_for source) (accepted_from q [] past)) (filter_map (time_for source) more))

few_accepted : (C : ℕ) (o : Opening) (i : ℕ) (E : List Event) → length (accepted_by C o i E) ≤ 2 ^ C - 1
few_accepted C o i E = by (slice_get o.proposal.station.sources i)
  where
    by : (x : Option SourceRow) → length (option_map_or (λ s. accepted_words C o s E) x []) ≤ 2 ^ C - 1
    by None = omega arith
    by (Some s) = omega (arith, length-take (2 ^ C - 1) (words_in o s E))

pub none_accepted : (q : Proposed) (i : ℕ) → length (accepted_by count_bits (opening_of q) i []) ≡ 0
none_accepted q i = by (slice_get q.station.sources i)
  where
    by : (x : Option SourceRow) → length (option_map_or (λ s. accepted_words count_bits (opening_of q) s []) x []) ≡ 0
    by None = refl
    by (Some s) = omega (arith, length-take (2 ^ count_bits - 1) (words_in (opening_of q) s []))

abbrev pub CountsWords : Proposed → ℕ → List Step → Type 0
CountsWords q i past = length (times_of q past i) ≡ length (accepted_by count_bits (opening_of q) i (history_of past))

pub count_own : (q : Proposed) (past : List Step) (s : Step) (i : ℕ) → answer_after q past s ≡ Accepted i → ((r raw : ℕ) → event_of s ≡ Arrive r raw → ⊥) ⊎ ((w : LogWord) × (s ≡ Comes w))
count_own q past (Comes w) i is = inr (w, refl)
count_own q past (Asks g t) i is = inl (λ r raw e. cc)
count_own q past (Turns g) i is = inl (λ r raw e. cc)

pub count_more : (q : Proposed) (i : ℕ) → SourcesAreApart q.station.sources → (past : List Step) (s : Step) → CountsWords q i past → CountsWords q i (past ++ s ∷ [])
count_more q i apart past s before =
    let o = opening_of q in
    let E = history_of past in
    let old = accepted_by count_bits o i E in
    let next : accepted_by count_bits o i (history_of (past ++ s ∷ [])) ≡ accepted_by count_bits o i (E ++ event_of s ∷ []) = ap (accepted_by count_bits o i) (history_more past s) in
    elim (one_by_one count_bits o E i (event_of s) apart) [
      | inl W ↦ elim (count_own q past s i W.answered) [
        | inl none ↦ absurd (none W.receiver W.word W.event)
        | inr (w, same) ↦
            let own : times_of q (past ++ s ∷ []) i ≡ times_of q past i ++ w.time ∷ [] =
            subst (λ (x : Step). times_of q (past ++ x ∷ []) i ≡ times_of q past i ++ w.time ∷ []) (sym same) (times_own q past w i (subst (λ (x : Step). answer_after q past x ≡ Accepted i) same W.answered)) in
            omega (arith, ap length own, length-append (times_of q past i) (w.time ∷ []), before, ap length next, ap length W.more, length-append old (W.word ∷ []))
      ]
      | inr N ↦ ap length (times_same q past s i N.other) ∙ (before ∙ sym (ap length (next ∙ N.same)))
    ]

pub none_in_time : (q : Proposed) (i : ℕ) → times_of q [] i ≡ []
unfolding times_of
none_in_time q i = refl

few_times : (q : Proposed) (i : ℕ) → SourcesAreApart q.station.sources → (past : List Step) → length (times_of q past i) ≤ 2 ^ 41 - 1
few_times q i apart past =
    let same = by_ends (CountsWords q i) (ap length (none_in_time q i) ∙ sym (none_accepted q i)) (count_more q i apart) past in
    omega (arith, same, few_accepted count_bits (opening_of q) i (history_of past))

-- ---- the machine

-- a source that accepts a word is one of the station
position_below : (p : SourceRow → Bool) (xs : List SourceRow) (k : ℕ) → position p xs ≡ Some k → k < length xs
position_below p xs k at =
    let both = cond_some (nat_lt (position_or_len p xs) (length xs)) (position_or_len p xs) k at in
    subst (λ (n : ℕ). n < length xs) both.1 (ltb-true (position_or_len p xs) (length xs) both.0)

sorted_within : (t : TableRecord) (r raw i : ℕ) → sorted t r raw ≡ Ok i → i < length t.sources
sorted_within t r raw i is = by (has_odd_parity raw) (passes_at t r raw) (position (is_for r raw) t.sources) refl is
  where
    by : (odd passes : Bool) (o : Option ℕ) → position (is_for r raw) t.sources ≡ o
        → (if odd then (if passes then option_map_or (λ k. Ok k) o (Err NoSource) else Err Filtered) else Err Parity) ≡ Ok i → i < length t.sources
    by true true None at h = absurd (cc h)
    by true true (Some k) at h = subst (λ (n : ℕ). n < length t.sources) (same_Ok k i h) (position_below (is_for r raw) t.sources k at)
    by true false o at h = absurd (cc h)
    by false passes o at h = absurd (cc h)

pub accepted_within : (q : Proposed) (past : List Step) (w : LogWord) (i : ℕ) → answer_after q past (Comes w) ≡ Accepted i → i < length q.station.sources
accepted_within q past w i is = by (nat_le (length q.station.receivers) w.receiver) (sorted q.station w.receiver w.raw) refl is
  where
    kept : (room : Bool) (j : ℕ) → (if room then Accepted j else Refused CountSpent) ≡ Accepted i → j ≡ i
    kept true j h = cc
    kept false j h = absurd (cc h)

    by : (unknown : Bool) (found : Result ℕ ArrivalRefusal) → sorted q.station w.receiver w.raw ≡ found
        → (if unknown then Refused NoSuch else source_answer count_bits (opening_of q) (history_of past) found) ≡ Accepted i → i < length q.station.sources
    by true found at h = absurd (cc h)
    by false (Err why) at h = absurd (cc h)
    by false (Ok j) at h =
        subst (λ (n : ℕ). n < length q.station.sources) (kept (nat_lt (length (accepted_by count_bits (opening_of q) j (history_of past))) (2 ^ count_bits - 1)) j h)
        (sorted_within q.station w.receiver w.raw j at)

-- the last accepted words after one more of a source
word_more : (times : List ℕ) (time : ℕ) → length times ≤ 2 ^ 41 - 1 → ◌≡◌ {A = Heard} (record { word = min (length times + 1) (2 ^ 64 - 1); time = time }) (last_word (times ++ time ∷ []))
word_more times time few =
    let count : min (length times + 1) (2 ^ 64 - 1) ≡ length (times ++ time ∷ []) = omega (arith, length-append times (time ∷ []), few) in
    rw (count, last_push times time) refl

noted_at : (q : Proposed) (past : List Step) (w : LogWord) (source : ℕ) (heard : List Heard) → SourcesAreApart q.station.sources → answer_after q past (Comes w) ≡ Accepted source
    → length heard ≡ length q.station.sources → ((i : ℕ) → heard_at heard i ≡ last_word (times_of q past i))
    → (i : ℕ) → heard_at (noted heard source w.time) i ≡ last_word (times_of q (past ++ Comes w ∷ []) i)
noted_at q past w source heard apart is many before i =
    let within : source < length heard = omega (arith, many, accepted_within q past w source is) in
    let there : slice_get heard source ≡ Some (get_or heard source unheard) = slice_get-get_or heard source unheard within in
    let next : Heard = record { word = min ((heard_at heard source).word + 1) (2 ^ 64 - 1); time = w.time } in
    let after : noted heard source w.time ≡ slice_set heard source next = rw there refl in
    ap (λ (hs : List Heard). heard_at hs i) after ∙ elim (cases_eq i source) [
      | inl same ↦
          subst (λ (k : ℕ). heard_at (slice_set heard source next) k ≡ last_word (times_of q (past ++ Comes w ∷ []) k)) (sym same)
          (get_or-set_same heard source next unheard within
          ∙ (ap (λ (h : Heard). record { word = min (h.word + 1) (2 ^ 64 - 1); time = w.time }) (before source)
          ∙ (word_more (times_of q past source) w.time (few_times q source apart past) ∙ ap last_word (sym (times_own q past w source is)))))
      | inr other ↦ get_or-set_other heard source i next unheard other ∙ (before i ∙ ap last_word (sym (times_other q past w i source is (λ e. other (sym e)))))
    ]

noted_many : (heard : List Heard) (source time : ℕ) → length (noted heard source time) ≡ length heard
noted_many heard source time = by (slice_get heard source)
  where
    by : (x : Option Heard) → length (option_map_or (λ own. slice_set heard source (record { word = min (own.word + 1) (2 ^ 64 - 1); time = time })) x heard) ≡ length heard
    by None = refl
    by (Some own) = length-set heard source (record { word = min (own.word + 1) (2 ^ 64 - 1); time = time })

-- a word came in, and was accepted
pub stands_accepted : (q : Proposed) (past : List Step) (w : LogWord) (source : ℕ) (old new : Run) → StandsAfter q past old → answer_after q past (Comes w) ≡ Accepted source
    → StandsForHistory count_bits (opening_of q) (history_of past ++ event_of (Comes w) ∷ []) new.state → new.heard.items ≡ noted old.heard.items source w.time → StandsAfter q (past ++ Comes w ∷ []) new
stands_accepted q past w source old new S is state heard = record {
  sound = S.sound;
  planned = S.planned;
  state = subst (λ E. StandsForHistory count_bits (opening_of q) E new.state) (sym (history_more past (Comes w))) state;
  many = ap length heard ∙ (noted_many old.heard.items source w.time ∙ S.many);
  heard = λ i. ap (λ (hs : List Heard). heard_at hs i) heard ∙ noted_at q past w source old.heard.items S.state.apart is S.many S.heard i;
}

-- no word was accepted
pub stands_on : (q : Proposed) (past : List Step) (s : Step) (old new : Run) → StandsAfter q past old → accepted_in s (answer_after q past s) ≡ []
    → StandsForHistory count_bits (opening_of q) (history_of past ++ event_of s ∷ []) new.state → new.heard.items ≡ old.heard.items → StandsAfter q (past ++ s ∷ []) new
stands_on q past s old new S none state heard = record {
  sound = S.sound;
  planned = S.planned;
  state = subst (λ E. StandsForHistory count_bits (opening_of q) E new.state) (sym (history_more past s)) state;
  many = ap length heard ∙ S.many;
  heard = λ i. ap (λ (hs : List Heard). heard_at hs i) heard ∙ (S.heard i ∙ ap last_word (sym (times_kept q past s i none)));
}

-- what the machine answers, and that it goes on
whole : (step : Step) → IsWholeEvent (event_of step)
whole (Comes w) = tt
whole (Asks g t) = tt
whole (Turns g) = tt

pub goes_on : CallsAreAnswered → ((C : ℕ) (e : Event) (v : MachineState) → IsWholeEvent e → GoesOnByEvents C v (e ∷ []) (stepped C v e).1)
    → (q : Proposed) (past : List Step) (step : Step) (r : Run) → StandsAfter q past r → (v : MachineState) → v ≡ (stepped count_bits r.state (event_of step)).1
    → ((stepped count_bits r.state (event_of step)).0 ≡ answer_after q past step) × StandsForHistory count_bits (opening_of q) (history_of past ++ event_of step ∷ []) v
goes_on calls goes q past step r S v is =
    let o = opening_of q in
    let E = history_of past in
    let e = event_of step in (
      calls count_bits o E e r.state (whole step) S.state,
      subst (StandsForHistory count_bits o (E ++ e ∷ [])) (sym is) (goes count_bits e r.state (whole step) o E S.state),
    )

-- ---- what happens

pub happenings-append : (q : Proposed) (past xs ys : List Step) → happenings_after q past (xs ++ ys) ≡ happenings_after q past xs ++ happenings_after q (past ++ xs) ys
happenings-append q past [] ys = ap (λ (p : List Step). happenings_after q p ys) (sym (append-nil past))
happenings-append q past (x ∷ xs) ys =
    let one = listed (happening_after q past x) in
    ap (λ (t : List Happening). one ++ t) (happenings-append q (past ++ x ∷ []) xs ys)
    ∙ (ap (λ (p : List Step). one ++ (happenings_after q (past ++ x ∷ []) xs ++ happenings_after q p ys)) (append_assoc past (x ∷ []) xs)
    ∙ sym (append_assoc one (happenings_after q (past ++ x ∷ []) xs) (happenings_after q (past ++ x ∷ xs) ys)))

-- one step later
pub happenings_more : (q : Proposed) (past : List Step) (s : Step) → happenings_of q (past ++ s ∷ []) ≡ happenings_of q past ++ listed (happening_after q past s)
happenings_more q past s = happenings-append q [] past (s ∷ []) ∙ ap (λ (l : List Happening). happenings_of q past ++ l) (append-nil (listed (happening_after q past s)))

-- nothing happens if a word is answered otherwise than by a refusal
pub quiet_word : (q : Proposed) (times : ℕ → List ℕ) (w : LogWord) (a : Answer) → ((why : Refusal) → a ≡ Refused why → ⊥) → None ≡ happening_by q times (Comes w) a
quiet_word q times w (Accepted source) other = refl
quiet_word q times w (Sent bus slot word) other = refl
quiet_word q times w (Changed plan) other = refl
quiet_word q times w (Published plan) other = refl
quiet_word q times w (Refused why) other = absurd (other why refl)

-- a cell with a word
pub sends_word : (q : Proposed) (times : ℕ → List ℕ) (g t bus at raw source : ℕ) (heard : Heard) (a : Answer) → a ≡ Sent bus at (Some raw) → source ≡ source_in q g bus at
    → heard ≡ last_word (times source) → Some (Sends (word_sent g t bus raw source heard)) ≡ happening_by q times (Asks g t) a
sends_word q times g t bus at raw source heard a is from when =
    ap (λ (h : Heard). Some (Sends (word_sent g t bus raw source h))) when
    ∙ (ap (λ (i : ℕ). Some (Sends (word_sent g t bus raw i (last_word (times i))))) from ∙ sym (ap (happening_by q times (Asks g t)) is))

pub unaccepted : (w : LogWord) (a : Answer) → ((source : ℕ) → a ≡ Accepted source → ⊥) → accepted_in (Comes w) a ≡ []
unaccepted w (Accepted source) other = absurd (other source refl)
unaccepted w (Sent bus slot word) other = refl
unaccepted w (Changed plan) other = refl
unaccepted w (Published plan) other = refl
unaccepted w (Refused why) other = refl

-- nor if a cell has no word
pub quiet_cell : (q : Proposed) (times : ℕ → List ℕ) (g t : ℕ) (a : Answer) → ((bus slot raw : ℕ) → a ≡ Sent bus slot (Some raw) → ⊥) → None ≡ happening_by q times (Asks g t) a
quiet_cell q times g t (Accepted source) other = refl
quiet_cell q times g t (Sent bus slot None) other = refl
quiet_cell q times g t (Sent bus slot (Some raw)) other = absurd (other bus slot raw refl)
quiet_cell q times g t (Changed plan) other = refl
quiet_cell q times g t (Published plan) other = refl
quiet_cell q times g t (Refused why) other = refl

-- ---- the steps of a timeline

pub steps_more : (q : Proposed) (M : List Moment) (m : Moment) → steps_of q (M ++ m ∷ []) ≡ steps_of q M ++ steps_in q m
steps_more q M m = flat_map-append (steps_in q) M (m ∷ []) ∙ ap (λ (xs : List Step). steps_of q M ++ xs) (append-nil (steps_in q m))

-- ---- groups

pub table_at : (q : Proposed) (g : ℕ) (p : SlotTable) → slice_get (groups_of q.plan) g ≡ Some p → table_of q g ≡ p
table_at q g p there = rw there refl

pub turns_then : (q : Proposed) (g t n : ℕ) → frame_of (table_of q g) ≡ n → (t + 1) % n ≡ 0 → turn_after q g t ≡ Turns g ∷ []
turns_then q g t n frame over =
    let is : ((t + 1) % frame_of (table_of q g) == 0) ≡ true = eq-eqb ((t + 1) % frame_of (table_of q g)) 0 (ap (λ (m : ℕ). (t + 1) % m) frame ∙ over) in
    rw is refl

pub turns_else : (q : Proposed) (g t n : ℕ) → frame_of (table_of q g) ≡ n → ((t + 1) % n ≡ 0 → ⊥) → turn_after q g t ≡ []
turns_else q g t n frame within =
    let is : ((t + 1) % frame_of (table_of q g) == 0) ≡ false = ne_eqb ((t + 1) % frame_of (table_of q g)) 0 (λ e. within (sym (ap (λ (m : ℕ). (t + 1) % m) frame) ∙ e)) in
    rw is refl
