-- How the words of a source grow by the events that are answered Accepted.
use Rattle.std.proofs.Common.{◌≡◌, ℕ, ◌+◌, ◌-◌, ◌^◌, ◌⊎◌, Bool, true, false, List, [], ◌∷◌, ◌++◌, length, reverse, ◌∙◌, sym, ap, subst, refl, inl, inr, arith, append_assoc}
use Rattle.std.specs.Prelude.{Option, Some, None, Result, Ok, Err, slice_get, if◌then◌else◌, nat_lt, position}
use Rattle.std.specs.Option.{option_map_or}
use Rattle.std.specs.List.{AllByRecursion, position_or_len}
use Rattle.std.proofs.lemmas.List.{reverse-append, reverse-reverse, take_all}
use Rattle.std.proofs.lemmas.Bool.{cases_Bool, cases_eq, cases_lt, lt-ltb, le-ltb, lt-leb, le-leb, ltb-true}
use Rattle.std.proofs.lemmas.Option.{none-some, same_Some, cond_some, slice_get_cases}
use Rattle.a429_word.proofs.Lists.{all_push, none_passes}
use Rattle.a429_word.specs.Bits.{has_odd_parity}
use Rattle.a429_equipment.specs.declared.rows.SourceRow.{SourceRow}
use Rattle.a429_equipment.specs.declared.arrivals.ArrivalRefusal.{ArrivalRefusal}
use Rattle.a429_equipment.specs.declared.arrivals.ArrivalRefusal.TheVariants as arrival
use Rattle.a429_equipment.specs.Arrivals.{SourcesAreApart, passes_at, is_for, sorted}
use Rattle.a429_equipment.specs.SameStation.{same_station}
use Rattle.a429_slots.specs.Tables.{SlotTable, groups_of}
use Rattle.a429_slots.specs.Proposed.{Proposed}
use Rattle.a429_slots.specs.Events.{Event, Arrive, Cell, Frame, Publish}
use Rattle.a429_slots.specs.History.{Opening, Current, current, accepted_in, accepted_by, last_of, newest_number, newest_table, cell_due, answered_cells, is_over, has_room, word_sent}
use Rattle.a429_slots.specs.declared.answers.Answer.{Answer}
use Rattle.a429_slots.specs.declared.answers.Answer.TheVariants.{Accepted, Sent, Changed, Published, Refused}
use Rattle.a429_slots.specs.declared.answers.Refusal.TheVariants.{NoSuch, CountSpent, FrameEnd, MidFrame, SlotsSpent, StationDiffers}
use Rattle.a429_slots.specs.Answers.{answer, answers, source_answer, cell_answer, frame_answer}
use Rattle.a429_core.specs.Sends.{AddsNone, AddsWord, IsLatest}
use Rattle.a429_core.proofs.Places.{first_passes}
use Rattle.a429_core.proofs.Words.{words_in, accepted_none, accepted_some, accepted_full, word_accepted, word_even, word_filtered, word_unheard, nobody_hears}
use Rattle.a429_core.proofs.Steps.{answers_push}
use Rattle.a429_equipment.proofs.Cutting.{last_push}

-- the source that a word was accepted for
abbrev source_in : Answer → Option ℕ
source_in (Accepted i) = Some i
source_in (Sent bus slot word) = None
source_in (Changed number) = None
source_in (Published number) = None
source_in (Refused refusal) = None

not_for : (a : Answer) (i : ℕ) → source_in a ≡ None → a ≡ Accepted i → ⊥
not_for a i none is = none-some i (sym none ∙ ap source_in is)

-- ---- answers that accept nothing

cell_accepts_none : (C : ℕ) (o : Opening) (E : List Event) (g : ℕ) → source_in (answer C o E (Cell g)) ≡ None
cell_accepts_none C o E g = go (slice_get (groups_of o.proposal.plan) g)
  where
    due : (E : List Event) (f : Current) (c : Option (ℕ × ℕ)) (w : ℕ × ℕ → Option ℕ) → source_in (option_map_or (λ x. Sent x.0 (f.first + x.1) (w x)) c (Refused FrameEnd)) ≡ None
    due E f None w = refl
    due E f (Some c) w = refl

    go : (x : Option SlotTable) → source_in (option_map_or (λ p. cell_answer C o E g (answered_cells C o g p E) (current o g p E)) x (Refused NoSuch)) ≡ None
    go None = refl
    go (Some p) = due E (current o g p E) (cell_due g (current o g p E)) (λ c. word_sent C o E (answered_cells C o g p E) (current o g p E) c)

frame_accepts_none : (C : ℕ) (o : Opening) (E : List Event) (g : ℕ) → source_in (answer C o E (Frame g)) ≡ None
frame_accepts_none C o E g = go (slice_get (groups_of o.proposal.plan) g)
  where
    by : (n : ℕ) (over room : Bool) → source_in (if over then (if room then Changed n else Refused SlotsSpent) else Refused MidFrame) ≡ None
    by n true true = refl
    by n true false = refl
    by n false room = refl

    go : (x : Option SlotTable) → source_in (option_map_or (λ p. frame_answer g (newest_number o E) (newest_table o g p E) (current o g p E)) x (Refused NoSuch)) ≡ None
    go None = refl
    go (Some p) = by (newest_number o E) (is_over g (current o g p E)) (has_room (current o g p E) (newest_table o g p E))

publish_accepts_none : (C : ℕ) (o : Opening) (E : List Event) (q : Proposed) → source_in (answer C o E (Publish q)) ≡ None
publish_accepts_none C o E q = by (newest_number o E + 1) (same_station o.proposal.station q.station) (nat_lt (newest_number o E) (2 ^ 64 - 1))
  where
    by : (n : ℕ) (same room : Bool) → source_in (if same then (if room then Published n else Refused CountSpent) else Refused StationDiffers) ≡ None
    by n true true = refl
    by n true false = refl
    by n false room = refl

-- ---- what an event does for a source

pub record Grew (C : ℕ) (o : Opening) (E : List Event) (i : ℕ) (e : Event) (a : Answer) : Type 0 where
  pub receiver : ℕ
  pub word : ℕ
  pub event : e ≡ Arrive receiver word
  pub answered : a ≡ Accepted i
  pub more : accepted_by C o i (E ++ e ∷ []) ≡ accepted_by C o i E ++ word ∷ []

pub record Stayed (C : ℕ) (o : Opening) (E : List Event) (i : ℕ) (e : Event) (a : Answer) : Type 0 where
  pub other : a ≡ Accepted i → ⊥
  pub same : accepted_by C o i (E ++ e ∷ []) ≡ accepted_by C o i E

unfoldable pub Does : ℕ → Opening → List Event → ℕ → Event → Answer → Type 0
Does C o E i e a = Grew C o E i e a ⊎ Stayed C o E i e a

-- a source that is given by its row
by_row : (C : ℕ) (o : Opening) (E : List Event) (i : ℕ) (s : SourceRow) → slice_get o.proposal.station.sources i ≡ Some s → accepted_by C o i E ≡ accepted_in C o s E
by_row C o E i s h = ap (λ (x : Option SourceRow). option_map_or (λ t. accepted_in C o t E) x []) h

same_words : (C : ℕ) (o : Opening) (E : List Event) (e : Event) (i : ℕ) → ((s : SourceRow) → slice_get o.proposal.station.sources i ≡ Some s → words_in o s (e ∷ []) ≡ []) → accepted_by C o i (E ++ e ∷ []) ≡ accepted_by C o i E
same_words C o E e i none = elim (slice_get_cases o.proposal.station.sources i).1 [
  | inl hit ↦ by_row C o (E ++ e ∷ []) i hit.0 hit.2 ∙ (accepted_none C o hit.0 E e (none hit.0 hit.2) ∙ sym (by_row C o E i hit.0 hit.2))
  | inr miss ↦ ap (λ (x : Option SourceRow). option_map_or (λ t. accepted_in C o t (E ++ e ∷ [])) x []) miss.1 ∙ sym (ap (λ (x : Option SourceRow). option_map_or (λ t. accepted_in C o t E) x []) miss.1)
]

quiet : (C : ℕ) (o : Opening) (E : List Event) (i : ℕ) (e : Event) (a : Answer) → source_in a ≡ None → ((s : SourceRow) → slice_get o.proposal.station.sources i ≡ Some s → words_in o s (e ∷ []) ≡ []) → Does C o E i e a
unfolding Does
quiet C o E i e a none words = inr (record { other = not_for a i none; same = same_words C o E e i words })

-- the word is for source j, of this row
record IsFor (o : Opening) (r raw j : ℕ) (s : SourceRow) : Type 0 where
  pub there : slice_get o.proposal.station.sources j ≡ Some s
  pub heard : is_for r raw s ≡ true
  pub odd : has_odd_parity raw ≡ true
  pub passes : passes_at o.proposal.station r raw ≡ true

own_word : (C : ℕ) (o : Opening) (E : List Event) (r raw j : ℕ) (s : SourceRow) → IsFor o r raw j s → Does C o E j (Arrive r raw) (source_answer C o E (Ok j))
unfolding Does
own_word C o E r raw j s H =
    let n = length (accepted_in C o s E) in
    let by : length (accepted_by C o j E) ≡ n = ap (λ (ws : List ℕ). length ws) (by_row C o E j s H.there) in
    let came = word_accepted o s r raw H.odd H.passes H.heard in
    elim (cases_lt n (2 ^ C - 1)) [
      | inl lt ↦
          let room : nat_lt (length (accepted_by C o j E)) (2 ^ C - 1) ≡ true = ap (λ (m : ℕ). nat_lt m (2 ^ C - 1)) by ∙ lt-ltb n (2 ^ C - 1) lt in
          inl (record {
            receiver = r;
            word = raw;
            event = refl;
            answered = rw room refl;
            more = by_row C o (E ++ Arrive r raw ∷ []) j s H.there
                ∙ (accepted_some C o s E (Arrive r raw) raw came lt ∙ ap (λ (ws : List ℕ). ws ++ raw ∷ []) (sym (by_row C o E j s H.there)));
          })
      | inr ge ↦
          let full : nat_lt (length (accepted_by C o j E)) (2 ^ C - 1) ≡ false = ap (λ (m : ℕ). nat_lt m (2 ^ C - 1)) by ∙ le-ltb n (2 ^ C - 1) ge in
          inr (record {
            other = not_for (source_answer C o E (Ok j)) j (rw full refl);
            same = by_row C o (E ++ Arrive r raw ∷ []) j s H.there ∙ (accepted_full C o s E (Arrive r raw) raw came ge ∙ sym (by_row C o E j s H.there));
          })
    ]

-- a word for one source is for no other
other_word : (C : ℕ) (o : Opening) (E : List Event) (r raw i j : ℕ) (s : SourceRow) → SourcesAreApart o.proposal.station.sources → IsFor o r raw j s → (j ≡ i → ⊥) → Does C o E i (Arrive r raw) (source_answer C o E (Ok j))
unfolding Does
other_word C o E r raw i j s apart H differs = inr (record {
  other = λ is. by_limit (nat_lt (length (accepted_by C o j E)) (2 ^ C - 1)) is;
  same = same_words C o E (Arrive r raw) i (λ t there. word_unheard o t r raw (unheard t there));
})
  where
    by_limit : (room : Bool) → (if room then Accepted j else Refused CountSpent) ≡ Accepted i → ⊥
    by_limit true is = differs (same_Some j i (ap source_in is))
    by_limit false is = none-some i (ap source_in is)

    unheard : (t : SourceRow) → slice_get o.proposal.station.sources i ≡ Some t → is_for r raw t ≡ false
    unheard t there = elim (cases_Bool (is_for r raw t)) [
      | inl hit ↦ absurd (differs (apart r raw j i s t H.there there H.heard hit))
      | inr miss ↦ miss
    ]

found_at : (r raw j : ℕ) (o : Opening) → position (is_for r raw) o.proposal.station.sources ≡ Some j → has_odd_parity raw ≡ true → passes_at o.proposal.station r raw ≡ true → (s : SourceRow) × IsFor o r raw j s
found_at r raw j o h odd passes = elim (slice_get_cases o.proposal.station.sources j).1 [
  | inl hit ↦ (hit.0, record { there = hit.2; heard = first_passes (is_for r raw) o.proposal.station.sources j h hit.0 hit.2; odd = odd; passes = passes })
  | inr miss ↦
      let found = cond_some (nat_lt (position_or_len (is_for r raw) o.proposal.station.sources) (length o.proposal.station.sources)) (position_or_len (is_for r raw) o.proposal.station.sources) j h in
      let low = ltb-true (position_or_len (is_for r raw) o.proposal.station.sources) (length o.proposal.station.sources) found.0 in
      absurd (omega arith)
]

position_does : (C : ℕ) (o : Opening) (E : List Event) (i r raw : ℕ) → SourcesAreApart o.proposal.station.sources → has_odd_parity raw ≡ true → passes_at o.proposal.station r raw ≡ true
    → (x : Option ℕ) → position (is_for r raw) o.proposal.station.sources ≡ x → Does C o E i (Arrive r raw) (source_answer C o E (option_map_or (λ j. Ok j) x (Err arrival.NoSource)))
position_does C o E i r raw apart odd passes None h =
    quiet C o E i (Arrive r raw) (source_answer C o E (Err arrival.NoSource)) refl (λ s there. word_unheard o s r raw (none_passes (is_for r raw) o.proposal.station.sources h i s there))
position_does C o E i r raw apart odd passes (Some j) h =
    let H = found_at r raw j o h odd passes in
    elim (cases_eq j i) [
      | inl same ↦ subst (λ (k : ℕ). Does C o E k (Arrive r raw) (source_answer C o E (Ok j))) same (own_word C o E r raw j H.0 H.1)
      | inr differs ↦ other_word C o E r raw i j H.0 apart H.1 differs
    ]

sorted_does : (C : ℕ) (o : Opening) (E : List Event) (i r raw : ℕ) → SourcesAreApart o.proposal.station.sources → Does C o E i (Arrive r raw) (source_answer C o E (sorted o.proposal.station r raw))
sorted_does C o E i r raw apart = elim (cases_Bool (has_odd_parity raw)) [
  | inl odd ↦ elim (cases_Bool (passes_at o.proposal.station r raw)) [
    | inl passes ↦
        let x = position (is_for r raw) o.proposal.station.sources in
        let is : sorted o.proposal.station r raw ≡ option_map_or (λ j. Ok j) x (Err arrival.NoSource) = rw (odd, passes) refl in
        subst (λ (y : Result ℕ ArrivalRefusal). Does C o E i (Arrive r raw) (source_answer C o E y)) (sym is) (position_does C o E i r raw apart odd passes x refl)
    | inr blocked ↦
        let is : sorted o.proposal.station r raw ≡ Err arrival.Filtered = rw (odd, blocked) refl in
        subst (λ (y : Result ℕ ArrivalRefusal). Does C o E i (Arrive r raw) (source_answer C o E y)) (sym is)
        (quiet C o E i (Arrive r raw) (source_answer C o E (Err arrival.Filtered)) refl (λ s there. word_filtered o s r raw blocked))
  ]
  | inr even ↦
      let is : sorted o.proposal.station r raw ≡ Err arrival.Parity = rw even refl in
      subst (λ (y : Result ℕ ArrivalRefusal). Does C o E i (Arrive r raw) (source_answer C o E y)) (sym is)
      (quiet C o E i (Arrive r raw) (source_answer C o E (Err arrival.Parity)) refl (λ s there. word_even o s r raw even))
]

arrive_does : (C : ℕ) (o : Opening) (E : List Event) (i r raw : ℕ) → SourcesAreApart o.proposal.station.sources → Does C o E i (Arrive r raw) (answer C o E (Arrive r raw))
arrive_does C o E i r raw apart =
    let t = o.proposal.station in
    elim (cases_lt r (length t.receivers)) [
      | inl lt ↦
          let is : answer C o E (Arrive r raw) ≡ source_answer C o E (sorted t r raw) = rw (lt-leb (length t.receivers) r lt) refl in
          subst (Does C o E i (Arrive r raw)) (sym is) (sorted_does C o E i r raw apart)
      | inr ge ↦
          let is : answer C o E (Arrive r raw) ≡ Refused NoSuch = rw (le-leb (length t.receivers) r ge) refl in
          subst (Does C o E i (Arrive r raw)) (sym is) (quiet C o E i (Arrive r raw) (Refused NoSuch) refl (λ s there. word_filtered o s r raw (nobody_hears t r raw ge)))
    ]

pub does : (C : ℕ) (o : Opening) (E : List Event) (i : ℕ) (e : Event) → SourcesAreApart o.proposal.station.sources → Does C o E i e (answer C o E e)
does C o E i (Arrive r raw) apart = arrive_does C o E i r raw apart
does C o E i (Cell g) apart = quiet C o E i (Cell g) (answer C o E (Cell g)) (cell_accepts_none C o E g) (λ s there. refl)
does C o E i (Frame g) apart = quiet C o E i (Frame g) (answer C o E (Frame g)) (frame_accepts_none C o E g) (λ s there. refl)
does C o E i (Publish q) apart = quiet C o E i (Publish q) (answer C o E (Publish q)) (publish_accepts_none C o E q) (λ s there. refl)

pub one_by_one : (C : ℕ) (o : Opening) (E : List Event) (source : ℕ) (e : Event) → SourcesAreApart o.proposal.station.sources → AddsWord C o E source e ⊎ AddsNone C o E source e
unfolding Does
one_by_one C o E source e apart = elim (does C o E source e apart) [
  | inl G ↦ inl (record { receiver = G.receiver; word = G.word; event = G.event; answered = G.answered; more = G.more })
  | inr S ↦ inr (record { other = S.other; same = S.same })
]

-- ---- the latest word

first_words : (C : ℕ) (o : Opening) (i : ℕ) → accepted_by C o i [] ≡ []
first_words C o i = go (slice_get o.proposal.station.sources i)
  where
    go : (x : Option SourceRow) → option_map_or (λ s. accepted_in C o s []) x [] ≡ []
    go None = refl
    go (Some s) = take_all (2 ^ C - 1) (words_in o s []) (omega arith)

LastIsLatest : ℕ → Opening → ℕ → List Event → Type 0
LastIsLatest C o i E = (w : ℕ) → last_of (accepted_by C o i E) ≡ Some w → IsLatest C o E i w

latest_next : (C : ℕ) (o : Opening) (i : ℕ) (E : List Event) (e : Event) → LastIsLatest C o i E → Does C o E i e (answer C o E e) → LastIsLatest C o i (E ++ e ∷ [])
unfolding Does LastIsLatest
latest_next C o i E e before (inl G) w h =
    let is : G.word ≡ w = same_Some G.word w (sym (last_push (accepted_by C o i E) G.word) ∙ (sym (ap (λ (ws : List ℕ). last_of ws) G.more) ∙ h)) in
    record {
      before = E;
      receiver = G.receiver;
      after = [];
      split = ap (λ (x : Event). E ++ x ∷ []) (G.event ∙ ap (λ (v : ℕ). Arrive G.receiver v) is);
      accepted = ap (λ (x : Event). answer C o E x) (sym (G.event ∙ ap (λ (v : ℕ). Arrive G.receiver v) is)) ∙ G.answered;
      none_later = tt;
    }
latest_next C o i E e before (inr S) w h =
    let L = before w (ap (λ (ws : List ℕ). last_of ws) (sym S.same) ∙ h) in
    let start = L.before ++ Arrive L.receiver w ∷ [] in
    let whole : E ≡ start ++ L.after = L.split ∙ sym (append_assoc L.before (Arrive L.receiver w ∷ []) L.after) in
    let last : answer C o (start ++ L.after) e ≡ Accepted i → ⊥ = subst (λ (F : List Event). answer C o F e ≡ Accepted i → ⊥) whole S.other in
    record {
      before = L.before;
      receiver = L.receiver;
      after = L.after ++ e ∷ [];
      split = ap (λ (F : List Event). F ++ e ∷ []) L.split ∙ append_assoc L.before (Arrive L.receiver w ∷ L.after) (e ∷ []);
      accepted = L.accepted;
      none_later = subst (AllByRecursion (λ (a : Answer). a ≡ Accepted i → ⊥)) (sym (answers_push C o start L.after e))
          (all_push (λ (a : Answer). a ≡ Accepted i → ⊥) (answers C o start L.after) (answer C o (start ++ L.after) e) L.none_later last);
    }

-- along a history, the newest event first
latest_along : (C : ℕ) (o : Opening) (i : ℕ) → SourcesAreApart o.proposal.station.sources → (past : List Event) → LastIsLatest C o i (reverse past)
unfolding LastIsLatest
latest_along C o i apart [] = λ w h. absurd (none-some w (sym (ap (λ (ws : List ℕ). last_of ws) (first_words C o i)) ∙ h))
latest_along C o i apart (e ∷ past) =
    subst (LastIsLatest C o i) (sym (reverse-append (e ∷ []) past)) (latest_next C o i (reverse past) e (latest_along C o i apart past) (does C o (reverse past) i e apart))

pub last_is_latest : (C : ℕ) (o : Opening) (i : ℕ) (E : List Event) (w : ℕ) → SourcesAreApart o.proposal.station.sources → last_of (accepted_by C o i E) ≡ Some w → IsLatest C o E i w
unfolding LastIsLatest
last_is_latest C o i E w apart h = subst (LastIsLatest C o i) (reverse-reverse E) (latest_along C o i apart (reverse E)) w h
