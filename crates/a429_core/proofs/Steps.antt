-- One step of what is kept, over every history that it stands for.
use Rattle.std.proofs.Common.{◌≡◌, ℕ, ◌<◌, ◌≤◌, ◌-◌, ◌^◌, ◌+◌, true, false, List, [], ◌∷◌, ◌++◌, length, get_or, ◌∙◌, sym, ap, subst, refl, inl, inr, arith, append-nil, append_assoc}
use Rattle.std.specs.Prelude.{Option, Some, None, Result, Ok, Err, ◌==◌, ◌&&◌, slice_get, slice_set, nat_lt, nat_le, position, if◌then◌else◌}
use Rattle.std.specs.Option.{option_map_or}
use Rattle.std.specs.List.{position_or_len}
use Rattle.std.proofs.lemmas.Option.{slice_get-get_or, same_Some, slice_get_within, slice_get_cases, cond_some}
use Rattle.std.proofs.lemmas.List.{length_push, length-set}
use Rattle.std.proofs.lemmas.Bool.{cases_eq, cases_lt, cases_Bool, lt-ltb, le-ltb, lt-leb, le-leb, ltb-true, eq-eqb, ne_eqb, and_parts, eqb-true}
use Rattle.a429_word.proofs.Lists.{get_set_other, get_set_same, none_passes}
use Rattle.a429_word.specs.Bits.{has_odd_parity}
use Rattle.a429_equipment.specs.declared.rows.SourceRow.{SourceRow}
use Rattle.a429_equipment.specs.declared.arrivals.ArrivalRefusal.{ArrivalRefusal}
use Rattle.a429_equipment.specs.declared.arrivals.ArrivalRefusal.TheVariants as arrival
use Rattle.a429_equipment.specs.TableRecord.{TableRecord}
use Rattle.a429_equipment.specs.Arrivals.{SourcesAreApart, passes_at, is_for, sorted}
use Rattle.a429_equipment.specs.SameStation.{same_station, all_agree, same_receiver, same_source, same_group}
use Rattle.a429_slots.specs.Tables.{SlotTable, PlanTable, groups_of}
use Rattle.a429_slots.specs.Proposed.{Proposed}
use Rattle.a429_slots.specs.Events.{Event, Arrive, Cell, Frame, Publish}
use Rattle.a429_slots.specs.History.{Opening, current, accepted_in, accepted_by, last_of, proposal_for, published, numbers_left, newest_plan, newest_table, newest_number}
use Rattle.a429_core.specs.declared.sources.Kept.{Kept}
use Rattle.a429_slots.specs.declared.answers.Answer.{Answer}
use Rattle.a429_slots.specs.declared.answers.Answer.TheVariants.{Published, Refused}
use Rattle.a429_slots.specs.declared.answers.Refusal.TheVariants.{NoSuch, CountSpent, StationDiffers}
use Rattle.a429_slots.specs.Answers
use Rattle.a429_slots.specs.Answers.{answer, answers, source_answer}
use Rattle.a429_slots.specs.FrameStates.{FrameState, frame_state_of}
use Rattle.a429_core.specs.MachineStates.{MachineState, StandsForHistory, HasTableForEach, IsWholeEvent, kept_of, recent_at}
use Rattle.a429_core.specs.MachineSteps.{count_at, kept_at, put_word, arrived, framed, frame_at, frame_asked}
use Rattle.a429_core.proofs.Places.{inside, outside, first_passes, map_same}
use Rattle.a429_core.proofs.Words.{words_in, accepted_none, accepted_some, accepted_full, kept_none, kept_some, kept_full, word_accepted, word_even, word_filtered, word_unheard, nobody_hears}
use Rattle.a429_core.proofs.Leaving.{IsSource, IsGroup, NoneCame, sources_stay, group_stays, with_groups, with_sources, Stepped, step_from}
use Rattle.a429_core.proofs.Answering.{remembers_stay}
use Rattle.a429_core.proofs.CellSteps.{cell_step}
use Rattle.a429_core.proofs.Frames.{frame_push, Turned}
use Rattle.a429_equipment.proofs.Cutting.{last_push}
use Rattle.a429_slots.proofs.Histories.{current_next}
use Rattle.a429_slots.proofs.Remembering.{AreRecalled}

-- ---- frames

frame_step : (C : ℕ) (o : Opening) (E : List Event) (k : ℕ) (v : MachineState) → StandsForHistory C o E v → (x : Option SlotTable) → slice_get (groups_of o.proposal.plan) k ≡ x → Stepped C o E (Frame k) v
frame_step C o E k v S None h =
    let got : slice_get v.groups k ≡ None = S.groups k ∙ rw h refl in
    let none : NoneCame C o E (Frame k) = record { same = λ i s q. accepted_none C o s E (Frame k) refl } in
    let here : IsGroup o (E ++ Frame k ∷ []) v.groups k = got ∙ rw h refl in
    step_from C o E (Frame k) v (Refused NoSuch, v) (rw (outside v.groups k got) refl) (rw h refl)
    (with_groups C o E (Frame k) v v.groups S none (kept_none (proposal_for o) (numbers_left o) E (Frame k) refl) refl (λ g. elim (cases_eq k g) [
      | inl e ↦ subst (IsGroup o (E ++ Frame k ∷ []) v.groups) e here
      | inr n ↦ group_stays C o E (Frame k) v S g (ne_eqb k g n) refl
    ]) (λ g p there. refl))
frame_step C o E k v S (Some p) h =
    let f = current o k p E in
    let n = newest_number o E in
    let now = newest_table o k p E in
    let tables = groups_of (newest_plan o E) in
    let low : k < length tables = omega (arith, slice_get_within (groups_of o.proposal.plan) k p h, S.as_many, ap (λ (ts : List SlotTable). length ts) S.newest) in
    let there : slice_get tables k ≡ Some (get_or tables k p) = slice_get-get_or tables k p low in
    let now_is : now ≡ get_or tables k p = rw there refl in
    let has : slice_get (groups_of v.newest) k ≡ Some now = ap (λ (ts : List SlotTable). slice_get ts k) S.newest ∙ (there ∙ ap (λ (t : SlotTable). Some t) (sym now_is)) in
    let got : slice_get v.groups k ≡ Some (frame_state_of k f) = S.groups k ∙ rw h refl in
    let none : NoneCame C o E (Frame k) = record { same = λ i s q. accepted_none C o s E (Frame k) refl } in
    let R = framed (frame_state_of k f) n now in
    let turn : Turned k n now f (Frame k) = frame_push k n now f (Frame k) (eq-eqb k k refl) refl in
    let at_k : frame_at v.groups v.newest k ≡ (R.0, slice_set v.groups k R.1) =
    rw (got, has) (ap (λ (m : ℕ). ((framed (frame_state_of k f) m now).0, slice_set v.groups k (framed (frame_state_of k f) m now).1)) S.number) in
    let put : frame_asked v k ≡ ((frame_at v.groups v.newest k).0, record v { groups = (frame_at v.groups v.newest k).1 }) = rw (inside v.groups k (frame_state_of k f) got) refl in
    let groups = slice_set v.groups k R.1 in
    let made : frame_asked v k ≡ (R.0, record v { groups = groups }) = put ∙ ap (λ (x : Answer × List FrameState). (x.0, record v { groups = x.1 })) at_k in
    let next : frame_state_of k (current o k p (E ++ Frame k ∷ [])) ≡ R.1 = ap (frame_state_of k) (current_next o k p E (Frame k)) ∙ turn.after in
    let here : IsGroup o (E ++ Frame k ∷ []) groups k =
    get_set_same v.groups k R.1 (slice_get_within v.groups k (frame_state_of k f) got) ∙ rw h (ap (λ (s : FrameState). Some s) (sym next)) in
    step_from C o E (Frame k) v (R.0, record v { groups = groups }) made (rw h turn.answer)
    (with_groups C o E (Frame k) v groups S none (kept_none (proposal_for o) (numbers_left o) E (Frame k) refl) (length-set v.groups k R.1) (λ g. elim (cases_eq k g) [
      | inl e ↦ subst (IsGroup o (E ++ Frame k ∷ []) groups) e here
      | inr m ↦ get_set_other v.groups k g R.1 (λ q. m (sym q)) ∙ group_stays C o E (Frame k) v S g (ne_eqb k g m) refl
    ]) (λ g p there. refl))

-- ---- arrivals

-- a word for one source is for no other
other_unheard : (o : Opening) (r raw i : ℕ) (s : SourceRow) → SourcesAreApart o.proposal.station.sources → slice_get o.proposal.station.sources i ≡ Some s → is_for r raw s ≡ true →
    (j : ℕ) (t : SourceRow) → slice_get o.proposal.station.sources j ≡ Some t → (i ≡ j → ⊥) → is_for r raw t ≡ false
other_unheard o r raw i s apart hs heard j t ht n = elim (cases_Bool (is_for r raw t)) [
  | inl hit ↦ absurd (n (apart r raw i j s t hs ht heard hit))
  | inr miss ↦ miss
]

stays : (C : ℕ) (o : Opening) (E : List Event) (r raw : ℕ) (v : MachineState) → StandsForHistory C o E v → NoneCame C o E (Arrive r raw) → StandsForHistory C o (E ++ Arrive r raw ∷ []) v
stays C o E r raw v S none = with_sources C o E r raw v v.sources S (sources_stay C o E (Arrive r raw) v S none)

kept_is : (C : ℕ) (o : Opening) (E : List Event) (v : MachineState) (i : ℕ) (s : SourceRow) → StandsForHistory C o E v → slice_get o.proposal.station.sources i ≡ Some s → slice_get v.sources i ≡ Some (kept_of (accepted_in C o s E))
kept_is C o E v i s S hs = S.sources i ∙ rw hs refl

count_is : (C : ℕ) (o : Opening) (E : List Event) (v : MachineState) (i : ℕ) (s : SourceRow) → StandsForHistory C o E v → slice_get o.proposal.station.sources i ≡ Some s → count_at v.sources i ≡ length (accepted_in C o s E)
count_is C o E v i s S hs = rw (kept_is C o E v i s S hs) refl

put_step : (C : ℕ) (o : Opening) (E : List Event) (r raw i : ℕ) (v : MachineState) (s : SourceRow) → StandsForHistory C o E v → slice_get o.proposal.station.sources i ≡ Some s → is_for r raw s ≡ true
    → words_in o s (Arrive r raw ∷ []) ≡ raw ∷ [] → length (accepted_in C o s E) < 2 ^ C - 1 → StandsForHistory C o (E ++ Arrive r raw ∷ []) (record v { sources = kept_at v.sources i raw })
put_step C o E r raw i v s S hs heard came room =
    let grown : accepted_in C o s (E ++ Arrive r raw ∷ []) ≡ accepted_in C o s E ++ raw ∷ [] = accepted_some C o s E (Arrive r raw) raw came room in
    let longer : length (accepted_in C o s (E ++ Arrive r raw ∷ [])) ≡ count_at v.sources i + 1 =
    ap (λ (xs : List ℕ). length xs) grown ∙ (length_push (accepted_in C o s E) raw ∙ ap (λ (m : ℕ). m + 1) (sym (count_is C o E v i s S hs))) in
    let newest : last_of (accepted_in C o s (E ++ Arrive r raw ∷ [])) ≡ Some raw = ap (λ (xs : List ℕ). last_of xs) grown ∙ last_push (accepted_in C o s E) raw in
    let put : Kept = record { count = count_at v.sources i + 1; last = Some raw } in
    let same : kept_of (accepted_in C o s (E ++ Arrive r raw ∷ [])) ≡ put =
    ap (λ (m : ℕ). record { count = m; last = last_of (accepted_in C o s (E ++ Arrive r raw ∷ [])) }) longer
    ∙ ap (λ (w : Option ℕ). record { count = count_at v.sources i + 1; last = w }) newest in
    let here : IsSource C o (E ++ Arrive r raw ∷ []) (kept_at v.sources i raw) i =
    get_set_same v.sources i put (slice_get_within v.sources i (kept_of (accepted_in C o s E)) (kept_is C o E v i s S hs)) ∙ rw hs (ap (λ (k : Kept). Some k) (sym same)) in
    with_sources C o E r raw v (kept_at v.sources i raw) S (λ j. elim (cases_eq i j) [
      | inl q ↦ subst (IsSource C o (E ++ Arrive r raw ∷ []) (kept_at v.sources i raw)) q here
      | inr q ↦ get_set_other v.sources i j put (λ p. q (sym p)) ∙ (S.sources j
          ∙ map_same (λ s. kept_of (accepted_in C o s E)) (λ s. kept_of (accepted_in C o s (E ++ Arrive r raw ∷ []))) (slice_get o.proposal.station.sources j)
          (λ t ht. ap kept_of (sym (accepted_none C o t E (Arrive r raw) (word_unheard o t r raw (other_unheard o r raw i s S.apart hs heard j t ht q))))))
    ])

-- the count is spent
spent : (C : ℕ) (o : Opening) (E : List Event) (r raw i : ℕ) (s : SourceRow) → SourcesAreApart o.proposal.station.sources → slice_get o.proposal.station.sources i ≡ Some s → is_for r raw s ≡ true
    → words_in o s (Arrive r raw ∷ []) ≡ raw ∷ [] → 2 ^ C - 1 ≤ length (accepted_in C o s E) → NoneCame C o E (Arrive r raw)
spent C o E r raw i s apart hs heard came full = record {
  same = λ j t ht. elim (cases_eq i j) [
    | inl q ↦
        let st : s ≡ t = same_Some s t (sym hs ∙ (ap (slice_get o.proposal.station.sources) q ∙ ht)) in
        subst (λ (u : SourceRow). accepted_in C o u (E ++ Arrive r raw ∷ []) ≡ accepted_in C o u E) st (accepted_full C o s E (Arrive r raw) raw came full)
    | inr q ↦ accepted_none C o t E (Arrive r raw) (word_unheard o t r raw (other_unheard o r raw i s apart hs heard j t ht q))
  ];
}

pub record Put (C : ℕ) (o : Opening) (E : List Event) (r raw : ℕ) (v : MachineState) (x : Result ℕ ArrivalRefusal) : Type 0 where
  pub answer : (put_word C v raw x).0 ≡ source_answer C o E x
  pub after : StandsForHistory C o (E ++ Arrive r raw ∷ []) (put_word C v raw x).1

found_step : (C : ℕ) (o : Opening) (E : List Event) (r raw : ℕ) (v : MachineState) → StandsForHistory C o E v → has_odd_parity raw ≡ true → passes_at o.proposal.station r raw ≡ true
    → (x : Option ℕ) → position (is_for r raw) o.proposal.station.sources ≡ x → Put C o E r raw v (option_map_or (λ i. Ok i) x (Err arrival.NoSource))
found_step C o E r raw v S odd pass None h = record {
  answer = refl;
  after = stays C o E r raw v S (record { same = λ i s q. accepted_none C o s E (Arrive r raw) (word_unheard o s r raw (none_passes (is_for r raw) o.proposal.station.sources h i s q)) });
}
found_step C o E r raw v S odd pass (Some i) h = elim (slice_get_cases o.proposal.station.sources i).1 [
  | inl hit ↦
      let s = hit.0 in
      let hs : slice_get o.proposal.station.sources i ≡ Some s = hit.2 in
      let heard : is_for r raw s ≡ true = first_passes (is_for r raw) o.proposal.station.sources i h s hs in
      let came : words_in o s (Arrive r raw ∷ []) ≡ raw ∷ [] = word_accepted o s r raw odd pass heard in
      let n = length (accepted_in C o s E) in
      let by : length (accepted_by C o i E) ≡ n = rw hs refl in
      elim (cases_lt n (2 ^ C - 1)) [
        | inl lt ↦
            let test : nat_lt (count_at v.sources i) (2 ^ C - 1) ≡ true = ap (λ (m : ℕ). nat_lt m (2 ^ C - 1)) (count_is C o E v i s S hs) ∙ lt-ltb n (2 ^ C - 1) lt in
            let same : nat_lt (length (accepted_by C o i E)) (2 ^ C - 1) ≡ true = ap (λ (m : ℕ). nat_lt m (2 ^ C - 1)) by ∙ lt-ltb n (2 ^ C - 1) lt in
            record {
              answer = rw (test, same) refl;
              after = rw test (put_step C o E r raw i v s S hs heard came lt);
            }
        | inr ge ↦
            let test : nat_lt (count_at v.sources i) (2 ^ C - 1) ≡ false = ap (λ (m : ℕ). nat_lt m (2 ^ C - 1)) (count_is C o E v i s S hs) ∙ le-ltb n (2 ^ C - 1) ge in
            let same : nat_lt (length (accepted_by C o i E)) (2 ^ C - 1) ≡ false = ap (λ (m : ℕ). nat_lt m (2 ^ C - 1)) by ∙ le-ltb n (2 ^ C - 1) ge in
            record {
              answer = rw (test, same) refl;
              after = rw test (stays C o E r raw v S (spent C o E r raw i s S.apart hs heard came ge));
            }
      ]
  | inr miss ↦
      let found = cond_some (nat_lt (position_or_len (is_for r raw) o.proposal.station.sources) (length o.proposal.station.sources)) (position_or_len (is_for r raw) o.proposal.station.sources) i h in
      let low = ltb-true (position_or_len (is_for r raw) o.proposal.station.sources) (length o.proposal.station.sources) found.0 in
      absurd (omega arith)
]

sorted_step : (C : ℕ) (o : Opening) (E : List Event) (r raw : ℕ) (v : MachineState) → StandsForHistory C o E v → Put C o E r raw v (sorted o.proposal.station r raw)
sorted_step C o E r raw v S = elim (cases_Bool (has_odd_parity raw)) [
  | inl odd ↦ elim (cases_Bool (passes_at o.proposal.station r raw)) [
    | inl pass ↦
        let x = position (is_for r raw) o.proposal.station.sources in
        let is : sorted o.proposal.station r raw ≡ option_map_or (λ i. Ok i) x (Err arrival.NoSource) = rw (odd, pass) refl in
        subst (Put C o E r raw v) (sym is) (found_step C o E r raw v S odd pass x refl)
    | inr blocked ↦
        let is : sorted o.proposal.station r raw ≡ Err arrival.Filtered = rw (odd, blocked) refl in
        subst (Put C o E r raw v) (sym is) (record {
          answer = refl;
          after = stays C o E r raw v S (record { same = λ i s q. accepted_none C o s E (Arrive r raw) (word_filtered o s r raw blocked) });
        })
  ]
  | inr even ↦
      let is : sorted o.proposal.station r raw ≡ Err arrival.Parity = rw even refl in
      subst (Put C o E r raw v) (sym is) (record {
        answer = refl;
        after = stays C o E r raw v S (record { same = λ i s q. accepted_none C o s E (Arrive r raw) (word_even o s r raw even) });
      })
]

abbrev arrived_at : ℕ → MachineState → ℕ → ℕ → TableRecord → Answer × MachineState
arrived_at C v r raw t = if nat_le (length t.receivers) r then (Refused NoSuch, v) else put_word C v raw (sorted t r raw)

arrive_step : (C : ℕ) (o : Opening) (E : List Event) (r raw : ℕ) (v : MachineState) → StandsForHistory C o E v → Stepped C o E (Arrive r raw) v
arrive_step C o E r raw v S =
    let t = o.proposal.station in
    let here : arrived C v r raw ≡ arrived_at C v r raw t = ap (arrived_at C v r raw) S.station in
    elim (cases_lt r (length t.receivers)) [
      | inl l ↦
          let there : nat_le (length t.receivers) r ≡ false = lt-leb (length t.receivers) r l in
          let put = sorted_step C o E r raw v S in
          step_from C o E (Arrive r raw) v (put_word C v raw (sorted t r raw)) (here ∙ rw there refl) (put.answer ∙ rw there refl) put.after
      | inr ge ↦
          let past : nat_le (length t.receivers) r ≡ true = le-leb (length t.receivers) r ge in
          step_from C o E (Arrive r raw) v (Refused NoSuch, v) (here ∙ rw past refl) (rw past refl)
          (stays C o E r raw v S (record { same = λ i s q. accepted_none C o s E (Arrive r raw) (word_filtered o s r raw (nobody_hears t r raw ge)) }))
    ]

-- ---- publications

-- stations that are the same have as many groups
pub same_count : (a b : TableRecord) → same_station a b ≡ true → length a.groups ≡ length b.groups
unfolding same_station
same_count a b h =
    let more = (and_parts (all_agree same_receiver a.receivers b.receivers) (all_agree same_source a.sources b.sources && all_agree same_group a.groups b.groups) h).1 in
    let groups = (and_parts (all_agree same_source a.sources b.sources) (all_agree same_group a.groups b.groups) more).1 in
    eqb-true (length a.groups) (length b.groups) (and_parts (length a.groups == length b.groups) _ groups).0

publish_step : (C : ℕ) (o : Opening) (E : List Event) (q : Proposed) (v : MachineState) → HasTableForEach q → StandsForHistory C o E v → Stepped C o E (Publish q) v
publish_step C o E q v whole S =
    let e = Publish q in
    let none : NoneCame C o E (Publish q) = record { same = λ i s x. accepted_none C o s E (Publish q) refl } in
    let same : same_station v.station q.station ≡ same_station o.proposal.station q.station = ap (λ (t : TableRecord). same_station t q.station) S.station in
    let n = newest_number o E in
    elim (cases_Bool (same_station o.proposal.station q.station)) [
      | inr differs ↦
          let test : same_station v.station q.station ≡ false = same ∙ differs in
          let kept : published o (E ++ Publish q ∷ []) ≡ published o E = kept_none (proposal_for o) (numbers_left o) E (Publish q) (rw differs refl) in
          step_from C o E (Publish q) v (Refused StationDiffers, v) (rw test refl) (rw differs refl)
          (with_groups C o E (Publish q) v v.groups S none kept refl (λ g. group_stays C o E (Publish q) v S g refl refl) (λ g p there. refl))
      | inl agrees ↦
          let test : same_station v.station q.station ≡ true = same ∙ agrees in
          elim (cases_lt n (2 ^ 64 - 1)) [
            | inr full ↦
                let spent : nat_lt v.newest.number (2 ^ 64 - 1) ≡ false = ap (λ (m : ℕ). nat_lt m (2 ^ 64 - 1)) S.number ∙ le-ltb n (2 ^ 64 - 1) full in
                let kept : published o (E ++ Publish q ∷ []) ≡ published o E = kept_full (proposal_for o) (numbers_left o) E (Publish q) q (rw agrees refl) (omega (arith, full)) in
                step_from C o E (Publish q) v (Refused CountSpent, v) (rw (test, spent) refl) (rw (agrees, le-ltb n (2 ^ 64 - 1) full) refl)
                (with_groups C o E (Publish q) v v.groups S none kept refl (λ g. group_stays C o E (Publish q) v S g refl refl) (λ g p there. refl))
            | inl room ↦
                let free : nat_lt v.newest.number (2 ^ 64 - 1) ≡ true = ap (λ (m : ℕ). nat_lt m (2 ^ 64 - 1)) S.number ∙ lt-ltb n (2 ^ 64 - 1) room in
                let grown : published o (E ++ Publish q ∷ []) ≡ published o E ++ q ∷ [] = kept_some (proposal_for o) (numbers_left o) E (Publish q) q (rw agrees refl) (omega (arith, room)) in
                let more : newest_number o (E ++ Publish q ∷ []) ≡ n + 1 = omega (arith, ap (λ (ps : List Proposed). length ps) grown, length_push (published o E) q) in
                let newest : newest_plan o (E ++ Publish q ∷ []) ≡ q.plan = ap (λ (ps : List Proposed). option_map_or (λ (p : Proposed). p.plan) (last_of ps) o.proposal.plan) grown ∙ rw (last_push (published o E) q) refl in
                let as_many : length (groups_of q.plan) ≡ length (groups_of o.proposal.plan) = whole ∙ (sym (same_count o.proposal.station q.station agrees) ∙ sym S.whole) in
                step_from C o E (Publish q) v (Published (v.newest.number + 1), record v { newest = record q.plan { number = v.newest.number + 1 } })
                (rw (test, free) refl) (rw (agrees, lt-ltb n (2 ^ 64 - 1) room) (ap (λ (m : ℕ). Published (m + 1)) S.number)) (record {
                  apart = S.apart;
                  whole = S.whole;
                  station = S.station;
                  sources = sources_stay C o E (Publish q) v S none;
                  groups = λ g. group_stays C o E (Publish q) v S g refl refl;
                  sends = λ g p there i s known. remembers_stay C o E (Publish q) g p i (recent_at v.sends g i) refl (S.sends g p there i s known);
                  size = S.size;
                  number = ap (λ (m : ℕ). m + 1) S.number ∙ sym more;
                  newest = sym (ap (λ (p : PlanTable). groups_of p) newest);
                  as_many = as_many;
                })
          ]
    ]

-- ---- every event

pub step_is : AreRecalled → (C : ℕ) (o : Opening) (E : List Event) (e : Event) (v : MachineState) → IsWholeEvent e → StandsForHistory C o E v → Stepped C o E e v
step_is law C o E (Arrive r raw) v w S = arrive_step C o E r raw v S
step_is law C o E (Cell g) v w S = cell_step law C o E g v S (slice_get (groups_of o.proposal.plan) g) refl
step_is law C o E (Frame g) v w S = frame_step C o E g v S (slice_get (groups_of o.proposal.plan) g) refl
step_is law C o E (Publish q) v w S = publish_step C o E q v w S

pub answers_push : (C : ℕ) (o : Opening) (E xs : List Event) (e : Event) → answers C o E (xs ++ e ∷ []) ≡ answers C o E xs ++ Answers.answer C o (E ++ xs) e ∷ []
answers_push C o E [] e = ap (λ (F : List Event). Answers.answer C o F e ∷ []) (sym (append-nil E))
answers_push C o E (x ∷ xs) e =
    ap (λ (ys : List Answer). Answers.answer C o E x ∷ ys) (answers_push C o (E ++ x ∷ []) xs e
    ∙ ap (λ (F : List Event). answers C o (E ++ x ∷ []) xs ++ Answers.answer C o F e ∷ []) (append_assoc E (x ∷ []) xs))
