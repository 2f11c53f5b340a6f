-- The slots before the first word: in none of them happens anything, and each group has passed its own.
use Rattle.std.proofs.Common.{◌≡◌, ◌∙◌, ◌+◌, ◌*◌, ◌%◌, ◌<◌, ◌≤◌, ℕ, zero, suc, Bool, true, false, inl, inr, List, [], ◌∷◌, ◌++◌, length, length-append, replicate, append_assoc, refl, sym, ap, subst, arith}
use Rattle.std.specs.Prelude.{◌==◌, Option, Some, None, filter_map, if◌then◌else◌, nat_lt, option_map, slice_get, slice_set}
use Rattle.std.specs.List.{AllByRecursion}
use Rattle.std.specs.Option.{option_map_or}
use Rattle.std.proofs.lemmas.Bool.{cases_eq, le-ltb}
use Rattle.std.proofs.lemmas.Grind.{div_ceil_times}
use Rattle.std.proofs.lemmas.List.{length-set, nil_from_length}
use Rattle.std.proofs.lemmas.Nat.{mul-le}
use Rattle.std.proofs.lemmas.Option.{slice_get_cases, slice_get_past, slice_get_within}
use Rattle.a429_word.proofs.Lists.{get_set_other, get_set_same, none_cut}
use Rattle.a429_equipment.specs.Sound.{OfEach}
use Rattle.a429_grid.specs.Grid.{slot_time}
use Rattle.a429_slots.specs.Events.{Event}
use Rattle.a429_slots.specs.FrameStates.{FrameState, frame_state_of}
use Rattle.a429_slots.specs.History.{current, last_of, numbers_left}
use Rattle.a429_slots.specs.Planned.{IsPlannedAt, rated_outputs}
use Rattle.a429_slots.specs.Proposed.{Proposed}
use Rattle.a429_slots.specs.Tables.{PlanTable, SlotTable, buses_of, frame_of, groups_of}
use Rattle.a429_slots.proofs.SpacedTables.{row_of}
use Rattle.a429_core.specs.MachineStates.{GoesOnByEvents, IsWholeEvent, MachineState}
use Rattle.a429_core.specs.MachineSteps.{CallsAreAnswered, OtherCellsHaveNoWord, stepped}
use Rattle.a429_core.specs.Passed.{after_slots, groups_passed}
use Rattle.a429_recordings.specs.SimulationRuns.{StandsAfter, groups_at, put_at}
use Rattle.a429_recordings.specs.Simulating.{Step, Asks, Turns, happenings_of, history_of, opening_of, steps_in, steps_of, turn_after}
use Rattle.a429_recordings.specs.Timeline.{HasHappened, rate_of, slots_before, slots_by, table_of, word_of}
use Rattle.a429_recordings.specs.Tracks.{AreTracks, HasTracks, IsTrack, StartsAt, next_at, silent_until}
use Rattle.a429_recordings.specs.declared.simulate.log.LogWord.{LogWord}
use Rattle.a429_recordings.specs.declared.simulate.machine.Run.{Run}
use Rattle.a429_recordings.specs.declared.simulate.moments.Moment.{Moment}
use Rattle.a429_recordings.specs.declared.simulate.moments.Moment.TheVariants.{Word, Slot}
use Rattle.a429_recordings.specs.declared.simulate.tracks.Track.{Track}
use Rattle.a429_recordings.proofs.EarlySlots.{AreBounds, happen}
use Rattle.a429_recordings.proofs.Silence.{IsQuiet, all_pass, idle_at_first, with_groups}
use Rattle.a429_recordings.proofs.SimulatedSteps.{table_at}
use Rattle.a429_recordings.proofs.SlotTimes.{state_at}

-- ---- steps of slots alone

module _ (q : Proposed) where
  quiet_cells : (g t m : ℕ) (rest : List Step) → AllByRecursion IsQuiet rest → AllByRecursion IsQuiet (replicate m (Asks g t) ++ rest)
  quiet_cells g t zero rest all = all
  quiet_cells g t (suc m) rest all = (tt, quiet_cells g t m rest all)

  quiet_turn : (g : ℕ) (over : Bool) (rest : List Step) → AllByRecursion IsQuiet rest → AllByRecursion IsQuiet ((if over then Turns g ∷ [] else []) ++ rest)
  quiet_turn g false rest all = all
  quiet_turn g true rest all = (tt, all)

  quiet_slot : (g t : ℕ) (rest : List Step) → AllByRecursion IsQuiet rest → AllByRecursion IsQuiet (steps_in q (Slot g t) ++ rest)
  unfolding steps_in
  quiet_slot g t rest all =
      let cells = replicate (buses_of (table_of q g)) (Asks g t) in
      subst (AllByRecursion IsQuiet) (sym (append_assoc cells (turn_after q g t) rest))
      (quiet_cells g t (buses_of (table_of q g)) (turn_after q g t ++ rest) (quiet_turn g ((t + 1) % frame_of (table_of q g) == 0) rest all))

  quiet_steps : (M : List Moment) → filter_map word_of M ≡ [] → AllByRecursion IsQuiet (steps_of q M)
  quiet_steps [] none = tt
  quiet_steps (Word w ∷ M) none = absurd (cc none)
  quiet_steps (Slot g t ∷ M) none = quiet_slot g t (steps_of q M) (quiet_steps M none)

none_before : {X : Type 0} (xs ys : List X) → xs ++ ys ≡ ys → xs ≡ []
none_before xs ys is = nil_from_length xs (omega (arith, length-append xs ys, ap length is))

-- ---- the groups

module _ (newest : PlanTable) (tracks : List Track) where
  abbrev put : List FrameState → ℕ → List FrameState
  put G n = groups_at G newest tracks n

  passed_by : (G : List FrameState) (n : ℕ) (x : Option SlotTable) → length (option_map_or (λ p. slice_set G n (after_slots p (next_at tracks n))) x G) ≡ length G
  passed_by G n None = refl
  passed_by G n (Some p) = length-set G n (after_slots p (next_at tracks n))

  pub put_many : (G : List FrameState) (n : ℕ) → length (put G n) ≡ length G
  put_many G zero = refl
  put_many G (suc n) = passed_by (put G n) n (slice_get (groups_of newest) n) ∙ put_many G n

  put_other : (G : List FrameState) (n g : ℕ) → (g ≡ n → ⊥) → (x : Option SlotTable)
      → slice_get (option_map_or (λ p. slice_set G n (after_slots p (next_at tracks n))) x G) g ≡ slice_get G g
  put_other G n g other None = refl
  put_other G n g other (Some p) = get_set_other G n g (after_slots p (next_at tracks n)) other

  pub put_own : (G : List FrameState) (n g : ℕ) (p : SlotTable) → g < n → g < length G → slice_get (groups_of newest) g ≡ Some p
      → slice_get (put G n) g ≡ Some (after_slots p (next_at tracks g))
  put_own G zero g p below within there = absurd (omega (arith, below))
  put_own G (suc n) g p below within there = elim (cases_eq g n) [
    | inl same ↦
        let here : slice_get (groups_of newest) n ≡ Some p = subst (λ (k : ℕ). slice_get (groups_of newest) k ≡ Some p) same there in
        let state : FrameState = after_slots p (next_at tracks n) in
        let set : groups_passed (put G n) newest n (next_at tracks n) ≡ slice_set (put G n) n state = rw here refl in
        let own : slice_get (slice_set (put G n) n state) n ≡ Some state = get_set_same (put G n) n state (omega (arith, put_many G n, within, same)) in
        subst (λ (k : ℕ). slice_get (put G (suc n)) k ≡ Some (after_slots p (next_at tracks k))) (sym same) (ap (λ (xs : List FrameState). slice_get xs n) set ∙ own)
    | inr other ↦ put_other (put G n) n g other (slice_get (groups_of newest) n) ∙ put_own G n g p (omega (arith, below, other)) within there
  ]

-- the same machine with its groups at the same places
same_groups : (q : Proposed) (past : List Step) (r : Run) (G H : List FrameState) → StandsAfter q past (with_groups r G)
    → ((g : ℕ) (p : SlotTable) → slice_get (groups_of q.plan) g ≡ Some p → slice_get H g ≡ Some (frame_state_of g (current (opening_of q) g p (history_of past))))
    → length H ≡ length (groups_of q.plan) → StandsAfter q past (with_groups r H)
same_groups q past r G H S at many = record {
  sound = S.sound;
  planned = S.planned;
  state = record {
    apart = S.state.apart;
    whole = S.state.whole;
    station = S.state.station;
    sources = S.state.sources;
    groups = λ g. by g (slice_get (groups_of q.plan) g) refl;
    sends = S.state.sends;
    size = many;
    number = S.state.number;
    newest = S.state.newest;
    as_many = S.state.as_many;
  };
  many = S.many;
  heard = S.heard;
}
  where
    by : (g : ℕ) (x : Option SlotTable) → slice_get (groups_of q.plan) g ≡ x → slice_get H g ≡ option_map (λ p. frame_state_of g (current (opening_of q) g p (history_of past))) x
    by g (Some p) there = at g p there
    by g None none = elim (slice_get_cases (groups_of q.plan) g).1 [
      | inl hit ↦ absurd (cc (none, hit.2))
      | inr miss ↦ slice_get_past H g (omega (arith, many, miss.0))
    ]

-- ---- the bounds

module _ (q : Proposed) (words : List LogWord) (last : ℕ) (tracks : List Track) (A : AreTracks q last tracks) (sound : OfEach IsTrack tracks)
    (starts : OfEach (StartsAt (silent_until words last)) tracks) where
  abbrev start : ℕ
  start = silent_until words last

  pub some_rate : (g : ℕ) → 1 ≤ rate_of q g
  some_rate g = elim (slice_get_cases tracks g).1 [
    | inl hit ↦ omega (arith, A.rates g hit.0 hit.2, (sound g hit.0 hit.2).some_rate)
    | inr miss ↦
        let none : slice_get q.station.groups g ≡ None = slice_get_past q.station.groups g (omega (arith, A.many, miss.0)) in
        let one : rate_of q g ≡ 1 = rw none refl in
        omega (arith, one)
  ]

  not_after : (ws : List LogWord) (w : LogWord) (vs : List LogWord) → ws ≡ w ∷ vs → silent_until ws last ≤ w.time
  not_after ws w vs is = subst (λ (xs : List LogWord). silent_until xs last ≤ w.time) (sym is) (omega arith)

  -- slots that begin before the start
  slot_low : (t rate : ℕ) → t < slots_before rate start → t * slot_time < start * rate
  slot_low t rate low =
      let up = (div_ceil_times (start * rate) slot_time (omega arith)).1 in
      omega (arith, up, low, mul-le (t + 1) slot_time (slots_before rate start) slot_time (omega (arith, low)) (omega arith))

  slot_high : (rate : ℕ) → start * rate ≤ slots_before rate start * slot_time
  slot_high rate = (div_ceil_times (start * rate) slot_time (omega arith)).0

  next_by : (g : ℕ) (x : Track) → slice_get tracks g ≡ Some x → next_at tracks g ≡ slots_before (rate_of q g) start
  next_by g x here =
      let own : next_at tracks g ≡ x.next = rw here refl in
      own ∙ (starts g x here ∙ ap (λ (r : ℕ). slots_before r start) (A.rates g x here))

  pub bounds : AreBounds q some_rate words start last (next_at tracks)
  bounds = record {
    few = λ g. elim (slice_get_cases tracks g).1 [
      | inl hit ↦ let own : next_at tracks g ≡ hit.0.next = rw hit.2 refl in omega (arith, own, A.slots g hit.0 hit.2, (sound g hit.0 hit.2).within)
      | inr miss ↦ let own : next_at tracks g ≡ 0 = rw miss.1 refl in omega (arith, own)
    ];
    before = λ g t low. elim (slice_get_cases tracks g).1 [
      | inl hit ↦ slot_low t (rate_of q g) (omega (arith, low, next_by g hit.0 hit.2))
      | inr miss ↦ let own : next_at tracks g ≡ 0 = rw miss.1 refl in absurd (omega (arith, own, low))
    ];
    after = λ g left. elim (slice_get_cases tracks g).1 [
      | inl hit ↦ subst (λ (n : ℕ). start * rate_of q g ≤ n * slot_time) (sym (next_by g hit.0 hit.2)) (slot_high (rate_of q g))
      | inr miss ↦
          let none : slots_by q last g ≡ 0 = none_by g miss.0 in
          absurd (omega (arith, none, left))
    ];
    early = λ w ws is. not_after words w ws is;
  }
    where
      none_by : (g : ℕ) → length tracks ≤ g → slots_by q last g ≡ 0
      none_by g past = let out : nat_lt g (length q.station.groups) ≡ false = le-ltb g (length q.station.groups) (omega (arith, A.many, past)) in rw out refl

  -- ---- the machine and the timeline at the start

  pub record StartsSilent (r : Run) : Type 0 where
    pub moments : List Moment
    pub happened : HasHappened q words last moments words (next_at tracks)
    pub stands : StandsAfter q (steps_of q moments) (put_at r tracks)
    pub quiet : happenings_of q (steps_of q moments) ≡ []

  module _ (calls : CallsAreAnswered) (goes : (C : ℕ) (e : Event) (v : MachineState) → IsWholeEvent e → GoesOnByEvents C v (e ∷ []) (stepped C v e).1) (unsent : OtherCellsHaveNoWord) where
    pub starts_silent : (r : Run) → HasTracks q tracks → StandsAfter q [] r → StartsSilent r
    starts_silent r as_many S =
        let (M, H) = happen q some_rate words start last (next_at tracks) bounds in
        let P = all_pass calls goes unsent q (steps_of q M) [] r (quiet_steps q M (none_before (filter_map word_of M) words H.words_are)) S (idle_at_first q r S) in
        let v = r.state in
        let n = length tracks in
        let newest : groups_of v.newest ≡ groups_of q.plan =
        S.state.newest ∙ ap (λ (ps : List Proposed). groups_of (option_map_or (λ p. p.plan) (last_of ps) q.plan)) (none_cut (numbers_left (opening_of q))) in
        record {
          moments = M;
          happened = H;
          stands = same_groups q (steps_of q M) r P.groups (groups_at v.groups v.newest tracks n) P.stands
              (λ g p there.
              let R = row_of (IsPlannedAt q.station.sources) (rated_outputs q.station) (groups_of q.plan) g p S.planned.groups there in
              let table : table_of q g ≡ p = table_at q g p there in
              let opens : slice_get (groups_of q.plan) g ≡ Some (table_of q g) = there ∙ ap (λ (t : SlotTable). Some t) (sym table) in
              let low : next_at tracks g ≤ 300000000000 = few_slots g in
              let few : frame_of (table_of q g) ≤ 8192 = subst (λ (t : SlotTable). frame_of t ≤ 8192) (sym table) R.related.few_slots in
              let is = state_at q g opens M (next_at tracks g) (omega (arith, low, few)) (H.slots_are g) in
              put_own v.newest tracks v.groups n g p (omega (arith, as_many.1, slice_get_within (groups_of q.plan) g p there))
              (omega (arith, S.state.size, slice_get_within (groups_of q.plan) g p there)) (ap (λ (ts : List SlotTable). slice_get ts g) newest ∙ there)
              ∙ ap (λ (s : FrameState). Some s) (subst (λ (t : SlotTable). after_slots t (next_at tracks g) ≡ frame_state_of g (current (opening_of q) g t (history_of (steps_of q M)))) table (sym is)))
              (put_many v.newest tracks v.groups n ∙ S.state.size);
          quiet = P.quiet;
        }
      where
        few_slots : (g : ℕ) → next_at tracks g ≤ 300000000000
        few_slots g = elim (slice_get_cases tracks g).1 [
          | inl hit ↦ let own : next_at tracks g ≡ hit.0.next = rw hit.2 refl in omega (arith, own, (sound g hit.0 hit.2).within, (sound g hit.0 hit.2).few_slots)
          | inr miss ↦ let own : next_at tracks g ≡ 0 = rw miss.1 refl in omega (arith, own)
        ]
