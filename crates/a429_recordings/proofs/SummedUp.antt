-- The summary of a whole timeline: how many words an output can have sent, and the rows.
use Rattle.std.proofs.Common.{◌≡◌, ◌∙◌, ◌+◌, ◌-◌, ◌*◌, ◌%◌, ◌^◌, ◌<◌, ◌≤◌, ℕ, zero, suc, Bool, true, false, List, [], ◌∷◌, ◌++◌, length, length-append, append-nil, append_assoc, map, replicate, refl, sym, ap, ap₂, subst, arith}
use Rattle.std.specs.Prelude.{◌==◌, ◌&&◌, Option, Some, None, if◌then◌else◌, filter_map, min, nat_lt, slice_get, unwrap_or}
use Rattle.std.specs.List.{AllByRecursion, AllZip, flat_map, range_with_len}
use Rattle.std.proofs.lemmas.Bool.{ltb-true}
use Rattle.std.proofs.lemmas.List.{map-append}
use Rattle.std.proofs.lemmas.List.Concat.{flat_map-append}
use Rattle.std.proofs.lemmas.List.Elements.{filter_map-append}
use Rattle.std.proofs.lemmas.List.FromFn.{length-range_with_len}
use Rattle.std.proofs.lemmas.Option.{get_or_from_slice_get}
use Rattle.a429_text.specs.Fields.{Field}
use Rattle.a429_word.proofs.Lists.{all_at, get_within, range_next}
use Rattle.a429_equipment.specs.Sound.{IsSound, OfEach}
use Rattle.a429_equipment.specs.declared.rows.OutputRow.{OutputRow}
use Rattle.a429_equipment.specs.declared.rows.SourceRow.{SourceRow}
use Rattle.a429_slots.specs.Planned.{IsPlanOf, IsPlannedAt, rated_outputs}
use Rattle.a429_slots.specs.Proposed.{Proposed}
use Rattle.a429_slots.specs.Tables.{Placed, SlotTable, buses_of, frame_of, groups_of, no_table, outputs_of, placed_at, unplaced}
use Rattle.a429_slots.specs.declared.answers.Answer.{Answer}
use Rattle.a429_slots.specs.declared.answers.Answer.TheVariants.{Accepted, Sent, Changed, Published, Refused}
use Rattle.a429_slots.proofs.Known.{sources_known}
use Rattle.a429_recordings.specs.Simulating.{Step, Asks, Comes, Turns, answer_after, happening_after, happening_by, happenings_after, happenings_of, last_word, listed, source_in, steps_in, steps_of, times_of, turn_after}
use Rattle.a429_recordings.specs.Summary.{bound_fields, group_rows, name_fields, send_fields, send_in, sends_of, summary_row, summary_rows}
use Rattle.a429_recordings.specs.SummaryRuns.{HasFigures, figure_fields, figures_of, kept_at, kept_group, kept_row, kept_rows, nothing_sent}
use Rattle.a429_recordings.specs.Timeline.{IsTimeline, rate_of, slot_of, slots_by, table_of}
use Rattle.a429_recordings.specs.Tracks.{AreTracks, IsTrack}
use Rattle.a429_recordings.specs.declared.simulate.figures.OutputFigures.{OutputFigures}
use Rattle.a429_recordings.specs.declared.simulate.figures.OutputSend.{OutputSend}
use Rattle.a429_recordings.specs.declared.simulate.figures.Summary.{Summary}
use Rattle.a429_recordings.specs.declared.simulate.log.LogWord.{LogWord}
use Rattle.a429_recordings.specs.declared.simulate.machine.Happening.{Happening}
use Rattle.a429_recordings.specs.declared.simulate.moments.Moment.{Moment}
use Rattle.a429_recordings.specs.declared.simulate.moments.Moment.TheVariants.{Word, Slot}
use Rattle.a429_recordings.specs.declared.simulate.tracks.Track.{Track}
use Rattle.a429_recordings.proofs.SimulatedSteps.{table_at}

-- ---- how often a group is asked

one_if : Bool → ℕ
one_if true = 1
one_if false = 0

asked_in : ℕ → Step → ℕ
asked_in g (Comes w) = 0
asked_in g (Asks h t) = one_if (h == g)
asked_in g (Turns h) = 0

asked : ℕ → List Step → ℕ
asked g [] = 0
asked g (s ∷ steps) = asked_in g s + asked g steps

asked-append : (g : ℕ) (xs ys : List Step) → asked g (xs ++ ys) ≡ asked g xs + asked g ys
unfolding asked
asked-append g [] ys = omega arith
asked-append g (x ∷ xs) ys = let later = asked-append g xs ys in omega (arith, later)

asked_turn : (g h : ℕ) (over : Bool) → asked g (if over then Turns h ∷ [] else []) ≡ 0
unfolding asked asked_in
asked_turn g h true = refl
asked_turn g h false = refl

asked_cells : (g h t n : ℕ) → asked g (replicate n (Asks h t)) ≡ n * one_if (h == g)
unfolding asked asked_in
asked_cells g h t zero = omega arith
asked_cells g h t (suc n) = let later = asked_cells g h t n in omega (arith, later)

slots_listed : (g h t : ℕ) (own : Bool) → (h == g) ≡ own → length (filter_map (slot_of g) (Slot h t ∷ [])) ≡ one_if own
unfolding one_if
slots_listed g h t true is = rw is refl
slots_listed g h t false is = rw is refl

few_asked : (n : ℕ) (own : Bool) → n ≤ 16 → n * one_if own ≤ 16 * one_if own
unfolding one_if
few_asked n true few = omega (arith, few)
few_asked n false few = omega arith

-- a slot has no more than 16 cells
asked_moment : (q : Proposed) (g : ℕ) (m : Moment) → ((h : ℕ) → buses_of (table_of q h) ≤ 16) → asked g (steps_in q m) ≤ 16 * length (filter_map (slot_of g) (m ∷ []))
unfolding steps_in asked asked_in
asked_moment q g (Word w) few = omega arith
asked_moment q g (Slot h t) few =
    let n : ℕ = buses_of (table_of q h) in
    let both = asked-append g (replicate n (Asks h t)) (turn_after q h t) in
    omega (arith, both, asked_cells g h t n, asked_turn g h ((t + 1) % frame_of (table_of q h) == 0), slots_listed g h t (h == g) refl, few_asked n (h == g) (few h))

asked_all : (q : Proposed) (g : ℕ) (M : List Moment) → ((h : ℕ) → buses_of (table_of q h) ≤ 16) → asked g (steps_of q M) ≤ 16 * length (filter_map (slot_of g) M)
unfolding asked
asked_all q g [] few = omega arith
asked_all q g (m ∷ M) few =
    let whole = filter_map-append (slot_of g) (m ∷ []) M in
    omega (arith, asked-append g (steps_in q m) (steps_of q M), asked_moment q g m few, asked_all q g M few, ap length whole, length-append (filter_map (slot_of g) (m ∷ [])) (filter_map (slot_of g) M))

-- ---- how many words a group sends of a source

few_by : (q : Proposed) (g i : ℕ) (times : ℕ → List ℕ) (step : Step) (a : Answer) → length (sends_of g i (listed (happening_by q times step a))) ≤ asked_in g step
unfolding asked_in one_if
few_by q g i times (Comes w) (Refused why) = omega arith
few_by q g i times (Comes w) (Accepted source) = omega arith
few_by q g i times (Comes w) (Sent bus slot word) = omega arith
few_by q g i times (Comes w) (Changed plan) = omega arith
few_by q g i times (Comes w) (Published plan) = omega arith
few_by q g i times (Turns h) a = omega arith
few_by q g i times (Asks h t) (Sent bus slot (Some raw)) = few_if (h == g) (source_in q h bus slot == i)
  where
    few_if : (a b : Bool) → length (filter_map (λ (x : Option OutputSend). x) ((if a && b then Some (record { slot = t; word = length (times (source_in q h bus slot)); time = (last_word (times (source_in q h bus slot))).time }) else None) ∷ [])) ≤ one_if a
    few_if true true = omega arith
    few_if true false = omega arith
    few_if false b = omega arith
few_by q g i times (Asks h t) (Sent bus slot None) = omega arith
few_by q g i times (Asks h t) (Accepted source) = omega arith
few_by q g i times (Asks h t) (Changed plan) = omega arith
few_by q g i times (Asks h t) (Published plan) = omega arith
few_by q g i times (Asks h t) (Refused why) = omega arith

few_sends : (q : Proposed) (g i : ℕ) (past steps : List Step) → length (sends_of g i (happenings_after q past steps)) ≤ asked g steps
unfolding asked
few_sends q g i past [] = omega arith
few_sends q g i past (s ∷ steps) =
    let one = listed (happening_after q past s) in
    let rest = happenings_after q (past ++ s ∷ []) steps in
    omega (arith, few_by q g i (times_of q past) s (answer_after q past s), few_sends q g i (past ++ s ∷ []) steps, ap length (filter_map-append (send_in g i) one rest), length-append (sends_of g i one) (sends_of g i rest))

groups_few : (sources : List SourceRow) (rated : List (ℕ × List OutputRow)) (groups : List SlotTable) → AllZip (IsPlannedAt sources) rated groups
    → (g : ℕ) → buses_of (unwrap_or (slice_get groups g) no_table) ≤ 16
groups_few sources [] [] planned g = omega arith
groups_few sources [] (t ∷ ts) planned g = absurd planned
groups_few sources (rows ∷ rated) [] planned g = absurd planned
groups_few sources (rows ∷ rated) (t ∷ ts) (one, later) zero = one.few_buses
groups_few sources (rows ∷ rated) (t ∷ ts) (one, later) (suc g) = groups_few sources rated ts later g

-- a group has no more slots than its track
pub slots_few : (q : Proposed) (last : ℕ) (tracks : List Track) → AreTracks q last tracks → OfEach IsTrack tracks → (g : ℕ) → slots_by q last g ≤ 300000000000
slots_few q last tracks T sound g = by (nat_lt g (length q.station.groups)) refl
  where
    by : (b : Bool) → nat_lt g (length q.station.groups) ≡ b → slots_by q last g ≤ 300000000000
    by true within =
        let below : g < length q.station.groups = ltb-true g (length q.station.groups) within in
        let (x, there) = get_within tracks g (omega (arith, T.many, below)) in
        omega (arith, T.slots g x there, (sound g x there).few_slots)
    by false past = rw past (omega arith)

pub sends_counted : (q : Proposed) (words : List LogWord) (last : ℕ) (M : List Moment) → IsTimeline q words last M → IsPlanOf q.station q.plan
    → ((g : ℕ) → slots_by q last g ≤ 300000000000) → (g i : ℕ) → length (sends_of g i (happenings_of q (steps_of q M))) ≤ 2 ^ 64 - 1
sends_counted q words last M timeline planned slots g i =
    let buses = groups_few q.station.sources (rated_outputs q.station) (groups_of q.plan) planned.groups in
    let count : length (filter_map (slot_of g) M) ≡ slots_by q last g = ap length (timeline.slots_are g) ∙ length-range_with_len 0 (slots_by q last g) in
    omega (arith, few_sends q g i [] (steps_of q M), asked_all q g M buses, count, slots g)

-- ---- rows

range_more : (n : ℕ) → range_with_len 0 (n + 1) ≡ range_with_len 0 n ++ n ∷ []
range_more n =
    let one : n + 1 ≡ suc n = omega arith in
    let own : 0 + n ≡ n = omega arith in
    ap (range_with_len 0) one ∙ (range_next 0 n ∙ ap (λ (m : ℕ). range_with_len 0 n ++ m ∷ []) own)

-- an output more
pub rows_more : {X : Type 0} (f : ℕ → X) (old rows new : List X) (n : ℕ) (x : X) → rows ≡ old ++ map f (range_with_len 0 n) → new ≡ rows ++ x ∷ [] → x ≡ f n
    → new ≡ old ++ map f (range_with_len 0 (n + 1))
rows_more f old rows new n x so now is =
    now ∙ (ap₂ (λ ys y. ys ++ y ∷ []) so is ∙ (append_assoc old (map f (range_with_len 0 n)) (f n ∷ [])
    ∙ ap (λ ys. old ++ ys) (sym (ap (map f) (range_more n) ∙ map-append f (range_with_len 0 n) (n ∷ [])))))

-- a group more
pub groups_more : {X : Type 0} (f : ℕ → List X) (old rows new : List X) (n : ℕ) → rows ≡ old ++ flat_map f (range_with_len 0 n) → new ≡ rows ++ f n
    → new ≡ old ++ flat_map f (range_with_len 0 (n + 1))
groups_more f old rows new n so now =
    now ∙ (ap (λ ys. ys ++ f n) so ∙ (append_assoc old (flat_map f (range_with_len 0 n)) (f n)
    ∙ ap (λ ys. old ++ ys) (sym (ap (flat_map f) (range_more n) ∙ (flat_map-append f (range_with_len 0 n) (n ∷ []) ∙ ap (λ ys. flat_map f (range_with_len 0 n) ++ ys) (append-nil (f n)))))))

map_range : {X : Type 0} (f h : ℕ → X) (a n : ℕ) → ((k : ℕ) → k < a + n → f k ≡ h k) → map f (range_with_len a n) ≡ map h (range_with_len a n)
map_range f h a zero same = refl
map_range f h a (suc n) same = ap₂ (λ x xs. x ∷ xs) (same a (omega arith)) (map_range f h (a + 1) n (λ k below. same k (omega (arith, below))))

flat_map_range : {X : Type 0} (f h : ℕ → List X) (a n : ℕ) → ((k : ℕ) → k < a + n → f k ≡ h k) → flat_map f (range_with_len a n) ≡ flat_map h (range_with_len a n)
flat_map_range f h a zero same = refl
flat_map_range f h a (suc n) same = ap₂ (λ x y. x ++ y) (same a (omega arith)) (flat_map_range f h (a + 1) n (λ k below. same k (omega (arith, below))))

-- a group of the plan, and the source of an output in it, have figures
module _ (q : Proposed) (sound : IsSound q.station) (planned : IsPlanOf q.station q.plan) where
  group_few : (g : ℕ) → g < length (groups_of q.plan) → g < 8
  group_few g below = omega (arith, below, planned.count, sound.few_groups)

  source_few : (g o : ℕ) → g < length (groups_of q.plan) → o < length (outputs_of (table_of q g)) → (placed_at (table_of q g) o).source < 256
  source_few g o below within =
      let (t, there) = get_within (groups_of q.plan) g below in
      let same : table_of q g ≡ t = table_at q g t there in
      let known = subst (λ (u : SlotTable). AllByRecursion (λ (p : Placed). p.source < length q.station.sources) (outputs_of u)) (sym same) (sources_known q.station q.plan g t sound planned there) in
      let (p, listed) = get_within (outputs_of (table_of q g)) o within in
      let is : placed_at (table_of q g) o ≡ p = get_or_from_slice_get (outputs_of (table_of q g)) o p unplaced listed in
      omega (arith, ap (λ (x : Placed). x.source) is, all_at (λ (x : Placed). x.source < length q.station.sources) (outputs_of (table_of q g)) o p known listed, sound.few_sources)

  module _ (told : List Happening) (s : Summary) (F : HasFigures q told s.figures.items) (few : (g i : ℕ) → length (sends_of g i told) ≤ 2 ^ 64 - 1) where
    fields_are : (g i : ℕ) → figure_fields (figures_of (rate_of q g) (sends_of g i told)) ≡ send_fields (rate_of q g) (sends_of g i told)
    fields_are g i =
        let count : min (length (sends_of g i told)) (2 ^ 64 - 1) ≡ length (sends_of g i told) = omega (arith, few g i) in
        rw count refl

    row_is : (g o : ℕ) → g < length (groups_of q.plan) → o < length (outputs_of (table_of q g)) → kept_row q s g o ≡ summary_row q told g o
    row_is g o below within =
        let i : ℕ = (placed_at (table_of q g) o).source in
        let kept : kept_at s g i ≡ figures_of (rate_of q g) (sends_of g i told) =
        ap (λ (x : Option OutputFigures). unwrap_or x nothing_sent) (F g i (group_few g below) (source_few g o below within)) in
        ap (λ (fields : List Field). name_fields q.station g o ++ fields ++ bound_fields (rate_of q g) (placed_at (table_of q g) o)) (ap figure_fields kept ∙ fields_are g i)

    group_is : (g : ℕ) → g < length (groups_of q.plan) → kept_group q s g ≡ group_rows q told g
    group_is g below = map_range (kept_row q s g) (summary_row q told g) 0 (length (outputs_of (table_of q g))) (λ o within. row_is g o below (omega (arith, within)))

    pub rows_are : kept_rows q s ≡ summary_rows q told
    rows_are = flat_map_range (kept_group q s) (group_rows q told) 0 (length (groups_of q.plan)) (λ g below. group_is g (omega (arith, below)))
