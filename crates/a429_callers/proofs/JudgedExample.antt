-- The example meets what the laws of judged groups suppose.
use Rattle.std.proofs.Common.{◌≡◌, ◌∙◌, ℕ, zero, suc, ◌+◌, ◌%◌, ◌^◌, ◌<◌, ◌≤◌, Bool, true, false, true≢false, List, [], ◌∷◌, ◌++◌, ◌*◌, length, map, take, sym, ap, subst, refl, inl, inr, arith}
use Rattle.std.specs.Prelude.{Some, None, ◌||◌, ◌&&◌, ◌==◌, nat_le, slice_get, slice_index}
use Rattle.std.specs.List.{list_any}
use Rattle.std.specs.List.Sorted.{IsNonDecreasingBy}
use Rattle.std.proofs.lemmas.List.Sorted.{IsPermutation-refl}
use Rattle.std.proofs.lemmas.Bool.{and_parts, ne_eqb}
use Rattle.std.proofs.lemmas.Bool.Decides.{nat_tests}
use Rattle.std.proofs.lemmas.Option.{none-some, same_Some, slice_get_within}
use Rattle.a429_word.specs.Bits.{ones_from, number_from, reversed_from}
use Rattle.a429_equipment.specs.NameForm.{is_name}
use Rattle.a429_equipment.specs.Sound.{HaveOwn, IsSound}
use Rattle.a429_equipment.specs.declared.rows.GroupRow.{GroupRow}
use Rattle.a429_equipment.specs.declared.rows.OutputRow.{OutputRow}
use Rattle.a429_equipment.specs.declared.rows.ReceiverRow.{ReceiverRow}
use Rattle.a429_equipment.specs.declared.rows.SourceRow.{SourceRow}
use Rattle.a429_grid.specs.Reversal.{reversed}
use Rattle.a429_judge.specs.declared.facts.Mark.{Mark}
use Rattle.a429_judge.specs.Judging.{mark_at, time_at}
use Rattle.a429_judge.specs.Laws.{AreNear, IsPieceOf}
use Rattle.a429_judge.specs.Machine.{known_by, moment_at}
use Rattle.a429_judge.specs.Recordings.{accepted_of, span_of}
use Rattle.a429_pack.specs.Sums.{start_of}
use Rattle.a429_slots.specs.Events.{Event, Arrive, Cell, Frame, Publish}
use Rattle.a429_slots.specs.History.{accepted_by, cell_due, current}
use Rattle.a429_slots.specs.Kept.{StandsJustAt}
use Rattle.a429_slots.specs.Planned.{AreFewestBusesFor, HasPeriod, IsPlannedFor}
use Rattle.a429_slots.specs.Proposed.{Proposed}
use Rattle.a429_slots.specs.Spacing.{HaveOwnPlans}
use Rattle.a429_slots.specs.Tables.{Placed, SlotTable, buses_of, cell_at, demands_of, output_in, outputs_of, placed_at}
use Rattle.a429_core.specs.Histories.{IsCellAt}
use Rattle.a429_core.specs.Latency.{next_slot_on, period_of}
use Rattle.a429_callers.specs.ChangesExample.{source, table_of}
use Rattle.a429_callers.specs.JudgedExample.{MeetsPremisesOfJudging, events, group, log, moments_of, opening, output, row, run, station, timing, words_of}
use Rattle.a429_callers.specs.JudgedGroups.{AreTimed, IsRecordedRun, facts_of}
use Rattle.a429_callers.specs.SlotBoxes.{known_at}
use Rattle.a429_callers.proofs.ChangesExample.{apart, one_bus_for_four, stands_only_four, stands_there_four}
use Rattle.a429_callers.proofs.ManyChangesExample.{each_of}

abbrev table : SlotTable
table = table_of 2 output

-- ---- the plan is that of the table

abbrev rows : List OutputRow
rows = row ∷ []

has_period : HasPeriod 100000 row 2
has_period = ((2, omega arith, refl), (omega arith, omega arith), λ q is within. omega (arith, within.0, within.1))

fewest : AreFewestBusesFor 100000 rows 1
fewest = record { exponents = 2 ∷ []; fit = (has_period, tt); fewest = one_bus_for_four }

stands_only : (bus slot : ℕ) → cell_at table bus slot ≡ Some 0 → (bus ≡ 0) × (slot % 4 ≡ 0)
unfolding cell_at
stands_only bus slot h = stands_only_four bus slot h

stands_there : (bus slot : ℕ) → bus ≡ 0 → slot % 4 ≡ 0 → cell_at table bus slot ≡ Some 0
unfolding cell_at
stands_there bus slot same whole = stands_there_four bus slot same whole

planned : IsPlannedFor 100000 station.sources rows table
planned = record {
  served = ((refl, has_period, refl, (omega arith, λ r more. omega (arith, more))), tt);
  frame = refl;
  order = IsPermutation-refl (0 ∷ []);
  follow = λ k below. absurd (omega (arith, below));
  on_bus = on_bus;
  periodic = periodic;
  fewest = fewest;
  few_buses = omega arith;
  few_slots = omega arith;
}
  where
    on_bus : (n : ℕ) → n < 1 → (placed_at table n).place.bus < buses_of table
    on_bus zero below = omega arith
    on_bus (suc n) below = absurd (omega (arith, below))

    periodic : (n : ℕ) → n < 1 → StandsJustAt table n (placed_at table n).place.bus (placed_at table n).place.offset (2 ^ (placed_at table n).place.period)
    periodic zero below = record { within = omega arith; cells = λ bus slot. (stands_only bus slot, λ h. stands_there bus slot h.0 h.1) }
    periodic (suc n) below = absurd (omega (arith, below))

-- ---- the table is sound

own_one : {X K : Type 0} (key : X → K) (x : X) → HaveOwn key (x ∷ [])
own_one key x zero zero y z a b same = refl
own_one key x zero (suc j) y z a b same = absurd (none-some z b)
own_one key x (suc i) j y z a b same = absurd (none-some y a)

sound : IsSound station
unfolding is_name
sound = record {
  version = inr refl;
  rate = tt;
  one_rate = λ h. absurd (omega (arith, h));
  own_rates = λ h. refl;
  few_receivers = omega arith;
  few_sources = omega arith;
  few_groups = omega arith;
  outputs_of_groups = refl;
  some_outputs = ((omega arith, omega arith), tt);
  known_receivers = (omega arith, tt);
  known_sources = ((omega arith, tt), tt);
  receiver_rows = ((refl, omega arith, tt), tt);
  source_rows = ((refl, omega arith, tt), tt);
  group_rows = ((refl, inl refl), tt);
  intervals = (((omega arith, omega arith, omega arith), tt), tt);
  holds = (((omega arith, omega arith), tt), tt);
  no_holds = λ h. absurd (omega (arith, h));
  apart = apart;
  own_receivers = own_one (λ (r : ReceiverRow). r.name) (record { name = 114 ∷ []; filters = None });
  own_names = own_one (λ (s : SourceRow). s.name) source;
  own_groups = own_one (λ (g : GroupRow). g.name) (record { name = 103 ∷ []; rate = 100000 });
  own_sources = (own_one (λ (o : OutputRow). o.source) row, tt);
}

abbrev is_publish : Event → Bool
is_publish (Publish q) = true
is_publish (Arrive r raw) = false
is_publish (Cell g) = false
is_publish (Frame g) = false

has_publish : (before after : List Event) (q : Proposed) → list_any is_publish (before ++ Publish q ∷ after) ≡ true
has_publish [] after q = refl
has_publish (e ∷ before) after q = elim (is_publish e) as (λ b. (b || list_any is_publish (before ++ Publish q ∷ after)) ≡ true) [ true ↦ refl | false ↦ has_publish before after q ]

own : HaveOwnPlans opening events
own = record {
  opening = record { plan = record { number = refl; count = refl; groups = (planned, tt) }; own = (own_one (λ (o : OutputRow). o.source) row, tt) };
  published = λ before after q split. absurd (true≢false (sym (has_publish before after q) ∙ sym (ap (list_any is_publish) split)));
}

-- ---- cells

-- a place whose cell is empty
empty_at : (k n slot : ℕ) (x : Placed) → IsCellAt run k x slot → cell_due 0 (current opening 0 table (take k events)) ≡ Some (0, n) → output_in (current opening 0 table (take k events)).table 0 n ≡ None → ⊥
empty_at k n slot x I due none =
    let is : (0, n) ≡ I.cell = same_Some (0, n) I.cell (sym due ∙ I.due) in
    none-some x (sym none ∙ (ap (λ (c : ℕ × ℕ). output_in (current opening 0 table (take k events)).table c.0 c.1) is ∙ I.stands))

-- how many words are known at a place, by the log
abbrev IsKnown : ℕ → Placed → ℕ → Type 0
IsKnown k x slot = known_at 41 run x k ≡ known_by (timing.moments x.source) (timing.begin slot)

-- a place with a cell of the output
full : (k n : ℕ) → cell_due 0 (current opening 0 table (take k events)) ≡ Some (0, n) → output_in (current opening 0 table (take k events)).table 0 n ≡ Some output
    → IsKnown k output ((current opening 0 table (take k events)).first + n) → (x : Placed) (slot : ℕ) → IsCellAt run k x slot → IsKnown k x slot
full k n due there known x slot I =
    let is : (0, n) ≡ I.cell = same_Some (0, n) I.cell (sym due ∙ I.due) in
    let same : output ≡ x = same_Some output x (sym there ∙ (ap (λ (c : ℕ × ℕ). output_in (current opening 0 table (take k events)).table c.0 c.1) is ∙ I.stands)) in
    let counted : (current opening 0 table (take k events)).first + n ≡ slot = ap (λ (c : ℕ × ℕ). (current opening 0 table (take k events)).first + c.1) is ∙ sym I.counted in
    subst (λ (y : Placed). IsKnown k y slot) same (subst (IsKnown k output) counted known)

abbrev KnowsAt : ℕ → Type 0
KnowsAt k = (x : Placed) (slot : ℕ) → IsCellAt run k x slot → IsKnown k x slot

empty : (k n : ℕ) → cell_due 0 (current opening 0 table (take k events)) ≡ Some (0, n) → output_in (current opening 0 table (take k events)).table 0 n ≡ None → KnowsAt k
empty k n due none x slot I = absurd (empty_at k n slot x I due none)

other : (k : ℕ) (e : Event) → slice_get events k ≡ Some e → (e ≡ Cell 0 → ⊥) → KnowsAt k
other k e there differs x slot I = absurd (differs (same_Some e (Cell 0) (sym there ∙ I.asked)))

arrives : (raw : ℕ) → Arrive 0 raw ≡ Cell 0 → ⊥
arrives raw h = cc

frames : Frame 0 ≡ Cell 0 → ⊥
frames h = cc

each_knows : (k : ℕ) → 0 ≤ k → k < 19 → KnowsAt k
unfolding cell_at ones_from number_from reversed_from
each_knows k from before =
    each_of KnowsAt 0 19 (
      other 0 (Arrive 0 193) refl (arrives 193),
      (
        full 1 0 refl refl refl,
        (
          empty 2 1 refl refl,
          (
            empty 3 2 refl refl,
            (
              empty 4 3 refl refl,
              (
                other 5 (Frame 0) refl frames,
                (
                  full 6 0 refl refl refl,
                  (
                    empty 7 1 refl refl,
                    (
                      empty 8 2 refl refl,
                      (
                        empty 9 3 refl refl,
                        (
                          other 10 (Frame 0) refl frames,
                          (
                            full 11 0 refl refl refl,
                            (
                              other 12 (Arrive 0 3265) refl (arrives 3265),
                              (
                                empty 13 1 refl refl,
                                (
                                  empty 14 2 refl refl,
                                  (
                                    empty 15 3 refl refl,
                                    (other 16 (Arrive 0 12481) refl (arrives 12481), (other 17 (Frame 0) refl frames, (full 18 0 refl refl refl, tt))),
                                  ),
                                ),
                              ),
                            ),
                          ),
                        ),
                      ),
                    ),
                  ),
                ),
              ),
            ),
          ),
        ),
      ),
    ) k from before

asked : (k : ℕ) → KnowsAt k
asked k x slot I = each_knows k (omega arith) (slice_get_within events k (Cell 0) I.asked) x slot I

-- ---- the logs

rising_one : {X : Type 0} (f : X → ℕ) (x : X) → IsNonDecreasingBy f (x ∷ [])
rising_one f x zero zero d le lt = omega arith
rising_one f x zero (suc j) d le lt = absurd (omega (arith, lt))
rising_one f x (suc i) j d le lt = absurd (omega (arith, le, lt))

rising_more : {X : Type 0} (f : X → ℕ) (x y : X) (xs : List X) → f x ≤ f y → IsNonDecreasingBy f (y ∷ xs) → IsNonDecreasingBy f (x ∷ y ∷ xs)
rising_more f x y xs first rest zero zero d le lt = omega arith
rising_more f x y xs first rest zero (suc j) d le lt = let more = rest 0 j d (omega arith) (omega (arith, lt)) in omega (arith, first, more)
rising_more f x y xs first rest (suc i) zero d le lt = absurd (omega (arith, le))
rising_more f x y xs first rest (suc i) (suc j) d le lt = rest i j d (omega (arith, le)) (omega (arith, lt))

abbrev is_rising : {X : Type 0} → (X → ℕ) → List X → Bool
is_rising f [] = true
is_rising f (x ∷ []) = true
is_rising f (x ∷ y ∷ xs) = nat_le (f x) (f y) && is_rising f (y ∷ xs)

rises : {X : Type 0} (f : X → ℕ) (xs : List X) → is_rising f xs ≡ true → IsNonDecreasingBy f xs
rises f [] h = λ i j d le lt. absurd (omega (arith, lt))
rises f (x ∷ []) h = rising_one f x
rises f (x ∷ y ∷ xs) h =
    let both = and_parts (nat_le (f x) (f y)) (is_rising f (y ∷ xs)) h in
    let first : nat_le (f x) (f y) ≡ true = both.0 in
    let less : f x ≤ f y = grind (arith, nat_tests, first) in
    rising_more f x y xs less (rises f (y ∷ xs) both.1)

-- ---- times

no_words : (n : ℕ) → accepted_of (suc n) log.heard ≡ []
no_words n = let other : (0 == suc n) ≡ false = ne_eqb 0 (suc n) (λ h. omega (arith, h)) in rw other refl

near_moments : (i : ℕ) → i < 3 → (moment_at (moments_of 0) i ≤ time_at (words_of 0) i * 100000 + 6000000) × (time_at (words_of 0) i * 100000 ≤ moment_at (moments_of 0) i + 6000000)
near_moments zero lt = (omega arith, omega arith)
near_moments (suc zero) lt = (omega arith, omega arith)
near_moments (suc (suc zero)) lt = (omega arith, omega arith)
near_moments (suc (suc (suc i))) lt = absurd (omega (arith, lt))

heard_same : (i : ℕ) → i < 2 → mark_at (accepted_of 0 log.heard) i ≡ mark_at (words_of 0) (1 + i)
heard_same zero lt = refl
heard_same (suc zero) lt = refl
heard_same (suc (suc i)) lt = absurd (omega (arith, lt))

piece : (source : ℕ) → IsPieceOf 5000 100000 6000000 (words_of source) (moment_at (moments_of source)) (accepted_of source log.heard)
piece zero = record {
  early = λ i lt. (near_moments i lt).0;
  late = λ i lt. (near_moments i lt).1;
  rise = rises (λ (a : Mark). a.time) (words_of 0) refl;
  skipped = 1;
  within = omega arith;
  same = heard_same;
  rest = λ i le lt. absurd (omega (arith, le, lt));
}
piece (suc n) =
    subst (λ (marks : List Mark). IsPieceOf 5000 100000 6000000 [] (moment_at []) marks) (sym (no_words n)) (record {
      early = λ i lt. absurd (omega (arith, lt));
      late = λ i lt. absurd (omega (arith, lt));
      rise = rises (λ (a : Mark). a.time) [] refl;
      skipped = 0;
      within = omega arith;
      same = λ i lt. absurd (omega (arith, lt));
      rest = λ i le lt. absurd (omega (arith, lt));
    })

moments_rise : (source : ℕ) → IsNonDecreasingBy (λ (m : ℕ). m) (moments_of source)
moments_rise zero = rises (λ (m : ℕ). m) (moments_of 0) refl
moments_rise (suc n) = rises (λ (m : ℕ). m) [] refl

as_many : (source : ℕ) → length (moments_of source) ≡ length (words_of source)
as_many zero = refl
as_many (suc n) = refl

-- only the output is in the table
the_output : (P : Placed → Type 0) (number : ℕ) (x : Placed) → slice_get (outputs_of table) number ≡ Some x → P output → P x
the_output P zero x there here = subst P (same_Some output x there) here
the_output P (suc n) x there here = absurd (none-some x there)

timed : AreTimed group timing
timed = record {
  rise = λ slot. omega arith;
  near = λ number z x listed there. the_output (λ (y : Placed). AreNear (facts_of 100000 720 z y) 1 6000000 40000) number x there
      (record { fine = omega arith; bounded = omega arith; slower = omega arith });
  soonest = λ number slot x there. the_output (λ (y : Placed). timing.begin slot + period_of y.place * 36000000 * 1 ≤ timing.begin (slot + period_of y.place) + 40000) number x there (omega arith);
  latest = λ number slot x there. the_output (λ (y : Placed). timing.begin (slot + period_of y.place) ≤ timing.begin slot + period_of y.place * 36000000 * 1 + 40000) number x there (omega arith);
}

on_bus : (number bus : ℕ) (x : Placed) → slice_get (outputs_of table) number ≡ Some x → Some 0 ≡ Some bus → bus ≡ x.place.bus
on_bus zero bus x there is = sym (same_Some 0 bus is) ∙ ap (λ (y : Placed). y.place.bus) (same_Some output x there)
on_bus (suc n) bus x there is = absurd (none-some x there)

recorded : IsRecordedRun 41 group timing log
unfolding cell_at ones_from number_from reversed_from
recorded = record {
  timed = timed;
  short = omega arith;
  heard = heard;
  many = as_many;
  rise = moments_rise;
  piece = piece;
  asked = asked;
  sent = (
    record { word = refl; bus = λ number bus x there same is. absurd (none-some bus is); early = omega arith; late = omega arith },
    (record { word = refl; bus = λ number bus x there same is. on_bus number bus x there is; early = omega arith; late = omega arith }, tt),
  );
  begun = omega arith;
  opens = omega arith;
  ends = λ number x there. the_output
      (λ (y : Placed). (span_of 0 log).last * (100000 * 1) ≤ timing.begin (next_slot_on run (length events) y.place.bus) + 10000000 + 6000000) number x there (omega arith);
}
  where
    heard : (source : ℕ) → map (λ a. a.raw) (words_of source) ≡ accepted_by 41 opening source events
    heard zero = refl
    heard (suc n) = refl

pub meets : MeetsPremisesOfJudging
unfolding cell_at ones_from number_from reversed_from
meets = record {
  keeps = record { sound = sound; planned = record { apart = apart; opens = refl; own = own }; kept = refl; rated = refl };
  recorded = recorded;
  own = omega arith;
  sends = refl;
}
