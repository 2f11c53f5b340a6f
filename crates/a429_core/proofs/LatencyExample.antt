-- The example meets what the law of latency supposes.
use Rattle.std.proofs.Common.{◌≡◌, ℕ, zero, suc, ◌+◌, ◌%◌, ◌^◌, ◌<◌, ◌≤◌, Bool, true, false, true≢false, List, [], ◌∷◌, ◌++◌, take, ◌∙◌, sym, ap, subst, refl, inl, inr, arith}
use Rattle.std.specs.Prelude.{Some, None, ◌||◌, slice_get, slice_index}
use Rattle.std.specs.List.{list_any}
use Rattle.std.proofs.lemmas.List.Sorted.{IsPermutation-refl}
use Rattle.std.proofs.lemmas.Bool.{cases_eq, eq-eqb, ne_eqb}
use Rattle.std.proofs.lemmas.Option.{none-some, same_Some}
use Rattle.a429_word.specs.Bits.{ones_from, number_from, reversed_from}
use Rattle.a429_equipment.specs.Arrivals.{SourcesAreApart}
use Rattle.a429_equipment.specs.Sound.{HaveOwnSources}
use Rattle.a429_equipment.specs.declared.rows.OutputRow.{OutputRow}
use Rattle.a429_slots.specs.Tables.{Placed, buses_of, cell_at, outputs_of, placed_at}
use Rattle.a429_slots.specs.Kept.{StandsJustAt}
use Rattle.a429_pack.specs.Schedules.{RecursWithin, Schedule}
use Rattle.a429_slots.specs.Planned.{AreFewestBusesFor, HasPeriod, IsPlannedFor}
use Rattle.a429_slots.specs.Proposed.{Proposed}
use Rattle.a429_slots.specs.Events.{Event, Arrive, Cell, Frame, Publish}
use Rattle.a429_slots.specs.History.{cell_due, current}
use Rattle.a429_slots.specs.Spacing.{HaveOwnPlans}
use Rattle.a429_core.specs.Latency.{EachOutput, IsAcceptedBefore, KeepsOutput, MaySend}
use Rattle.a429_core.specs.LatencyExample.{MeetsPremises, at, history, opening, run, station, table}
use Rattle.a429_core.proofs.Rounds.{one_plan_keeps}

-- ---- the plan is that of the table

abbrev row : OutputRow
row = record { source = 0; min_us = 720; max_us = 720; hold = None }

abbrev rows : List OutputRow
rows = row ∷ []

has_period : HasPeriod 100000 row 1
has_period = ((1, omega arith, refl), (omega arith, omega arith), λ q is within. omega (arith, within.0, within.1))

-- one cell after another has the output
abbrev one_row : Schedule
one_row = record { rows = 1; slots = 2; cell = λ bus slot. Some 0 }

fewest : AreFewestBusesFor 100000 rows 1
fewest = record {
  exponents = 1 ∷ [];
  fit = (has_period, tt);
  fewest = record {
    enough = (
      one_row,
      refl,
      record {
        names = λ bus slot output on in_time is. omega (arith, same_Some 0 output is);
        long = omega arith;
        recurs = recurs;
      },
    );
    least = λ s S. let (bus, slot, inside, from, before, is) = S.recurs 0 (omega arith) 0 S.long in omega (arith, inside);
  };
}
  where
    recurs : (output : ℕ) → output < 1 → RecursWithin (slice_index (2 ∷ []) output) output one_row
    recurs zero below from few = (0, from, omega arith, omega arith, omega arith, refl)
    recurs (suc output) below from few = absurd (omega (arith, below))

stands_only : (bus slot : ℕ) → cell_at table bus slot ≡ Some 0 → (bus ≡ 0) × (slot % 2 ≡ 0)
unfolding cell_at
stands_only bus slot h = elim (cases_eq 0 bus) [
  | inr other ↦ let none : cell_at table bus slot ≡ None = rw (ne_eqb 0 bus other) refl in absurd (none-some 0 (sym none ∙ h))
  | inl same ↦ elim (cases_eq (slot % 2) 0) [
    | inl even ↦ (sym same, even)
    | inr odd ↦ let none : cell_at table bus slot ≡ None = rw (eq-eqb 0 bus same, ne_eqb (slot % 2) 0 odd) refl in absurd (none-some 0 (sym none ∙ h))
  ]
]

stands_there : (bus slot : ℕ) → bus ≡ 0 → slot % 2 ≡ 0 → cell_at table bus slot ≡ Some 0
unfolding cell_at
stands_there bus slot same even = rw (eq-eqb 0 bus (sym same), eq-eqb (slot % 2) 0 even) refl

planned : IsPlannedFor 100000 station.sources rows table
planned = record {
  served = ((refl, has_period, refl, (omega arith, λ r more. omega (arith, more))), tt);
  frame = refl;
  order = IsPermutation-refl (0 ∷ []);
  follow = λ k below. absurd (omega (arith, below));
  on_bus = on_bus;
  periodic = periodic;
  fewest = fewest;
  few_buses = omega arith;
  few_slots = omega arith;
}
  where
    on_bus : (n : ℕ) → n < 1 → (placed_at table n).place.bus < buses_of table
    on_bus zero below = omega arith
    on_bus (suc n) below = absurd (omega (arith, below))

    periodic : (n : ℕ) → n < 1 → StandsJustAt table n (placed_at table n).place.bus (placed_at table n).place.offset (2 ^ (placed_at table n).place.period)
    periodic zero below = record { within = omega arith; cells = λ bus slot. (stands_only bus slot, λ h. stands_there bus slot h.0 h.1) }
    periodic (suc n) below = absurd (omega (arith, below))

-- ---- the history is planned

apart : SourcesAreApart station.sources
apart r raw zero zero s t x b h k = refl
apart r raw zero (suc j) s t x b h k = absurd (none-some t b)
apart r raw (suc i) j s t x b h k = absurd (none-some s x)

own_sources : HaveOwnSources rows
own_sources zero zero x y a b same = refl
own_sources zero (suc j) x y a b same = absurd (none-some y b)
own_sources (suc i) j x y a b same = absurd (none-some x a)

abbrev is_publish : Event → Bool
is_publish (Publish q) = true
is_publish (Arrive r raw) = false
is_publish (Cell g) = false
is_publish (Frame g) = false

has_publish : (before after : List Event) (q : Proposed) → list_any is_publish (before ++ Publish q ∷ after) ≡ true
has_publish [] after q = refl
has_publish (e ∷ before) after q = elim (is_publish e) as (λ b. (b || list_any is_publish (before ++ Publish q ∷ after)) ≡ true) [ true ↦ refl | false ↦ has_publish before after q ]

own : HaveOwnPlans opening history
own = record {
  opening = record { plan = record { number = refl; count = refl; groups = (planned, tt) }; own = (own_sources, tt) };
  published = λ before after q split. absurd (true≢false (sym (has_publish before after q) ∙ sym (ap (list_any is_publish) split)));
}

-- ---- the result

accepted : IsAcceptedBefore 41 opening history 3 6 0
unfolding ones_from number_from reversed_from
accepted = record { word = record { receiver = 0; word = 1610612929; came = refl; accepted = refl }; after = omega arith; few = omega arith }

stays : KeepsOutput run 0 6 0 at
stays = one_plan_keeps opening 0 table history 0 6 0 at refl (omega arith) (omega arith) refl (record { number = 0; output = placed_at table 0; there = refl; of_source = refl; at_place = refl })

may_send : (n : ℕ) (x : Placed) → slice_get (outputs_of table) n ≡ Some x → MaySend 2 x
may_send zero x there = subst (MaySend 2) (same_Some (placed_at table 0) x there) (record { hold = λ hold h. absurd (none-some hold h); spacing = omega arith })
may_send (suc n) x there = absurd (none-some x there)

sends : EachOutput run 3 6 0 (MaySend 2)
sends zero from before n x there same = absurd (omega (arith, from))
sends (suc zero) from before n x there same = absurd (omega (arith, from))
sends (suc (suc zero)) from before n x there same = absurd (omega (arith, from))
sends (suc (suc (suc zero))) from before n x there same = may_send n x there
sends (suc (suc (suc (suc zero)))) from before n x there same = may_send n x there
sends (suc (suc (suc (suc (suc zero))))) from before n x there same = may_send n x there
sends (suc (suc (suc (suc (suc (suc j)))))) from before n x there same = absurd (omega (arith, before))

-- a slot of a cell is not after the place of the cell
in_time : (place bus slot in_frame : ℕ) → slice_get history place ≡ Some (Cell 0) → cell_due 0 (current opening 0 table (take place history)) ≡ Some (bus, in_frame) → slot ≡ (current opening 0 table (take place history)).first + in_frame
    → slot ≤ place
in_time zero bus slot in_frame asked due counted = omega (arith, counted, ap (λ (c : ℕ × ℕ). c.1) (same_Some (0, 0) (bus, in_frame) due))
in_time (suc zero) bus slot in_frame asked due counted = omega (arith, counted, ap (λ (c : ℕ × ℕ). c.1) (same_Some (0, 1) (bus, in_frame) due))
in_time (suc (suc zero)) bus slot in_frame asked due counted = let no' : Frame 0 ≡ Cell 0 = same_Some (Frame 0) (Cell 0) asked in absurd (cc)
in_time (suc (suc (suc zero))) bus slot in_frame asked due counted = let no' : Arrive 0 1610612929 ≡ Cell 0 = same_Some (Arrive 0 1610612929) (Cell 0) asked in absurd (cc)
in_time (suc (suc (suc (suc zero)))) bus slot in_frame asked due counted = omega (arith, counted, ap (λ (c : ℕ × ℕ). c.1) (same_Some (0, 0) (bus, in_frame) due))
in_time (suc (suc (suc (suc (suc zero))))) bus slot in_frame asked due counted = omega (arith, counted, ap (λ (c : ℕ × ℕ). c.1) (same_Some (0, 1) (bus, in_frame) due))
in_time (suc (suc (suc (suc (suc (suc zero)))))) bus slot in_frame asked due counted = let no' : Frame 0 ≡ Cell 0 = same_Some (Frame 0) (Cell 0) asked in absurd (cc)
in_time (suc (suc (suc (suc (suc (suc (suc k))))))) bus slot in_frame asked due counted = absurd (none-some (Cell 0) asked)

pub meets : MeetsPremises
meets = record {
  planned = record { apart = apart; opens = refl; own = own };
  accepted = accepted;
  stays = stays;
  sends = sends;
  settled = omega arith;
  passes = omega arith;
  timely = record {
    onward = λ j k before. before;
    begun = λ i k bus slot A. let early : slot ≤ A.place = in_time A.place bus slot A.in_frame A.asked A.due A.counted in omega (arith, early);
  };
}
