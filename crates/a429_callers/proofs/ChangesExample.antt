-- The example meets what the laws of a change suppose.
use Rattle.std.proofs.Common.{◌≡◌, ℕ, zero, suc, ◌+◌, ◌%◌, ◌^◌, ◌<◌, ◌≤◌, false, List, [], ◌∷◌, ◌++◌, take, length, ◌∙◌, sym, ap, subst, refl, inl, inr, arith}
use Rattle.std.specs.Prelude.{Option, Some, None, option_and_then, slice_get, slice_index}
use Rattle.std.proofs.lemmas.List.Sorted.{IsPermutation-refl}
use Rattle.std.proofs.lemmas.Bool.{cases_eq, eq-eqb, ne_eqb}
use Rattle.std.proofs.lemmas.Option.{none-some, same_Some}
use Rattle.a429_word.specs.Bits.{ones_from, number_from, reversed_from}
use Rattle.a429_equipment.specs.Arrivals.{SourcesAreApart}
use Rattle.a429_equipment.specs.Sound.{HaveOwnSources}
use Rattle.a429_equipment.specs.declared.rows.OutputRow.{OutputRow}
use Rattle.a429_equipment.specs.SameStation.{same_station}
use Rattle.a429_slots.specs.Tables.{Placed, buses_of, cell_at, demands_of, placed_at}
use Rattle.a429_slots.specs.Kept.{StandsJustAt}
use Rattle.a429_grid.specs.Reversal.{reversed}
use Rattle.a429_pack.specs.Demanded.{AreFewestBuses}
use Rattle.a429_pack.specs.Schedules.{RecursWithin, Schedule}
use Rattle.a429_pack.specs.Sums.{start_of}
use Rattle.a429_slots.specs.Planned.{AreFewestBusesFor, HasPeriod, IsPlannedFor}
use Rattle.a429_slots.specs.Proposed.{Proposed}
use Rattle.a429_slots.specs.Events.{Event, Arrive, Cell, Frame, Publish}
use Rattle.a429_slots.specs.History.{cell_due, current}
use Rattle.a429_slots.specs.Spacing.{HaveOwnPlans, IsOwnPlan}
use Rattle.a429_core.specs.Histories.{IsCellAt}
use Rattle.a429_core.specs.Latency.{Changes, EachOutput, HasOutput, IsAcceptedBefore, IsUnheld, KeepsOutput, MaySend, move_of}
use Rattle.a429_core.specs.Spaced.{is_held_at}
use Rattle.a429_callers.specs.NextSends.{IsLastSend, NoHoldEmpties}
use Rattle.a429_callers.specs.ChangesExample.{MeetsPremisesOfAChange, history, new, next, old, opening, run, station_at, table_of}

-- ---- the plan is that of the old table

abbrev row_two : OutputRow
row_two = record { source = 0; min_us = 720; max_us = 720; hold = None }

abbrev rows_two : List OutputRow
rows_two = row_two ∷ []

has_period_two : HasPeriod 100000 row_two 1
has_period_two = ((1, omega arith, refl), (omega arith, omega arith), λ q is within. omega (arith, within.0, within.1))

-- one cell after another has the output
abbrev one_row_two : Schedule
one_row_two = record { rows = 1; slots = 2; cell = λ bus slot. Some 0 }

fewest_two : AreFewestBusesFor 100000 rows_two 1
fewest_two = record {
  exponents = 1 ∷ [];
  fit = (has_period_two, tt);
  fewest = record {
    enough = (
      one_row_two,
      refl,
      record {
        names = λ bus slot output on in_time is. omega (arith, same_Some 0 output is);
        long = omega arith;
        recurs = recurs;
      },
    );
    least = λ s S. let (bus, slot, inside, from, before, is) = S.recurs 0 (omega arith) 0 S.long in omega (arith, inside);
  };
}
  where
    recurs : (output : ℕ) → output < 1 → RecursWithin (slice_index (2 ∷ []) output) output one_row_two
    recurs zero below from few = (0, from, omega arith, omega arith, omega arith, refl)
    recurs (suc output) below from few = absurd (omega (arith, below))

stands_only_two : (bus slot : ℕ) → cell_at (table_of 1 old) bus slot ≡ Some 0 → (bus ≡ 0) × (slot % 2 ≡ 0)
unfolding cell_at
stands_only_two bus slot h = elim (cases_eq 0 bus) [
  | inr other ↦ let none : cell_at (table_of 1 old) bus slot ≡ None = rw (ne_eqb 0 bus other) refl in absurd (none-some 0 (sym none ∙ h))
  | inl same ↦ elim (cases_eq (slot % 2) 0) [
    | inl even ↦ (sym same, even)
    | inr odd ↦ let none : cell_at (table_of 1 old) bus slot ≡ None = rw (eq-eqb 0 bus same, ne_eqb (slot % 2) 0 odd) refl in absurd (none-some 0 (sym none ∙ h))
  ]
]

stands_there_two : (bus slot : ℕ) → bus ≡ 0 → slot % 2 ≡ 0 → cell_at (table_of 1 old) bus slot ≡ Some 0
unfolding cell_at
stands_there_two bus slot same even = rw (eq-eqb 0 bus (sym same), eq-eqb (slot % 2) 0 even) refl

planned_two : IsPlannedFor 100000 (station_at 720).sources rows_two (table_of 1 old)
planned_two = record {
  served = ((refl, has_period_two, refl, (omega arith, λ r more. omega (arith, more))), tt);
  frame = refl;
  order = IsPermutation-refl (0 ∷ []);
  follow = λ k below. absurd (omega (arith, below));
  on_bus = on_bus;
  periodic = periodic;
  fewest = fewest_two;
  few_buses = omega arith;
  few_slots = omega arith;
}
  where
    on_bus : (n : ℕ) → n < 1 → (placed_at (table_of 1 old) n).place.bus < buses_of (table_of 1 old)
    on_bus zero below = omega arith
    on_bus (suc n) below = absurd (omega (arith, below))

    periodic : (n : ℕ) → n < 1 → StandsJustAt (table_of 1 old) n (placed_at (table_of 1 old) n).place.bus (placed_at (table_of 1 old) n).place.offset (2 ^ (placed_at (table_of 1 old) n).place.period)
    periodic zero below = record { within = omega arith; cells = λ bus slot. (stands_only_two bus slot, λ h. stands_there_two bus slot h.0 h.1) }
    periodic (suc n) below = absurd (omega (arith, below))

-- ---- the plan is that of the new table

abbrev row_four : OutputRow
row_four = record { source = 0; min_us = 1440; max_us = 1440; hold = None }

abbrev rows_four : List OutputRow
rows_four = row_four ∷ []

has_period_four : HasPeriod 100000 row_four 2
has_period_four = ((2, omega arith, refl), (omega arith, omega arith), λ q is within. omega (arith, within.0, within.1))

-- one cell after another has the output
abbrev one_row_four : Schedule
one_row_four = record { rows = 1; slots = 4; cell = λ bus slot. Some 0 }

pub one_bus_for_four : AreFewestBuses (2 ∷ []) 1
one_bus_for_four = record {
  enough = (
    one_row_four,
    refl,
    record {
      names = λ bus slot output on in_time is. omega (arith, same_Some 0 output is);
      long = omega arith;
      recurs = recurs;
    },
  );
  least = λ s S. let (bus, slot, inside, from, before, is) = S.recurs 0 (omega arith) 0 S.long in omega (arith, inside);
}
  where
    recurs : (output : ℕ) → output < 1 → RecursWithin (slice_index (4 ∷ []) output) output one_row_four
    recurs zero below from few = (0, from, omega arith, omega arith, omega arith, refl)
    recurs (suc output) below from few = absurd (omega (arith, below))

fewest_four : AreFewestBusesFor 100000 rows_four 1
fewest_four = record { exponents = 2 ∷ []; fit = (has_period_four, tt); fewest = one_bus_for_four }

pub stands_only_four : (bus slot : ℕ) → cell_at (table_of 2 new) bus slot ≡ Some 0 → (bus ≡ 0) × (slot % 4 ≡ 0)
unfolding cell_at
stands_only_four bus slot h = elim (cases_eq 0 bus) [
  | inr other ↦ let none : cell_at (table_of 2 new) bus slot ≡ None = rw (ne_eqb 0 bus other) refl in absurd (none-some 0 (sym none ∙ h))
  | inl same ↦ elim (cases_eq (slot % 4) 0) [
    | inl even ↦ (sym same, even)
    | inr odd ↦ let none : cell_at (table_of 2 new) bus slot ≡ None = rw (eq-eqb 0 bus same, ne_eqb (slot % 4) 0 odd) refl in absurd (none-some 0 (sym none ∙ h))
  ]
]

pub stands_there_four : (bus slot : ℕ) → bus ≡ 0 → slot % 4 ≡ 0 → cell_at (table_of 2 new) bus slot ≡ Some 0
unfolding cell_at
stands_there_four bus slot same even = rw (eq-eqb 0 bus (sym same), eq-eqb (slot % 4) 0 even) refl

planned_four : IsPlannedFor 100000 (station_at 1440).sources rows_four (table_of 2 new)
planned_four = record {
  served = ((refl, has_period_four, refl, (omega arith, λ r more. omega (arith, more))), tt);
  frame = refl;
  order = IsPermutation-refl (0 ∷ []);
  follow = λ k below. absurd (omega (arith, below));
  on_bus = on_bus;
  periodic = periodic;
  fewest = fewest_four;
  few_buses = omega arith;
  few_slots = omega arith;
}
  where
    on_bus : (n : ℕ) → n < 1 → (placed_at (table_of 2 new) n).place.bus < buses_of (table_of 2 new)
    on_bus zero below = omega arith
    on_bus (suc n) below = absurd (omega (arith, below))

    periodic : (n : ℕ) → n < 1 → StandsJustAt (table_of 2 new) n (placed_at (table_of 2 new) n).place.bus (placed_at (table_of 2 new) n).place.offset (2 ^ (placed_at (table_of 2 new) n).place.period)
    periodic zero below = record { within = omega arith; cells = λ bus slot. (stands_only_four bus slot, λ h. stands_there_four bus slot h.0 h.1) }
    periodic (suc n) below = absurd (omega (arith, below))

-- ---- the history is planned

pub apart : SourcesAreApart (station_at 720).sources
apart r raw zero zero s t x b h k = refl
apart r raw zero (suc j) s t x b h k = absurd (none-some t b)
apart r raw (suc i) j s t x b h k = absurd (none-some s x)

own_sources : (us : ℕ) → HaveOwnSources (record { source = 0; min_us = us; max_us = us; hold = None } ∷ [])
own_sources us zero zero x y a b same = refl
own_sources us zero (suc j) x y a b same = absurd (none-some y b)
own_sources us (suc i) j x y a b same = absurd (none-some x a)

pub next_is_own : IsOwnPlan next
next_is_own = record { plan = record { number = refl; count = refl; groups = (planned_four, tt) }; own = (own_sources 1440, tt) }

published_of : Event → Proposed
published_of (Publish q) = q
published_of (Arrive r raw) = next
published_of (Cell g) = next
published_of (Frame g) = next

is_next : (n : ℕ) (q : Proposed) → slice_get history n ≡ Some (Publish q) → next ≡ q
unfolding published_of
is_next zero q is = ap published_of (same_Some (Arrive 0 1610612929) (Publish q) is)
is_next (suc zero) q is = ap published_of (same_Some (Cell 0) (Publish q) is)
is_next (suc (suc zero)) q is = ap published_of (same_Some (Cell 0) (Publish q) is)
is_next (suc (suc (suc zero))) q is = ap published_of (same_Some (Arrive 0 1610612929) (Publish q) is)
is_next (suc (suc (suc (suc zero)))) q is = ap published_of (same_Some (Publish next) (Publish q) is)
is_next (suc (suc (suc (suc (suc zero))))) q is = ap published_of (same_Some (Frame 0) (Publish q) is)
is_next (suc (suc (suc (suc (suc (suc zero)))))) q is = ap published_of (same_Some (Cell 0) (Publish q) is)
is_next (suc (suc (suc (suc (suc (suc (suc zero))))))) q is = ap published_of (same_Some (Cell 0) (Publish q) is)
is_next (suc (suc (suc (suc (suc (suc (suc (suc zero)))))))) q is = ap published_of (same_Some (Cell 0) (Publish q) is)
is_next (suc (suc (suc (suc (suc (suc (suc (suc (suc zero))))))))) q is = ap published_of (same_Some (Cell 0) (Publish q) is)
is_next (suc (suc (suc (suc (suc (suc (suc (suc (suc (suc zero)))))))))) q is = ap published_of (same_Some (Frame 0) (Publish q) is)
is_next (suc (suc (suc (suc (suc (suc (suc (suc (suc (suc (suc zero))))))))))) q is = ap published_of (same_Some (Cell 0) (Publish q) is)
is_next (suc (suc (suc (suc (suc (suc (suc (suc (suc (suc (suc (suc zero)))))))))))) q is = ap published_of (same_Some (Cell 0) (Publish q) is)
is_next (suc (suc (suc (suc (suc (suc (suc (suc (suc (suc (suc (suc (suc zero))))))))))))) q is = ap published_of (same_Some (Cell 0) (Publish q) is)
is_next (suc (suc (suc (suc (suc (suc (suc (suc (suc (suc (suc (suc (suc (suc n)))))))))))))) q is = absurd (none-some (Publish q) is)

at_length : (before after : List Event) (e : Event) → slice_get (before ++ e ∷ after) (length before) ≡ Some e
at_length [] after e = refl
at_length (x ∷ before) after e = at_length before after e

pub opening_is_own : IsOwnPlan opening.proposal
opening_is_own = record { plan = record { number = refl; count = refl; groups = (planned_two, tt) }; own = (own_sources 720, tt) }

own : HaveOwnPlans opening history
own = record {
  opening = opening_is_own;
  published = λ before after q split. subst IsOwnPlan (is_next (length before) q (ap (λ (E : List Event). slice_get E (length before)) split ∙ at_length before after (Publish q))) next_is_own;
}

-- ---- the result

accepted : IsAcceptedBefore 41 opening history 3 14 0
unfolding ones_from number_from reversed_from cell_at
accepted = record { word = record { receiver = 0; word = 1610612929; came = refl; accepted = refl }; after = omega arith; few = omega arith }

pub only_output : (x z : Placed) (n : ℕ) → slice_get (x ∷ []) n ≡ Some z → x ≡ z
only_output x z zero is = same_Some x z is
only_output x z (suc n) is = absurd (none-some z is)

output_of : (x z : Placed) (n : Option ℕ) → option_and_then (λ o. slice_get (x ∷ []) o) n ≡ Some z → x ≡ z
output_of x z (Some n) is = only_output x z n is
output_of x z None is = absurd (none-some z is)

pub has : (k : ℕ) (x : Placed) → x.source ≡ 0 → HasOutput (table_of k x) 0 x.place
has k x is = record { number = 0; output = x; there = refl; of_source = is; at_place = refl }

stays : KeepsOutput run 0 6 0 old.place
stays zero from before = has 1 old refl
stays (suc zero) from before = has 1 old refl
stays (suc (suc zero)) from before = has 1 old refl
stays (suc (suc (suc zero))) from before = has 1 old refl
stays (suc (suc (suc (suc zero)))) from before = has 1 old refl
stays (suc (suc (suc (suc (suc zero))))) from before = has 1 old refl
stays (suc (suc (suc (suc (suc (suc j)))))) from before = absurd (omega (arith, before))

goes_on : KeepsOutput run 6 14 0 new.place
unfolding same_station
goes_on zero from before = absurd (omega (arith, from))
goes_on (suc zero) from before = absurd (omega (arith, from))
goes_on (suc (suc zero)) from before = absurd (omega (arith, from))
goes_on (suc (suc (suc zero))) from before = absurd (omega (arith, from))
goes_on (suc (suc (suc (suc zero)))) from before = absurd (omega (arith, from))
goes_on (suc (suc (suc (suc (suc zero))))) from before = absurd (omega (arith, from))
goes_on (suc (suc (suc (suc (suc (suc zero)))))) from before = has 2 new refl
goes_on (suc (suc (suc (suc (suc (suc (suc zero))))))) from before = has 2 new refl
goes_on (suc (suc (suc (suc (suc (suc (suc (suc zero)))))))) from before = has 2 new refl
goes_on (suc (suc (suc (suc (suc (suc (suc (suc (suc zero))))))))) from before = has 2 new refl
goes_on (suc (suc (suc (suc (suc (suc (suc (suc (suc (suc zero)))))))))) from before = has 2 new refl
goes_on (suc (suc (suc (suc (suc (suc (suc (suc (suc (suc (suc zero))))))))))) from before = has 2 new refl
goes_on (suc (suc (suc (suc (suc (suc (suc (suc (suc (suc (suc (suc zero)))))))))))) from before = has 2 new refl
goes_on (suc (suc (suc (suc (suc (suc (suc (suc (suc (suc (suc (suc (suc zero))))))))))))) from before = has 2 new refl
goes_on (suc (suc (suc (suc (suc (suc (suc (suc (suc (suc (suc (suc (suc (suc j)))))))))))))) from before = absurd (omega (arith, before))

changes : Changes run 0 14 0 (move_of 5 old.place new.place)
unfolding same_station
changes = record { from = omega arith; before = omega arith; few = omega arith; stays = stays; taken = refl; goes_on = goes_on }

sent : Changes run 1 14 0 (move_of 5 old.place new.place)
unfolding same_station
sent = record { from = omega arith; before = omega arith; few = omega arith; stays = λ j from before. stays j (omega arith) before; taken = refl; goes_on = goes_on }

unheld : EachOutput run 1 14 0 (IsUnheld 4)
unfolding same_station
unheld zero from before n x there same = absurd (omega (arith, from))
unheld (suc zero) from before n x there same = subst (IsUnheld 4) (only_output old x n there) (record { hold = refl; spacing = omega arith })
unheld (suc (suc zero)) from before n x there same = subst (IsUnheld 4) (only_output old x n there) (record { hold = refl; spacing = omega arith })
unheld (suc (suc (suc zero))) from before n x there same = subst (IsUnheld 4) (only_output old x n there) (record { hold = refl; spacing = omega arith })
unheld (suc (suc (suc (suc zero)))) from before n x there same = subst (IsUnheld 4) (only_output old x n there) (record { hold = refl; spacing = omega arith })
unheld (suc (suc (suc (suc (suc zero))))) from before n x there same = subst (IsUnheld 4) (only_output old x n there) (record { hold = refl; spacing = omega arith })
unheld (suc (suc (suc (suc (suc (suc zero)))))) from before n x there same = subst (IsUnheld 4) (only_output new x n there) (record { hold = refl; spacing = omega arith })
unheld (suc (suc (suc (suc (suc (suc (suc zero))))))) from before n x there same = subst (IsUnheld 4) (only_output new x n there) (record { hold = refl; spacing = omega arith })
unheld (suc (suc (suc (suc (suc (suc (suc (suc zero)))))))) from before n x there same = subst (IsUnheld 4) (only_output new x n there) (record { hold = refl; spacing = omega arith })
unheld (suc (suc (suc (suc (suc (suc (suc (suc (suc zero))))))))) from before n x there same = subst (IsUnheld 4) (only_output new x n there) (record { hold = refl; spacing = omega arith })
unheld (suc (suc (suc (suc (suc (suc (suc (suc (suc (suc zero)))))))))) from before n x there same = subst (IsUnheld 4) (only_output new x n there) (record { hold = refl; spacing = omega arith })
unheld (suc (suc (suc (suc (suc (suc (suc (suc (suc (suc (suc zero))))))))))) from before n x there same = subst (IsUnheld 4) (only_output new x n there) (record { hold = refl; spacing = omega arith })
unheld (suc (suc (suc (suc (suc (suc (suc (suc (suc (suc (suc (suc zero)))))))))))) from before n x there same = subst (IsUnheld 4) (only_output new x n there) (record { hold = refl; spacing = omega arith })
unheld (suc (suc (suc (suc (suc (suc (suc (suc (suc (suc (suc (suc (suc zero))))))))))))) from before n x there same = subst (IsUnheld 4) (only_output new x n there) (record { hold = refl; spacing = omega arith })
unheld (suc (suc (suc (suc (suc (suc (suc (suc (suc (suc (suc (suc (suc (suc j)))))))))))))) from before n x there same = absurd (omega (arith, before))

sends : EachOutput run 3 14 0 (MaySend 4)
sends j from before n x there same = let u = unheld j (omega (arith, from)) before n x there same in record { hold = λ hold h. absurd (none-some hold (sym u.hold ∙ h)); spacing = u.spacing }

free : NoHoldEmpties 41 run 6 14 0
unfolding same_station
free zero z s from before Z same = absurd (omega (arith, from))
free (suc zero) z s from before Z same = absurd (omega (arith, from))
free (suc (suc zero)) z s from before Z same = absurd (omega (arith, from))
free (suc (suc (suc zero))) z s from before Z same = absurd (omega (arith, from))
free (suc (suc (suc (suc zero)))) z s from before Z same = absurd (omega (arith, from))
free (suc (suc (suc (suc (suc zero))))) z s from before Z same = absurd (omega (arith, from))
free (suc (suc (suc (suc (suc (suc zero)))))) z s from before Z same = subst (λ (x : Placed). is_held_at 41 run 6 x ≡ false) (output_of new z (cell_at (table_of 2 new) Z.cell.0 Z.cell.1) Z.stands) refl
free (suc (suc (suc (suc (suc (suc (suc zero))))))) z s from before Z same = subst (λ (x : Placed). is_held_at 41 run 7 x ≡ false) (output_of new z (cell_at (table_of 2 new) Z.cell.0 Z.cell.1) Z.stands) refl
free (suc (suc (suc (suc (suc (suc (suc (suc zero)))))))) z s from before Z same = subst (λ (x : Placed). is_held_at 41 run 8 x ≡ false) (output_of new z (cell_at (table_of 2 new) Z.cell.0 Z.cell.1) Z.stands) refl
free (suc (suc (suc (suc (suc (suc (suc (suc (suc zero))))))))) z s from before Z same = subst (λ (x : Placed). is_held_at 41 run 9 x ≡ false) (output_of new z (cell_at (table_of 2 new) Z.cell.0 Z.cell.1) Z.stands) refl
free (suc (suc (suc (suc (suc (suc (suc (suc (suc (suc zero)))))))))) z s from before Z same = let no' : Frame 0 ≡ Cell 0 = same_Some (Frame 0) (Cell 0) Z.asked in absurd (cc)
free (suc (suc (suc (suc (suc (suc (suc (suc (suc (suc (suc zero))))))))))) z s from before Z same = subst (λ (x : Placed). is_held_at 41 run 11 x ≡ false) (output_of new z (cell_at (table_of 2 new) Z.cell.0 Z.cell.1) Z.stands) refl
free (suc (suc (suc (suc (suc (suc (suc (suc (suc (suc (suc (suc zero)))))))))))) z s from before Z same = subst (λ (x : Placed). is_held_at 41 run 12 x ≡ false) (output_of new z (cell_at (table_of 2 new) Z.cell.0 Z.cell.1) Z.stands) refl
free (suc (suc (suc (suc (suc (suc (suc (suc (suc (suc (suc (suc (suc zero))))))))))))) z s from before Z same = subst (λ (x : Placed). is_held_at 41 run 13 x ≡ false) (output_of new z (cell_at (table_of 2 new) Z.cell.0 Z.cell.1) Z.stands) refl
free (suc (suc (suc (suc (suc (suc (suc (suc (suc (suc (suc (suc (suc (suc j)))))))))))))) z s from before Z same = absurd (omega (arith, before))

empty : (cell : ℕ × ℕ) (z : Placed) → (0, 1) ≡ cell → option_and_then (λ o. slice_get (old ∷ []) o) (cell_at (table_of 1 old) cell.0 cell.1) ≡ Some z → ⊥
unfolding cell_at
empty cell z is there = none-some z (subst (λ (c : ℕ × ℕ). option_and_then (λ o. slice_get (old ∷ []) o) (cell_at (table_of 1 old) c.0 c.1) ≡ Some z) (sym is) there)

none : (a : ℕ) (z : Placed) (s : ℕ) → 1 < a → a < 5 → IsCellAt run a z s → z.source ≡ 0 → ⊥
none zero z s later early Z same = absurd (omega (arith, later))
none (suc zero) z s later early Z same = absurd (omega (arith, later))
none (suc (suc zero)) z s later early Z same = empty Z.cell z (same_Some (0, 1) Z.cell Z.due) Z.stands
none (suc (suc (suc zero))) z s later early Z same = let no' : Arrive 0 1610612929 ≡ Cell 0 = same_Some (Arrive 0 1610612929) (Cell 0) Z.asked in absurd (cc)
none (suc (suc (suc (suc zero)))) z s later early Z same = let no' : Publish next ≡ Cell 0 = same_Some (Publish next) (Cell 0) Z.asked in absurd (cc)
none (suc (suc (suc (suc (suc a))))) z s later early Z same = absurd (omega (arith, early))

last : IsLastSend 41 run 1 5 0 old 0
unfolding ones_from number_from reversed_from cell_at
last = record {
  word = 1610612929;
  sent = record { cell = record { asked = refl; cell = (0, 0); due = refl; stands = refl; counted = refl }; answered = refl };
  same = refl;
  last = none;
}

-- a slot of a cell is not after the place of the cell
in_time : (place bus slot in_frame : ℕ) → slice_get history place ≡ Some (Cell 0) → cell_due 0 (current opening 0 (table_of 1 old) (take place history)) ≡ Some (bus, in_frame)
    → slot ≡ (current opening 0 (table_of 1 old) (take place history)).first + in_frame → slot ≤ place
unfolding same_station
in_time zero bus slot in_frame asked due counted = let no' : Arrive 0 1610612929 ≡ Cell 0 = same_Some (Arrive 0 1610612929) (Cell 0) asked in absurd (cc)
in_time (suc zero) bus slot in_frame asked due counted = omega (arith, counted, ap (λ (c : ℕ × ℕ). c.1) (same_Some (0, 0) (bus, in_frame) due))
in_time (suc (suc zero)) bus slot in_frame asked due counted = omega (arith, counted, ap (λ (c : ℕ × ℕ). c.1) (same_Some (0, 1) (bus, in_frame) due))
in_time (suc (suc (suc zero))) bus slot in_frame asked due counted = let no' : Arrive 0 1610612929 ≡ Cell 0 = same_Some (Arrive 0 1610612929) (Cell 0) asked in absurd (cc)
in_time (suc (suc (suc (suc zero)))) bus slot in_frame asked due counted = let no' : Publish next ≡ Cell 0 = same_Some (Publish next) (Cell 0) asked in absurd (cc)
in_time (suc (suc (suc (suc (suc zero))))) bus slot in_frame asked due counted = let no' : Frame 0 ≡ Cell 0 = same_Some (Frame 0) (Cell 0) asked in absurd (cc)
in_time (suc (suc (suc (suc (suc (suc zero)))))) bus slot in_frame asked due counted = omega (arith, counted, ap (λ (c : ℕ × ℕ). c.1) (same_Some (0, 0) (bus, in_frame) due))
in_time (suc (suc (suc (suc (suc (suc (suc zero))))))) bus slot in_frame asked due counted = omega (arith, counted, ap (λ (c : ℕ × ℕ). c.1) (same_Some (0, 1) (bus, in_frame) due))
in_time (suc (suc (suc (suc (suc (suc (suc (suc zero)))))))) bus slot in_frame asked due counted = omega (arith, counted, ap (λ (c : ℕ × ℕ). c.1) (same_Some (0, 2) (bus, in_frame) due))
in_time (suc (suc (suc (suc (suc (suc (suc (suc (suc zero))))))))) bus slot in_frame asked due counted = omega (arith, counted, ap (λ (c : ℕ × ℕ). c.1) (same_Some (0, 3) (bus, in_frame) due))
in_time (suc (suc (suc (suc (suc (suc (suc (suc (suc (suc zero)))))))))) bus slot in_frame asked due counted = let no' : Frame 0 ≡ Cell 0 = same_Some (Frame 0) (Cell 0) asked in absurd (cc)
in_time (suc (suc (suc (suc (suc (suc (suc (suc (suc (suc (suc zero))))))))))) bus slot in_frame asked due counted = omega (arith, counted, ap (λ (c : ℕ × ℕ). c.1) (same_Some (0, 0) (bus, in_frame) due))
in_time (suc (suc (suc (suc (suc (suc (suc (suc (suc (suc (suc (suc zero)))))))))))) bus slot in_frame asked due counted = omega (arith, counted, ap (λ (c : ℕ × ℕ). c.1) (same_Some (0, 1) (bus, in_frame) due))
in_time (suc (suc (suc (suc (suc (suc (suc (suc (suc (suc (suc (suc (suc zero))))))))))))) bus slot in_frame asked due counted = omega (arith, counted, ap (λ (c : ℕ × ℕ). c.1) (same_Some (0, 2) (bus, in_frame) due))
in_time (suc (suc (suc (suc (suc (suc (suc (suc (suc (suc (suc (suc (suc (suc k)))))))))))))) bus slot in_frame asked due counted = absurd (none-some (Cell 0) asked)

pub meets : MeetsPremisesOfAChange
unfolding same_station cell_at
meets = record {
  planned = record { apart = apart; opens = refl; own = own };
  changes = changes;
  accepted = accepted;
  sends = sends;
  settled = omega arith;
  passes = omega arith;
  timely = record {
    onward = λ j k before. before;
    begun = λ i k bus slot A. let early : slot ≤ A.place = in_time A.place bus slot A.in_frame A.asked A.due A.counted in omega (arith, early);
  };
  sent = sent;
  unheld = unheld;
  output = record { number = 0; there = refl; same = refl };
  last = last;
  free = free;
  far = omega arith;
  periods = omega arith;
  spacing = omega arith;
  soon = omega arith;
}
