-- The example meets the premises of one run.
use Rattle.std.proofs.Common.{◌≡◌, ℕ, zero, suc, ◌+◌, ◌≤◌, ◌<◌, [], ◌∷◌, sym, ap, refl, arith}
use Rattle.std.specs.Prelude.{Some, slice_get}
use Rattle.std.proofs.lemmas.Option.{none-some, same_Some}
use Rattle.a429_word.specs.Bits.{ones_from, number_from, reversed_from}
use Rattle.a429_equipment.specs.declared.rows.SourceRow.{SourceRow}
use Rattle.a429_equipment.specs.Agreement.{Agrees}
use Rattle.a429_equipment.specs.Arrivals.{AcceptApart}
use Rattle.a429_equipment.specs.Receiving.{IsReceived}
use Rattle.a429_equipment.specs.SameStation.{same_station}
use Rattle.a429_equipment.specs.Sound.{OfEach}
use Rattle.a429_slots.specs.Tables.{cell_at}
use Rattle.a429_slots.specs.Proposed.{Proposed}
use Rattle.a429_workers.specs.Calls.{AreLawful, before_calls, loads_of}
use Rattle.a429_workers.specs.Runs.{IsWorking}
use Rattle.a429_workers.specs.Example.{calls, first_plan, heard, later, next_plan, opening, source, station, table}

apart : AcceptApart station
apart a zero zero s t x b h k = refl
apart a zero (suc j) s t x b h k = absurd (none-some t b)
apart a (suc i) j s t x b h k = absurd (none-some s x)

of_receiver : OfEach (λ s. s.receiver < 1) station.sources
of_receiver zero s h = omega (arith, ap (λ (x : SourceRow). x.receiver) (same_Some source s h))
of_receiver (suc i) s h = absurd (none-some s h)

by_number : (k : ℕ) (q : Proposed) → slice_get later k ≡ Some q → q.plan.number ≡ 7 + (k + 1)
by_number zero q h = ap (λ (x : Proposed). x.plan.number) (sym (same_Some next_plan q h))
by_number (suc k) q h = absurd (none-some q h)

accepts : (r : ℕ) → r < 1 → IsReceived 3 station r (heard r)
unfolding ones_from number_from reversed_from
accepts zero less = refl
accepts (suc r) less = absurd (omega (arith, less))

none_more : (r : ℕ) → 1 ≤ r → heard r ≡ []
none_more zero ge = absurd (omega (arith, ge))
none_more (suc r) ge = refl

agrees : (r : ℕ) → r < 1 → Agrees station r (heard r) (loads_of calls)
agrees zero less = (
  2,
  (1, (omega arith, omega arith, refl), (1, (omega arith, omega arith, refl), (1, (omega arith, omega arith, refl), (2, (omega arith, omega arith, refl), (2, (omega arith, omega arith, refl), refl))))),
)
agrees (suc r) less = absurd (omega (arith, less))

by_cells : AreLawful 0 table (before_calls first_plan.plan table 5) calls
unfolding cell_at
by_cells = (
  record { cell = (0, 0); due = refl; bus = refl; slot = refl; load = refl; word = refl },
  (
    record { cell = (0, 1); due = refl; bus = refl; slot = refl; load = refl; word = refl },
    (
      refl,
      (
        ((next_plan.plan ∷ [], refl), refl),
        (
          record { cell = (0, 0); due = refl; bus = refl; slot = refl; load = refl; word = refl },
          (
            record { cell = (1, 0); due = refl; bus = refl; slot = refl; load = refl; word = refl },
            (
              tt,
              (
                record { cell = (0, 1); due = refl; bus = refl; slot = refl; load = refl; word = refl },
                (record { cell = (1, 1); due = refl; bus = refl; slot = refl; load = refl; word = refl }, tt),
              ),
            ),
          ),
        ),
      ),
    ),
  ),
)

pub working : IsWorking 2 opening 0 table later calls heard
unfolding same_station
working = record {
  wired = record { apart = apart; received = of_receiver };
  opens = refl;
  published = record { of_station = (refl, tt); numbered = by_number; countable = omega arith };
  lawful = by_cells;
  seen = ([], refl);
  known = (omega arith, (omega arith, (omega arith, (omega arith, (omega arith, tt)))));
  accepted = record { received = accepts; others = none_more };
  agree = agrees;
}
