-- What is true of a planned group when its margin is computed.
use Rattle.std.proofs.Common.{◌≡◌, ℕ, ◌-◌, ◌*◌, ◌/◌, ◌^◌, ◌<◌, ◌≤◌, List, [], ◌∷◌, length, sym, subst, arith}
use Rattle.std.specs.Prelude.{None, sum}
use Rattle.std.specs.List.{AllByRecursion, AllZip}
use Rattle.std.proofs.lemmas.Nat.{pow_pos}
use Rattle.a429_equipment.specs.TableRecord.{TableRecord}
use Rattle.a429_equipment.specs.declared.rows.OutputRow.{OutputRow}
use Rattle.a429_equipment.specs.declared.rows.SourceRow.{SourceRow}
use Rattle.a429_pack.specs.Demanded.{IsBusCount, demand_of}
use Rattle.a429_pack.specs.Demands.{greatest}
use Rattle.a429_slots.specs.Tables.{Placed, SlotTable, outputs_of, demands_of, frame_of, buses_of}
use Rattle.a429_slots.specs.Planned.{IsPlannedFor, IsServed}
use Rattle.a429_documents.specs.Margins.{periods_of, window_of}
use Rattle.a429_documents.proofs.PlannedGroups.{served_length}
use Rattle.a429_cert.proofs.OwnGroups.{FewestCarry, carried, frame_greatest, total_is}

-- a table with these sources and nothing else
abbrev of_sources : List SourceRow → TableRecord
of_sources sources = record { version = 0; rate = None; receivers = []; sources = sources; groups = []; outputs = [] }

some_slot : (rate max_us p : ℕ) → 36000000 * 2 ^ p ≤ max_us * rate → 0 < max_us * rate / 36000000
some_slot rate max_us p fits =
    let one = pow_pos p in
    omega (arith, fits, one)

some_windows : (rate : ℕ) (rows : List OutputRow) (ps : List Placed) → AllZip (IsServed rate) rows ps → AllByRecursion (λ row. 0 < window_of rate row) rows
some_windows rate [] ps served = tt
some_windows rate (r ∷ rows) [] served = absurd served
some_windows rate (r ∷ rows) (p ∷ ps) served = (some_slot rate r.max_us p.place.period served.0.1.1.1, some_windows rate rows ps served.1)

module _ (rate : ℕ) (sources : List SourceRow) (rows : List OutputRow) (t : SlotTable) (p : IsPlannedFor rate sources rows t) where
  pub windows_there : AllByRecursion (λ row. 0 < window_of rate row) rows
  windows_there = some_windows rate rows (outputs_of t) p.served

  pub buses_count : FewestCarry → 1 ≤ length rows → IsBusCount (periods_of t) (buses_of t)
  buses_count law some = carried (of_sources sources) rate rows t law p (omega (arith, some, served_length rate rows (outputs_of t) p.served))

  demanded : sum (demands_of t) ≡ demand_of (periods_of t)
  demanded = total_is (of_sources sources) rate rows t p

  framed : frame_of t ≡ 2 ^ greatest (periods_of t)
  framed = frame_greatest (of_sources sources) rate rows t p

  pub within_room : FewestCarry → 1 ≤ length rows → sum (demands_of t) ≤ buses_of t * frame_of t
  within_room law some =
      subst (λ (f : ℕ). sum (demands_of t) ≤ buses_of t * f) (sym framed) (subst (λ (d : ℕ). d ≤ buses_of t * 2 ^ greatest (periods_of t)) (sym demanded) (buses_count law some).within)

  pub above_others : FewestCarry → 1 ≤ length rows → (buses_of t - 1) * frame_of t ≤ sum (demands_of t)
  above_others law some =
      let above : (buses_of t - 1) * frame_of t < sum (demands_of t) =
      subst (λ (f : ℕ). (buses_of t - 1) * f < sum (demands_of t)) (sym framed) (subst (λ (d : ℕ). (buses_of t - 1) * 2 ^ greatest (periods_of t) < d) (sym demanded) (buses_count law some).above) in
      omega (arith, above)
