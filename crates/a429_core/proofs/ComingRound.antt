-- The outputs of a plan come round with its frame.
use Rattle.std.proofs.Common.{◌≡◌, ◌∙◌, ◌+◌, ◌*◌, ◌%◌, ◌^◌, ◌<◌, ◌≤◌, ℕ, List, length, get_or, map, refl, sym, ap, subst, arith}
use Rattle.std.specs.Prelude.{Some, slice_get}
use Rattle.std.proofs.lemmas.List.{length-map, get_or-map}
use Rattle.std.proofs.lemmas.Option.{get_or_from_slice_get, same_Some, slice_get_within}
use Rattle.a429_equipment.specs.declared.rows.OutputRow.{OutputRow}
use Rattle.a429_equipment.specs.declared.rows.SourceRow.{SourceRow}
use Rattle.a429_pack.specs.Demands.{exponent_of}
use Rattle.a429_pack.proofs.Entries.{up_to_greatest}
use Rattle.a429_slots.specs.Planned.{IsPlannedFor, asked_by, asked_of}
use Rattle.a429_slots.specs.Tables.{Placed, SlotTable, cell_at, frame_of, output_in, outputs_of, placed_at, source_at}
use Rattle.a429_slots.proofs.Cells.{output_is}
use Rattle.a429_slots.proofs.Rows.{unasked}
use Rattle.a429_slots.proofs.SamePlan.{is_at, rest_of_frames}

-- no period is longer than the frame
period_fits : (rate : ℕ) (sources : List SourceRow) (rows : List OutputRow) (t : SlotTable) (n : ℕ) (x : Placed) → IsPlannedFor rate sources rows t → slice_get (outputs_of t) n ≡ Some x → x.place.period ≤ t.frame
period_fits rate sources rows t n x P h =
    let inside : n < length (outputs_of t) = slice_get_within (outputs_of t) n x h in
    let asked = asked_of sources t in
    let long : length asked ≡ length (outputs_of t) = length-map (outputs_of t) (asked_by sources) in
    let more : length (map exponent_of asked) ≡ length asked = length-map asked exponent_of in
    let here : get_or asked n unasked ≡ asked_by sources x = get_or-map (asked_by sources) (outputs_of t) n x unasked inside ∙ ap (asked_by sources) (get_or_from_slice_get (outputs_of t) n x x h) in
    let is : get_or (map exponent_of asked) n 0 ≡ x.place.period = get_or-map exponent_of asked n unasked 0 (omega (arith, inside, long)) ∙ ap exponent_of here in
    omega (arith, is, up_to_greatest (map exponent_of asked) n (omega (arith, inside, long, more)), P.frame)

-- whole frames later an output has the same cells
pub comes_round : (rate : ℕ) (sources : List SourceRow) (rows : List OutputRow) (t : SlotTable) (times bus on : ℕ) (x : Placed) → IsPlannedFor rate sources rows t → output_in t bus on ≡ Some x
    → source_at t bus (times * frame_of t + on) ≡ Some x.source
comes_round rate sources rows t times bus on x P there =
    let A = is_at t bus on x there in
    let inside : A.number < length (outputs_of t) = slice_get_within (outputs_of t) A.number x A.row in
    let own : placed_at t A.number ≡ x = same_Some (placed_at t A.number) x (sym (output_is t A.number inside) ∙ A.row) in
    let at = P.periodic A.number inside in
    let one = (at.cells bus on).0 A.cell in
    let fits : (placed_at t A.number).place.period ≤ t.frame = subst (λ (y : Placed). y.place.period ≤ t.frame) (sym own) (period_fits rate sources rows t A.number x P A.row) in
    let rest : (times * frame_of t + on) % 2 ^ (placed_at t A.number).place.period ≡ (placed_at t A.number).place.offset = rest_of_frames t.frame (placed_at t A.number).place.period times on fits ∙ one.1 in
    let again : cell_at t bus (times * frame_of t + on) ≡ Some A.number = (at.cells bus (times * frame_of t + on)).1 (one.0, rest) in
    rw (again, A.row) refl
