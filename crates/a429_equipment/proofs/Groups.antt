-- The rows of a group and of its outputs, by their numbers.
use Rattle.std.proofs.Common.{◌≡◌, ◌∙◌, ℕ, ◌<◌, List, [], length, get_or, Global, Some, Vec, sym, subst, ap, arith}
use Rattle.std.specs.Prelude.{option_map, slice_get}
use Rattle.std.specs.Vec.{vec_len}
use Rattle.std.proofs.lemmas.List.{get_or-map, length-map}
use Rattle.std.proofs.lemmas.Option.{slice_get-map, slice_get_read}
use Rattle.a429_equipment.specs.declared.rows.GroupRow.{GroupRow}
use Rattle.a429_equipment.specs.declared.rows.OutputRow.{OutputRow}
use Rattle.a429_equipment.specs.declared.rows.StationRows.{StationRows}
use Rattle.a429_equipment.specs.TableRecord.{TableRecord, outputs_in, record_of}
use Rattle.a429_equipment.specs.Sound.{IsSound}

module _ (rows : StationRows) (t : TableRecord) (group : ℕ) (is : record_of rows ≡ t) (known : group < length t.groups) where
  pub group_within : group < vec_len rows.groups
  group_within =
      let same = ap (λ (u : TableRecord). length u.groups) is in
      let long = rows.groups.ok.0 in
      omega arith

  pub rate_of_group : (row : GroupRow) → row ≡ get_or rows.groups.items group row → option_map (λ g. g.rate) (slice_get t.groups group) ≡ Some row.rate
  rate_of_group row at =
      sym (ap (λ (u : TableRecord). option_map (λ (g : GroupRow). g.rate) (slice_get u.groups group)) is)
      ∙ ap (option_map (λ (g : GroupRow). g.rate)) (slice_get_read rows.groups.items rows.groups.len group row rows.groups.ok.0 group_within at)

  module _ (sound : IsSound (record_of rows)) where
    pub outputs_within : group < vec_len rows.outputs
    outputs_within =
        let same = ap (λ (u : TableRecord). length u.groups) is in
        let as_many = sound.outputs_of_groups in
        let mapped = length-map rows.outputs.items (λ (v : Vec OutputRow Global). v.items) in
        let long = rows.outputs.ok.0 in
        omega arith

    module _ (v : Vec OutputRow Global) (at : v ≡ get_or rows.outputs.items group v) where
      pub outputs_are : slice_get t.outputs group ≡ Some v.items
      outputs_are =
          sym (ap (λ (u : TableRecord). slice_get u.outputs group) is)
          ∙ slice_get-map (λ (w : Vec OutputRow Global). w.items) rows.outputs.items group
          ∙ ap (option_map (λ (w : Vec OutputRow Global). w.items)) (slice_get_read rows.outputs.items rows.outputs.len group v rows.outputs.ok.0 outputs_within at)

      outputs_in_are : outputs_in t group ≡ v.items
      outputs_in_are =
          sym (ap (λ (u : TableRecord). outputs_in u group) is)
          ∙ get_or-map (λ (w : Vec OutputRow Global). w.items) rows.outputs.items group v [] (subst (λ n. group < n) rows.outputs.ok.0 outputs_within)
          ∙ ap (λ (w : Vec OutputRow Global). w.items) (sym at)

      pub output_within : (output : ℕ) → output < length (outputs_in t group) → output < vec_len v
      output_within output below = subst (λ n. output < n) (ap (λ (os : List OutputRow). length os) outputs_in_are ∙ sym v.ok.0) below

      pub hold_of_output : (output : ℕ) (row : OutputRow) → output < length (outputs_in t group) → row ≡ get_or v.items output row → option_map (λ o. o.hold) (slice_get (outputs_in t group) output) ≡ Some row.hold
      hold_of_output output row below at_output =
          ap (λ (os : List OutputRow). option_map (λ (o : OutputRow). o.hold) (slice_get os output)) outputs_in_are
          ∙ ap (option_map (λ (o : OutputRow). o.hold)) (slice_get_read v.items v.len output row v.ok.0 (output_within output below) at_output)
