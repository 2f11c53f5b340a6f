-- The table that is imported_table from an interface control document is sound.
use Rattle.std.proofs.Common.{◌≡◌, ◌∙◌, ℕ, ◌<◌, ◌≤◌, true, List, [], ◌∷◌, length, map, Option, None, Some, ap, ap₂, sym, subst, refl, arith, inr, eq-eqb, eqb-true}
use Rattle.std.specs.Prelude.{◌&&◌, ◌==◌, IfSome, IsTrue, slice_get}
use Rattle.std.specs.List.{AllByRecursion}
use Rattle.std.specs.Option.{option_map_or}
use Rattle.std.proofs.lemmas.Bool.{and_from, and_parts}
use Rattle.std.proofs.lemmas.List.{length-map}
use Rattle.std.proofs.lemmas.Option.{same_Some, slice_get_within}
use Rattle.a429_word.specs.Bits.{label_of, sdi_of}
use Rattle.a429_word.proofs.Lists.{all_at, all_mapped, get_within}
use Rattle.a429_equipment.specs.Arrivals.{SourcesAreApart, is_for}
use Rattle.a429_equipment.specs.NameForm.{is_name}
use Rattle.a429_equipment.specs.Sound.{HaveOwn, HaveOwnSources, IsGroupRow, IsHold, IsInterval, IsReceiverRow, IsSound, IsSourceRow}
use Rattle.a429_equipment.specs.TableRecord.{TableRecord}
use Rattle.a429_equipment.specs.declared.rows.GroupRow.{GroupRow}
use Rattle.a429_equipment.specs.declared.rows.OutputRow.{OutputRow}
use Rattle.a429_equipment.specs.declared.rows.ReceiverRow.{ReceiverRow}
use Rattle.a429_equipment.specs.declared.rows.SourceRow.{SourceRow}
use Rattle.a429_slots.specs.Planned.{HaveSources}
use Rattle.a429_table.proofs.Absence.{all_from}
use Rattle.a429_table.proofs.Apart.{mapped_at}
use Rattle.a429_import.specs.declared.firsts.Part.TheVariants.{Receivers, Sources}
use Rattle.a429_import.specs.declared.rows.ImportRow.{ImportRow}
use Rattle.a429_import.specs.ImportTables.{firsts, number_of, receiver_stated, record_stated, source_stated}
use Rattle.a429_callers.proofs.Icd.NamedFirsts.{no_more, own_firsts}
use Rattle.a429_callers.proofs.Icd.Groups.{groups_again, new_number, outputs_again}
use Rattle.a429_callers.proofs.Icd.Records.{all_read, first_is_of, imported_table, IsRead, output_source, receiver_found, receiver_same}
use Rattle.a429_callers.proofs.Icd.Rows.{IsRowOf, read_table, source_at, source_there}
use Rattle.a429_import.proofs.ImportRecords.{from_all}
use Rattle.a429_callers.proofs.Icd.RenumberedPlans.{renumbered_row}

-- ---- lists

both_then : {X : Type 0} (P Q R : X → Type 0) → ((x : X) → P x → Q x → R x) → (xs : List X) → AllByRecursion P xs → AllByRecursion Q xs → AllByRecursion R xs
both_then P Q R then [] all each = tt
both_then P Q R then (x ∷ xs) all each = (then x all.0 each.0, both_then P Q R then xs all.1 each.1)

module _ (e : TableRecord) (sound : IsSound e) (plain : AllByRecursion (λ receiver. receiver.filters ≡ None) e.receivers) where
  abbrev rows : List ImportRow
  rows = read_table e

  abbrev table : TableRecord
  table = imported_table e sound plain

  -- ---- no more than there were

  pub few_receivers : length (firsts Receivers rows) ≤ length e.receivers
  few_receivers =
      no_more (length (firsts Receivers rows)) (length e.receivers)
      (λ i k. (y : ImportRow) × (r : ReceiverRow) × (slice_get (firsts Receivers rows) i ≡ Some y) × (slice_get e.receivers k ≡ Some r) × (y.texts.receiver ≡ r.name))
      (λ i below.
      let y = get_within (firsts Receivers rows) i below in
      let Y = (first_is_of e sound plain Receivers i y.0 y.1).0 in
      (Y.source.receiver, slice_get_within e.receivers Y.source.receiver Y.receiver Y.receiver_at, (y.0, Y.receiver, y.1, Y.receiver_at, Y.receiver_name)))
      (λ i j k low high x y.
      let one : x.1 ≡ y.1 = same_Some x.1 y.1 (sym x.3 ∙ y.3) in
      own_firsts Receivers rows i j x.0 y.0 x.2 y.2 (x.4 ∙ ap (λ (r : ReceiverRow). r.name) one ∙ sym y.4))

  pub few_sources : length (firsts Sources rows) ≤ length e.sources
  few_sources =
      no_more (length (firsts Sources rows)) (length e.sources)
      (λ i k. (y : ImportRow) × (s : SourceRow) × (slice_get (firsts Sources rows) i ≡ Some y) × (slice_get e.sources k ≡ Some s) × (y.texts.source ≡ s.name))
      (λ i below.
      let y = get_within (firsts Sources rows) i below in
      let Y = (first_is_of e sound plain Sources i y.0 y.1).0 in
      (Y.number, slice_get_within e.sources Y.number Y.source Y.source_at, (y.0, Y.source, y.1, Y.source_at, Y.source_name)))
      (λ i j k low high x y.
      let one : x.1 ≡ y.1 = same_Some x.1 y.1 (sym x.3 ∙ y.3) in
      own_firsts Sources rows i j x.0 y.0 x.2 y.2 (x.4 ∙ ap (λ (s : SourceRow). s.name) one ∙ sym y.4))

  -- ---- each row

  receivers_are : AllByRecursion IsReceiverRow (map receiver_stated (firsts Receivers rows))
  receivers_are =
      all_mapped receiver_stated IsReceiverRow (firsts Receivers rows)
      (all_from (λ y. IsReceiverRow (receiver_stated y)) (firsts Receivers rows)
      (λ i y at.
      let Y = (first_is_of e sound plain Receivers i y at).0 in
      subst IsReceiverRow (sym (receiver_same e sound plain y Y)) (all_at IsReceiverRow e.receivers Y.source.receiver Y.receiver sound.receiver_rows Y.receiver_at)))

  sources_are : AllByRecursion IsSourceRow (map (source_stated rows) (firsts Sources rows))
  sources_are =
      all_mapped (source_stated rows) IsSourceRow (firsts Sources rows)
      (all_from (λ y. IsSourceRow (source_stated rows y)) (firsts Sources rows)
      (λ i y at.
      let Y = (first_is_of e sound plain Sources i y at).0 in
      let source : IsSourceRow Y.source = all_at IsSourceRow e.sources Y.number Y.source sound.source_rows Y.source_at in
      (ap is_name Y.source_name ∙ source.0, subst (λ (n : ℕ). n < 256) (sym Y.label) source.1, subst (λ (o : Option ℕ). IfSome o (λ k. k < 4)) (sym Y.sdi) source.2)))

  known_receivers : AllByRecursion (λ s. s.receiver < length table.receivers) (map (source_stated rows) (firsts Sources rows))
  known_receivers =
      all_mapped (source_stated rows) (λ s. s.receiver < length table.receivers) (firsts Sources rows)
      (all_from (λ y. number_of Receivers rows y.texts.receiver < length table.receivers) (firsts Sources rows)
      (λ i y at.
      let Y = first_is_of e sound plain Sources i y at in
      slice_get_within table.receivers (number_of Receivers rows y.texts.receiver) Y.0.receiver (receiver_found e sound plain y Y.1 Y.0)))

  -- ---- names

  own_receivers : HaveOwn (λ r. r.name) (map receiver_stated (firsts Receivers rows))
  own_receivers i j r s at_r at_s same =
      let x = mapped_at receiver_stated (firsts Receivers rows) i r at_r in
      let y = mapped_at receiver_stated (firsts Receivers rows) j s at_s in
      own_firsts Receivers rows i j x.0 y.0 x.1 y.1 (ap (λ (r : ReceiverRow). r.name) x.2 ∙ same ∙ sym (ap (λ (r : ReceiverRow). r.name) y.2))

  own_names : HaveOwn (λ s. s.name) (map (source_stated rows) (firsts Sources rows))
  own_names i j r s at_r at_s same =
      let x = mapped_at (source_stated rows) (firsts Sources rows) i r at_r in
      let y = mapped_at (source_stated rows) (firsts Sources rows) j s at_s in
      own_firsts Sources rows i j x.0 y.0 x.1 y.1 (ap (λ (s : SourceRow). s.name) x.2 ∙ same ∙ sym (ap (λ (s : SourceRow). s.name) y.2))

  -- ---- no word is for two sources

  -- the words that are for the source of a row are for the source that the row names
  for_source : (y : ImportRow) (Y : IsRowOf e y) (r raw : ℕ) → IsTrue (is_for r raw (source_stated rows y)) → (number_of Receivers rows y.texts.receiver ≡ r) × IsTrue (is_for Y.source.receiver raw Y.source)
  for_source y Y r raw h =
      let parts = and_parts (number_of Receivers rows y.texts.receiver == r) (y.numbers.label == label_of raw && option_map_or (λ k. k == sdi_of raw) y.numbers.sdi true) h in
      let same : (y.numbers.label == label_of raw && option_map_or (λ k. k == sdi_of raw) y.numbers.sdi true) ≡ (Y.source.label == label_of raw && option_map_or (λ k. k == sdi_of raw) Y.source.sdi true) =
      ap₂ (λ (label : ℕ) (sdi : Option ℕ). label == label_of raw && option_map_or (λ k. k == sdi_of raw) sdi true) Y.label Y.sdi in (
        eqb-true (number_of Receivers rows y.texts.receiver) r parts.0,
        and_from (Y.source.receiver == Y.source.receiver) (Y.source.label == label_of raw && option_map_or (λ k. k == sdi_of raw) Y.source.sdi true) (eq-eqb Y.source.receiver Y.source.receiver refl) (sym same ∙ parts.1),
      )

  are_apart : SourcesAreApart (map (source_stated rows) (firsts Sources rows))
  are_apart r raw i j s u at_s at_u for_s for_u =
      let x = mapped_at (source_stated rows) (firsts Sources rows) i s at_s in
      let y = mapped_at (source_stated rows) (firsts Sources rows) j u at_u in
      let X = first_is_of e sound plain Sources i x.0 x.1 in
      let Y = first_is_of e sound plain Sources j y.0 y.1 in
      let A = for_source x.0 X.0 r raw (subst (λ (z : SourceRow). IsTrue (is_for r raw z)) (sym x.2) for_s) in
      let B = for_source y.0 Y.0 r raw (subst (λ (z : SourceRow). IsTrue (is_for r raw z)) (sym y.2) for_u) in
      let receivers : X.0.receiver ≡ Y.0.receiver =
      same_Some X.0.receiver Y.0.receiver (sym (receiver_found e sound plain x.0 X.1 X.0) ∙ ap (slice_get table.receivers) (A.0 ∙ sym B.0) ∙ receiver_found e sound plain y.0 Y.1 Y.0) in
      let one : X.0.source.receiver ≡ Y.0.source.receiver =
      sound.own_receivers X.0.source.receiver Y.0.source.receiver X.0.receiver Y.0.receiver X.0.receiver_at Y.0.receiver_at (ap (λ (r : ReceiverRow). r.name) receivers) in
      let number : X.0.number ≡ Y.0.number =
      sound.apart Y.0.source.receiver raw X.0.number Y.0.number X.0.source Y.0.source X.0.source_at Y.0.source_at (subst (λ (m : ℕ). IsTrue (is_for m raw X.0.source)) one A.1) B.1 in
      let source : X.0.source ≡ Y.0.source = same_Some X.0.source Y.0.source (sym X.0.source_at ∙ ap (slice_get e.sources) number ∙ Y.0.source_at) in
      own_firsts Sources rows i j x.0 y.0 x.1 y.1 (X.0.source_name ∙ ap (λ (s : SourceRow). s.name) source ∙ sym Y.0.source_name)

  -- ---- outputs

  abbrev f : ℕ → ℕ
  f = new_number e

  known_outputs : AllByRecursion (AllByRecursion (λ o. o.source < length table.sources)) (map (map (renumbered_row f)) e.outputs)
  known_outputs =
      all_mapped (map (renumbered_row f)) (AllByRecursion (λ o. o.source < length table.sources)) e.outputs
      (both_then (HaveSources e.sources) (AllByRecursion (IsRead e)) (λ os. AllByRecursion (λ o. o.source < length table.sources) (map (renumbered_row f) os))
      (λ os known read.
      all_mapped (renumbered_row f) (λ o. o.source < length table.sources) os
      (both_then (λ o. o.source < length e.sources) (IsRead e) (λ o. f o.source < length table.sources)
      (λ o below here. let s = output_source e sound plain o below here in slice_get_within table.sources (f o.source) s.0 s.1) os known read))
      e.outputs sound.known_sources (all_read e sound plain))

  own_outputs : AllByRecursion HaveOwnSources (map (map (renumbered_row f)) e.outputs)
  own_outputs =
      all_mapped (map (renumbered_row f)) HaveOwnSources e.outputs
      (all_from (λ os. HaveOwnSources (map (renumbered_row f) os)) e.outputs
      (λ k os listed.
      let known : HaveSources e.sources os = all_at (HaveSources e.sources) e.outputs k os sound.known_sources listed in
      let read : AllByRecursion (IsRead e) os = all_at (AllByRecursion (IsRead e)) e.outputs k os (all_read e sound plain) listed in
      let own : HaveOwnSources os = all_at HaveOwnSources e.outputs k os sound.own_sources listed in
      own_in os known read own))
    where
      own_in : (os : List OutputRow) → HaveSources e.sources os → AllByRecursion (IsRead e) os → HaveOwnSources os → HaveOwnSources (map (renumbered_row f) os)
      own_in os known read own i j a b at_a at_b same =
          let x = mapped_at (renumbered_row f) os i a at_a in
          let y = mapped_at (renumbered_row f) os j b at_b in
          let low : x.0.source < length e.sources = all_at (λ (o : OutputRow). o.source < length e.sources) os i x.0 known x.1 in
          let high : y.0.source < length e.sources = all_at (λ (o : OutputRow). o.source < length e.sources) os j y.0 known y.1 in
          let s = output_source e sound plain x.0 low (all_at (IsRead e) os i x.0 read x.1) in
          let u = output_source e sound plain y.0 high (all_at (IsRead e) os j y.0 read y.1) in
          let numbers : f x.0.source ≡ f y.0.source = ap (λ (o : OutputRow). o.source) x.2 ∙ same ∙ sym (ap (λ (o : OutputRow). o.source) y.2) in
          let one : s.0 ≡ u.0 = same_Some s.0 u.0 (sym s.1 ∙ ap (slice_get table.sources) numbers ∙ u.1) in
          let names : (source_at e x.0.source).name ≡ (source_at e y.0.source).name = sym s.2.name ∙ ap (λ (z : SourceRow). z.name) one ∙ u.2.name in
          own i j x.0 y.0 x.1 y.1
          (sound.own_names x.0.source y.0.source (source_at e x.0.source) (source_at e y.0.source) (source_there e sound x.0.source low) (source_there e sound y.0.source high) names)

  some_outputs : AllByRecursion (λ os. (1 ≤ length os) × (length os ≤ 128)) (map (map (renumbered_row f)) e.outputs)
  some_outputs =
      all_mapped (map (renumbered_row f)) (λ os. (1 ≤ length os) × (length os ≤ 128)) e.outputs
      (from_all (λ os. (1 ≤ length os) × (length os ≤ 128)) (λ os. (1 ≤ length (map (renumbered_row f) os)) × (length (map (renumbered_row f) os) ≤ 128))
      (λ os h. let long = length-map os (renumbered_row f) in (omega (arith, long, h.0), omega (arith, long, h.1))) e.outputs sound.some_outputs)

  intervals : AllByRecursion (AllByRecursion IsInterval) (map (map (renumbered_row f)) e.outputs)
  intervals =
      all_mapped (map (renumbered_row f)) (AllByRecursion IsInterval) e.outputs
      (from_all (AllByRecursion IsInterval) (λ os. AllByRecursion IsInterval (map (renumbered_row f) os)) (λ os h. all_mapped (renumbered_row f) IsInterval os h) e.outputs sound.intervals)

  holds : AllByRecursion (AllByRecursion IsHold) (map (map (renumbered_row f)) e.outputs)
  holds =
      all_mapped (map (renumbered_row f)) (AllByRecursion IsHold) e.outputs
      (from_all (AllByRecursion IsHold) (λ os. AllByRecursion IsHold (map (renumbered_row f) os)) (λ os h. all_mapped (renumbered_row f) IsHold os h) e.outputs sound.holds)

  pub imported_sound : IsSound table
  unfolding record_stated
  imported_sound =
      let groups = groups_again e sound in
      let outputs = outputs_again e sound in
      let as_many : length table.outputs ≡ length e.outputs = ap length outputs ∙ length-map e.outputs (map (renumbered_row f)) in
      record {
        version = inr refl;
        rate = tt;
        one_rate = λ one. absurd (omega (arith, one));
        own_rates = λ two. refl;
        few_receivers = omega (arith, length-map (firsts Receivers rows) receiver_stated, few_receivers, sound.few_receivers);
        few_sources = omega (arith, length-map (firsts Sources rows) (source_stated rows), few_sources, sound.few_sources);
        few_groups = subst (λ (gs : List GroupRow). length gs ≤ 8) (sym groups) sound.few_groups;
        outputs_of_groups = as_many ∙ sound.outputs_of_groups ∙ ap length (sym groups);
        some_outputs = subst (AllByRecursion (λ os. (1 ≤ length os) × (length os ≤ 128))) (sym outputs) some_outputs;
        known_receivers = known_receivers;
        known_sources = subst (AllByRecursion (AllByRecursion (λ o. o.source < length table.sources))) (sym outputs) known_outputs;
        receiver_rows = receivers_are;
        source_rows = sources_are;
        group_rows = subst (AllByRecursion IsGroupRow) (sym groups) sound.group_rows;
        intervals = subst (AllByRecursion (AllByRecursion IsInterval)) (sym outputs) intervals;
        holds = subst (AllByRecursion (AllByRecursion IsHold)) (sym outputs) holds;
        no_holds = λ one. absurd (omega (arith, one));
        apart = are_apart;
        own_receivers = own_receivers;
        own_names = own_names;
        own_groups = subst (HaveOwn (λ (g : GroupRow). g.name)) (sym groups) sound.own_groups;
        own_sources = subst (AllByRecursion HaveOwnSources) (sym outputs) own_outputs;
      }
