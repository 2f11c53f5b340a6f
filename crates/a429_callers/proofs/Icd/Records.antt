-- The table that is imported_table from an interface control document: its sources and receivers.
use Rattle.std.proofs.Common.{◌≡◌, ◌∙◌, ℕ, zero, suc, ◌<◌, true, List, [], ◌∷◌, ◌++◌, length, map, Option, None, Some, ap, sym, subst, refl, arith, eq-eqb}
use Rattle.std.specs.Prelude.{◌==◌, option_and_then, slice_get}
use Rattle.std.specs.List.{AllByRecursion, AllZip}
use Rattle.std.specs.Option.{option_map_or}
use Rattle.std.proofs.lemmas.Map.Keys.{any_passes_from_place}
use Rattle.std.proofs.lemmas.Option.{get_or_from_slice_get, none-some, same_Some}
use Rattle.a429_word.proofs.Lists.{all_at, get_within}
use Rattle.a429_equipment.specs.Sound.{IsSound}
use Rattle.a429_equipment.specs.TableRecord.{TableRecord, outputs_in}
use Rattle.a429_equipment.specs.declared.rows.GroupRow.{GroupRow}
use Rattle.a429_equipment.specs.declared.rows.OutputRow.{OutputRow}
use Rattle.a429_equipment.specs.declared.rows.ReceiverRow.{ReceiverRow}
use Rattle.a429_equipment.specs.declared.rows.SourceRow.{SourceRow}
use Rattle.a429_slots.specs.Planned.{HaveSources}
use Rattle.a429_table.proofs.Absence.{all_from}
use Rattle.a429_table.proofs.Apart.{mapped_at}
use Rattle.a429_table.proofs.AtKeys.{get_mapped}
use Rattle.a429_import.specs.declared.firsts.Part.{Part}
use Rattle.a429_import.specs.declared.firsts.Part.TheVariants.{Receivers, Sources}
use Rattle.a429_import.specs.declared.rows.ImportRow.{ImportRow}
use Rattle.a429_callers.specs.ImportedIcd.{IsSameOutput, IsSameSource, IsSentPart}
use Rattle.a429_import.specs.ImportTables.{filters_stated, firsts, number_of, receiver_stated, record_stated, source_stated, words}
use Rattle.a429_documents.specs.Lint.{has_source}
use Rattle.a429_documents.specs.Losses.{IsSent}
use Rattle.a429_callers.proofs.Icd.NamedFirsts.{own_firsts}
use Rattle.a429_callers.proofs.Icd.Groups.{groups_again, new_number, outputs_again}
use Rattle.a429_callers.proofs.Icd.Rows.{IsRowOf, one_receiver, one_source, read_groups, read_output, read_table, rows_are, source_at, source_there}
use Rattle.a429_import.proofs.ImportRecords.{all_firsts}
use Rattle.a429_callers.proofs.Icd.RenumberedPlans.{AreAlike, AreKept, IsRenumbered, renumbered_row}
use Rattle.a429_import.proofs.RowsInRecord.{IsAt, first_of}

-- ---- lists

at_front : {X : Type 0} (xs ys : List X) (i : ℕ) (x : X) → slice_get xs i ≡ Some x → slice_get (xs ++ ys) i ≡ Some x
at_front [] ys i x at = absurd (none-some x at)
at_front (z ∷ xs) ys zero x at = at
at_front (z ∷ xs) ys (suc i) x at = at_front xs ys i x at

at_back : {X : Type 0} (xs ys : List X) (x : X) → IsAt ys x → IsAt (xs ++ ys) x
at_back [] ys x at = at
at_back (z ∷ xs) ys x at = let later = at_back xs ys x at in (suc later.0, later.1)

pub no_words : words [] ≡ []
unfolding words
no_words = refl

module _ (e : TableRecord) where
  -- the row of the output is one of those of the table
  abbrev pub IsRead : OutputRow → Type 0
  IsRead o = (g : GroupRow) × IsAt (read_table e) (read_output e g o)

  read_block : (g : GroupRow) (os : List OutputRow) → ((x : ImportRow) → IsAt (map (read_output e g) os) x → IsAt (read_table e) x) → AllByRecursion IsRead os
  read_block g [] up = tt
  read_block g (o ∷ os) up = ((g, up (read_output e g o) (0, refl)), read_block g os (λ x at. up x (suc at.0, at.1)))

  read_each : (groups : List GroupRow) (outputs : List (List OutputRow)) → length outputs ≡ length groups → ((x : ImportRow) → IsAt (read_groups e groups outputs) x → IsAt (read_table e) x) → AllByRecursion (AllByRecursion IsRead) outputs
  read_each [] [] long up = tt
  read_each [] (os ∷ outputs) long up = absurd (omega (arith, long))
  read_each (g ∷ groups) [] long up = tt
  read_each (g ∷ groups) (os ∷ outputs) long up = (
    read_block g os (λ x at. up x (at.0, at_front (map (read_output e g) os) (read_groups e groups outputs) at.0 x at.1)),
    read_each groups outputs (omega (arith, long)) (λ x at. up x (at_back (map (read_output e g) os) (read_groups e groups outputs) x at)),
  )

module _ (e : TableRecord) (sound : IsSound e) (plain : AllByRecursion (λ receiver. receiver.filters ≡ None) e.receivers) where
  abbrev pub imported_table : TableRecord
  imported_table = record_stated (read_table e)

  -- the first rows are rows of the table
  pub first_is_of : (part : Part) (i : ℕ) (y : ImportRow) → slice_get (firsts part (read_table e)) i ≡ Some y → IsRowOf e y × IsAt (read_table e) y
  first_is_of part i y at =
      let among : IsAt (read_table e) y =
      all_at (IsAt (read_table e)) (firsts part (read_table e)) i y (all_firsts (IsAt (read_table e)) part (read_table e) [] (all_from (IsAt (read_table e)) (read_table e) (λ k x there. (k, there)))) at in
      (all_at (IsRowOf e) (read_table e) among.0 y (rows_are e sound) among.1, among)

  -- ---- receivers

  pub receiver_same : (y : ImportRow) (Y : IsRowOf e y) → receiver_stated y ≡ Y.receiver
  receiver_same y Y =
      let none : Y.receiver.filters ≡ None = all_at (λ (r : ReceiverRow). r.filters ≡ None) e.receivers Y.source.receiver Y.receiver plain Y.receiver_at in
      let filters : filters_stated (words y.texts.filters) ≡ Y.receiver.filters = ap (λ (f : List ℕ). filters_stated (words f)) Y.filters ∙ ap filters_stated no_words ∙ sym none in
      let name = Y.receiver_name in
      λ i. record { name = name i; filters = filters i }

  pub receiver_found : (y : ImportRow) → IsAt (read_table e) y → (Y : IsRowOf e y) → slice_get imported_table.receivers (number_of Receivers (read_table e) y.texts.receiver) ≡ Some Y.receiver
  unfolding record_stated
  receiver_found y at Y =
      let F = first_of Receivers (read_table e) at.0 y at.1 in
      let Z : IsRowOf e F.first = (first_is_of Receivers (number_of Receivers (read_table e) y.texts.receiver) F.first F.there).0 in
      let names : Z.receiver.name ≡ Y.receiver.name = sym Z.receiver_name ∙ F.named ∙ Y.receiver_name in
      let one : Z.source.receiver ≡ Y.source.receiver = sound.own_receivers Z.source.receiver Y.source.receiver Z.receiver Y.receiver Z.receiver_at Y.receiver_at names in
      let same : Z.receiver ≡ Y.receiver = same_Some Z.receiver Y.receiver (sym Z.receiver_at ∙ ap (slice_get e.receivers) one ∙ Y.receiver_at) in
      get_mapped receiver_stated (firsts Receivers (read_table e)) (number_of Receivers (read_table e) y.texts.receiver) F.first F.there
      ∙ ap (λ (r : ReceiverRow). Some r) (receiver_same F.first Z ∙ same)

  -- ---- sources

  stated_same : (y : ImportRow) → IsAt (read_table e) y → (Y : IsRowOf e y) → IsSameSource imported_table e (source_stated (read_table e) y) Y.source
  stated_same y at Y = record { name = Y.source_name; label = Y.label; sdi = Y.sdi; receiver = receiver_found y at Y ∙ sym Y.receiver_at }

  -- the source of a row is the one that the row names
  pub source_is : (x : ImportRow) (X : IsRowOf e x) (n : ℕ) (s : SourceRow) → slice_get e.sources n ≡ Some s → x.texts.source ≡ s.name → (X.number ≡ n) × (X.source ≡ s)
  source_is x X n s there named =
      let one : X.number ≡ n = sound.own_names X.number n X.source s X.source_at there (sym X.source_name ∙ named) in
      (one, same_Some X.source s (sym X.source_at ∙ ap (slice_get e.sources) one ∙ there))

  pub source_found : (x : ImportRow) → IsAt (read_table e) x → (X : IsRowOf e x)
      → (s : SourceRow) × (slice_get imported_table.sources (number_of Sources (read_table e) x.texts.source) ≡ Some s) × IsSameSource imported_table e s X.source
  unfolding record_stated
  source_found x at X =
      let F = first_of Sources (read_table e) at.0 x at.1 in
      let number : ℕ = number_of Sources (read_table e) x.texts.source in
      let Y = first_is_of Sources number F.first F.there in
      let one : Y.0.source ≡ X.source = one_source e sound F.first x Y.0 X F.named in (
        source_stated (read_table e) F.first,
        get_mapped (source_stated (read_table e)) (firsts Sources (read_table e)) number F.first F.there,
        subst (IsSameSource imported_table e (source_stated (read_table e) F.first)) one (stated_same F.first Y.1 Y.0),
      )

  -- of an output
  pub output_source : (o : OutputRow) → o.source < length e.sources → IsRead e o → (s : SourceRow) × (slice_get imported_table.sources (new_number e o.source) ≡ Some s) × IsSameSource imported_table e s (source_at e o.source)
  output_source o below (g, at) =
      let x : ImportRow = read_output e g o in
      let X : IsRowOf e x = all_at (IsRowOf e) (read_table e) at.0 x (rows_are e sound) at.1 in
      let is = source_is x X o.source (source_at e o.source) (source_there e sound o.source below) refl in
      let s = source_found x at X in
      (s.0, s.1, subst (IsSameSource imported_table e s.0) is.1 s.2)

  output_same : (o : OutputRow) → o.source < length e.sources → IsRead e o → IsSameOutput imported_table e (renumbered_row (new_number e) o) o
  output_same o below read =
      let s = output_source o below read in
      record { least = refl; most = refl; hold = refl; source = s.0; other_source = source_at e o.source; there = s.1; other_there = source_there e sound o.source below; same = s.2 }

  outputs_same : (os : List OutputRow) → HaveSources e.sources os → AllByRecursion (IsRead e) os → AllZip (IsSameOutput imported_table e) (map (renumbered_row (new_number e)) os) os
  outputs_same [] known read = tt
  outputs_same (o ∷ os) known read = (output_same o known.0 read.0, outputs_same os known.1 read.1)

  all_same : (outputs : List (List OutputRow)) → AllByRecursion (HaveSources e.sources) outputs → AllByRecursion (AllByRecursion (IsRead e)) outputs
      → AllZip (AllZip (IsSameOutput imported_table e)) (map (map (renumbered_row (new_number e))) outputs) outputs
  all_same [] known read = tt
  all_same (os ∷ outputs) known read = (outputs_same os known.0 read.0, all_same outputs known.1 read.1)

  pub all_read : AllByRecursion (AllByRecursion (IsRead e)) e.outputs
  all_read = read_each e e.groups e.outputs sound.outputs_of_groups (λ x at. at)

  -- ---- each source is sent

  pub source_sent : (n : ℕ) → n < length imported_table.sources → IsSent imported_table n
  unfolding record_stated
  source_sent n below =
      let f : ℕ → ℕ = new_number e in
      let s = get_within imported_table.sources n below in
      let y = mapped_at (source_stated (read_table e)) (firsts Sources (read_table e)) n s.0 s.1 in
      let Y = first_is_of Sources n y.0 y.1 in
      let outputs : slice_get imported_table.outputs Y.0.outputs_at.0 ≡ Some (map (renumbered_row f) Y.0.outputs) =
      ap (λ (os : List (List OutputRow)). slice_get os Y.0.outputs_at.0) (outputs_again e sound) ∙ get_mapped (map (renumbered_row f)) e.outputs Y.0.outputs_at.0 Y.0.outputs Y.0.outputs_at.1 in
      let listed : outputs_in imported_table Y.0.outputs_at.0 ≡ map (renumbered_row f) Y.0.outputs = get_or_from_slice_get imported_table.outputs Y.0.outputs_at.0 (map (renumbered_row f) Y.0.outputs) [] outputs in
      let there : slice_get (outputs_in imported_table Y.0.outputs_at.0) Y.0.output_at.0 ≡ Some (renumbered_row f Y.0.output) =
      ap (λ (os : List OutputRow). slice_get os Y.0.output_at.0) listed ∙ get_mapped (renumbered_row f) Y.0.outputs Y.0.output_at.0 Y.0.output Y.0.output_at.1 in
      let F = first_of Sources (read_table e) Y.1.0 y.0 Y.1.1 in
      let own : number_of Sources (read_table e) y.0.texts.source ≡ n = own_firsts Sources (read_table e) (number_of Sources (read_table e) y.0.texts.source) n F.first y.0 F.there y.1 F.named in
      let source : source_at e Y.0.number ≡ Y.0.source = get_or_from_slice_get e.sources Y.0.number Y.0.source _ Y.0.source_at in
      let name : (source_at e Y.0.output.source).name ≡ y.0.texts.source =
      ap (λ (k : ℕ). (source_at e k).name) Y.0.sends ∙ ap (λ (s : SourceRow). s.name) source ∙ sym Y.0.source_name in (
        Y.0.outputs_at.0,
        Y.0.output_at.0,
        renumbered_row f Y.0.output,
        there,
        ap (number_of Sources (read_table e)) name ∙ own,
      )

  -- ---- each receiver has a source

  receiver_used : (n : ℕ) → n < length imported_table.receivers → has_source imported_table.sources n ≡ true
  unfolding record_stated
  receiver_used n below =
      let r = get_within imported_table.receivers n below in
      let y = mapped_at receiver_stated (firsts Receivers (read_table e)) n r.0 r.1 in
      let Y = first_is_of Receivers n y.0 y.1 in
      let F = first_of Sources (read_table e) Y.1.0 y.0 Y.1.1 in
      let number : ℕ = number_of Sources (read_table e) y.0.texts.source in
      let Z = first_is_of Sources number F.first F.there in
      let G = first_of Receivers (read_table e) Y.1.0 y.0 Y.1.1 in
      let own : number_of Receivers (read_table e) y.0.texts.receiver ≡ n = own_firsts Receivers (read_table e) (number_of Receivers (read_table e) y.0.texts.receiver) n G.first y.0 G.there y.1 G.named in
      let receiver : number_of Receivers (read_table e) F.first.texts.receiver ≡ n = ap (number_of Receivers (read_table e)) (one_receiver e sound F.first y.0 Z.0 Y.0 F.named) ∙ own in
      any_passes_from_place (λ s. s.receiver == n) imported_table.sources number (source_stated (read_table e) F.first) (get_mapped (source_stated (read_table e)) (firsts Sources (read_table e)) number F.first F.there)
      (eq-eqb (number_of Receivers (read_table e) F.first.texts.receiver) n receiver)

  -- ---- the table

  output_alike : (o : OutputRow) → o.source < length e.sources → IsRead e o → AreAlike e.sources imported_table.sources o.source (new_number e o.source)
  output_alike o below read =
      let s = output_source o below read in
      let there = source_there e sound o.source below in
      record {
        name = ap (λ (r : Option SourceRow). option_map_or (λ (u : SourceRow). u.name) r []) s.1 ∙ s.2.name ∙ sym (ap (λ (r : Option SourceRow). option_map_or (λ (u : SourceRow). u.name) r []) there);
        label = ap (λ (r : Option SourceRow). option_map_or (λ (u : SourceRow). u.label) r 0) s.1 ∙ s.2.label ∙ sym (ap (λ (r : Option SourceRow). option_map_or (λ (u : SourceRow). u.label) r 0) there);
        sdi = ap (λ (r : Option SourceRow). option_and_then (λ (u : SourceRow). u.sdi) r) s.1 ∙ s.2.sdi ∙ sym (ap (λ (r : Option SourceRow). option_and_then (λ (u : SourceRow). u.sdi) r) there);
      }

  rows_alike : (os : List OutputRow) → HaveSources e.sources os → AllByRecursion (IsRead e) os → AreKept e.sources imported_table.sources (new_number e) os
  rows_alike [] known read = tt
  rows_alike (o ∷ os) known read = (output_alike o known.0 read.0, rows_alike os known.1 read.1)

  all_alike : (outputs : List (List OutputRow)) → AllByRecursion (HaveSources e.sources) outputs → AllByRecursion (AllByRecursion (IsRead e)) outputs → AllByRecursion (AreKept e.sources imported_table.sources (new_number e)) outputs
  all_alike [] known read = tt
  all_alike (os ∷ outputs) known read = (rows_alike os known.0 read.0, all_alike outputs known.1 read.1)

  pub is_renumbered : e.version ≡ 2 → IsRenumbered imported_table e (new_number e)
  unfolding record_stated
  is_renumbered two = record {
    version = sym two;
    rate = sym (sound.own_rates two);
    groups = groups_again e sound;
    outputs = outputs_again e sound;
    alike = all_alike e.outputs sound.known_sources all_read;
  }

  pub sent_part : e.version ≡ 2 → IsSentPart imported_table e
  unfolding record_stated
  sent_part two = record {
    version = sym two;
    groups = groups_again e sound;
    outputs = subst (λ (os : List (List OutputRow)). AllZip (AllZip (IsSameOutput imported_table e)) os e.outputs) (sym (outputs_again e sound)) (all_same e.outputs sound.known_sources all_read);
    sent = source_sent;
    used = receiver_used;
  }
