-- The names of a table without faults are short.
use Rattle.std.proofs.Common.{◌≡◌, ◌∙◌, ◌≤◌, ℕ, List, [], ◌∷◌, length, map, Option, Some, None, refl, ap, arith, codes, nat_le, true}
use Rattle.std.specs.Prelude.{IsTrue, slice_get, option_map}
use Rattle.std.specs.List.{AllByRecursion}
use Rattle.std.specs.Option.{option_map_or}
use Rattle.std.proofs.lemmas.Bool.{and_parts, leb-true}
use Rattle.std.proofs.lemmas.Bool.Decides.{nat_tests}
use Rattle.std.proofs.lemmas.Option.{slice_get-map}
use Rattle.toml.specs.Data.{Data}
use Rattle.a429_equipment.specs.NameForm.{is_name, short_name}
use Rattle.a429_equipment.specs.Sound.{IsSourceRow}
use Rattle.a429_equipment.specs.declared.rows.OutputRow.{OutputRow}
use Rattle.a429_equipment.specs.declared.rows.SourceRow.{SourceRow}
use Rattle.a429_table.specs.declared.repeats.Repeats.{Repeats}
use Rattle.a429_table.specs.declared.repeats.Words.{Words}
use Rattle.a429_table.specs.declared.fault.FaultKind.TheVariants.{Name}
use Rattle.a429_table.specs.Faults.{first, faults}
use Rattle.a429_table.specs.Names.{name_of}
use Rattle.a429_table.specs.Tree.{rows_at}
use Rattle.a429_table.specs.Repeats.{AreRepeatsIn, output_words, repeats_among, sent_words, shortened, source_words}
use Rattle.a429_table.specs.Stated.{stated}
use Rattle.a429_table.proofs.Absence.{is_absent, is_faultless}
use Rattle.a429_table.proofs.SoundRows.{group_names, receiver_names}
use Rattle.a429_table.proofs.Soundness.{is_sound}

pub short_is : (name : List ℕ) → length name ≤ 16 → short_name name ≡ name
short_is name few = let test : nat_le (length name) 16 ≡ true = grind (arith, nat_tests) in rw test refl

name_short : (name : List ℕ) → IsTrue (is_name name) → length name ≤ 16
unfolding is_name
name_short name h =
    let p = and_parts _ _ h in
    let q = and_parts _ _ p.0 in
    leb-true (length name) 16 q.1

names_short : (ds : List Data) → AllByRecursion (λ d. IsTrue (is_name (name_of d))) ds → AllByRecursion (λ d. length (name_of d) ≤ 16) ds
names_short [] all = tt
names_short (d ∷ ds) all = (name_short (name_of d) all.0, names_short ds all.1)

pub short_receivers : (root : Data) → first (faults root) ≡ None → AllByRecursion (λ d. length (name_of d) ≤ 16) (rows_at (codes "receiver") root)
short_receivers root none = names_short (rows_at (codes "receiver") root) (receiver_names root (is_absent root Name (is_faultless root none).name))

pub short_groups : (root : Data) → first (faults root) ≡ None → AllByRecursion (λ d. length (name_of d) ≤ 16) (rows_at (codes "group") root)
short_groups root none = names_short (rows_at (codes "group") root) (group_names root (is_absent root Name (is_faultless root none).name))

-- ---- sources

sources_are : (ss : List SourceRow) → AllByRecursion IsSourceRow ss → map shortened ss ≡ ss
sources_are [] all = refl
sources_are (s ∷ ss) all = rw (short_is s.name (name_short s.name all.0.0), sources_are ss all.1) refl

pub stated_sources : (root : Data) → first (faults root) ≡ None → map shortened (stated root).sources ≡ (stated root).sources
stated_sources root none = sources_are (stated root).sources (is_sound root none).source_rows

words_kept : (ss : List SourceRow) → map source_words (map shortened ss) ≡ map source_words ss
words_kept [] = refl
words_kept (s ∷ ss) = ap (λ (ws : List Words). source_words s ∷ ws) (words_kept ss)

sent_kept : (o : Option SourceRow) (none : Words) → option_map_or sent_words (option_map shortened o) none ≡ option_map_or sent_words o none
sent_kept None none = refl
sent_kept (Some s) none = refl

output_kept : (ss : List SourceRow) (o : OutputRow) → output_words (map shortened ss) o ≡ output_words ss o
output_kept ss o =
    let none : Words = record { place = 0; bits = 0 } in
    ap (λ (x : Option SourceRow). option_map_or sent_words x none) (slice_get-map shortened ss o.source) ∙ sent_kept (slice_get ss o.source) none

-- a source repeats another one whatever its name
pub repeats_kept : (ss : List SourceRow) (os : List (List OutputRow)) (repeats : Repeats) → AreRepeatsIn (map shortened ss) os repeats → AreRepeatsIn ss os repeats
repeats_kept ss os repeats are = record {
  of_sources = are.of_sources ∙ ap (repeats_among 4096) (words_kept ss);
  of_outputs = are.of_outputs ∙ ap (λ (f : OutputRow → Words). map (λ (g : List OutputRow). repeats_among 256 (map f g)) os) (λ i o. output_kept ss o i);
}
