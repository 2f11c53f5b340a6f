-- How repeats are found among the rows of the record. A row repeats an earlier one here if the format says so, provided
-- that the table has no fault of an earlier kind (profile: docs/FORMATS.md, Equipment table).
use Rattle.std.specs.Prelude.{◌≡◌, ◌==◌, ◌+◌, ◌*◌, ◌^◌, ℕ, min, List, [], ◌∷◌, map, filter, replicate, Bool, false, not, Option, slice_get, slice_index, slice_index_or, slice_set, bit_and, bit_or}
use Rattle.std.specs.Option.{option_map_or}
use Rattle.toml.specs.Data.{Data}
use Rattle.a429_equipment.specs.NameForm.{short_name}
use Rattle.a429_equipment.specs.declared.rows.SourceRow.{SourceRow}
use Rattle.a429_equipment.specs.declared.rows.OutputRow.{OutputRow}
use Rattle.a429_table.specs.declared.build.WordRows.{WordRows}
use Rattle.a429_table.specs.declared.fault.FaultKind.{FaultKind}
use Rattle.a429_table.specs.declared.fault.FaultKind.TheVariants.{DuplicateSource, DuplicateOutput}
use Rattle.a429_table.specs.declared.fault.TablePlace.{TablePlace}
use Rattle.a429_table.specs.declared.fault.TablePlace.TheVariants.{Source, Output}
use Rattle.a429_table.specs.declared.repeats.Repeats.{Repeats}
use Rattle.a429_table.specs.declared.repeats.Words.{Words}
use Rattle.a429_table.specs.Stated.{stated}
use Rattle.a429_table.specs.Walk.{Stop}
use Rattle.a429_table.specs.Faults.{stands}

-- the bit of an SDI, or these for any
abbrev pub bits_of : ℕ → Option ℕ → ℕ
bits_of any sdi = option_map_or (λ k. 2 ^ k) sdi any

-- the words that a source is for: any SDI meets each
abbrev pub source_words : SourceRow → Words
source_words s = record { place = 256 * min s.receiver 15 + s.label; bits = bits_of 15 s.sdi }

-- the words of a source as outputs send them: any SDI meets any alone
abbrev pub sent_words : SourceRow → Words
sent_words s = record { place = s.label; bits = bits_of 16 s.sdi }

abbrev pub output_words : List SourceRow → OutputRow → Words
output_words sources o = option_map_or sent_words (slice_get sources o.source) (record { place = 0; bits = 0 })

-- one of the bits is taken at the place
abbrev pub is_taken : List ℕ → Words → Bool
is_taken taken w = not (bit_and (slice_index taken w.place) w.bits == 0)

abbrev pub with_words : List ℕ → Words → List ℕ
with_words taken w = slice_set taken w.place (bit_or (slice_index taken w.place) w.bits)

-- whether each row takes a bit that is taken
abbrev pub repeats_from : List ℕ → List Words → List Bool
repeats_from taken [] = []
repeats_from taken (w ∷ ws) = is_taken taken w ∷ repeats_from (with_words taken w) ws

-- places of which nothing is taken
unfoldable pub free : ℕ → List ℕ
free places = replicate places 0

abbrev pub repeats_among : ℕ → List Words → List Bool
repeats_among places ws = repeats_from (free places) ws

-- whether each output of a group repeats an earlier one of it
abbrev pub group_repeats : List SourceRow → List OutputRow → List Bool
group_repeats sources os = repeats_among 256 (map (output_words sources) os)

-- these are the repeats of some sources, and of the outputs of each group
pub record AreRepeatsIn (sources : List SourceRow) (outputs : List (List OutputRow)) (repeats : Repeats) : Type 0 where
  pub of_sources : repeats.sources.items ≡ repeats_among 4096 (map source_words sources)
  pub of_outputs : map (λ v. v.items) repeats.outputs.items ≡ map (group_repeats sources) outputs

-- a source; a name of more than 16 bytes, which is a fault, is left out
abbrev pub shortened : SourceRow → SourceRow
shortened s = record s { name = short_name s.name }

-- the rows are those of the record of a table, but for such names
pub record AreRowsOf (root : Data) (rows : WordRows) : Type 0 where
  pub sources : rows.sources.items ≡ map shortened (stated root).sources
  pub outputs : map (λ v. v.items) rows.outputs.items ≡ (stated root).outputs

abbrev pub source_flag : Repeats → TablePlace → Bool
source_flag repeats (Source i) = slice_index_or repeats.sources.items i false
source_flag repeats _ = false

abbrev pub output_flag : Repeats → TablePlace → Bool
output_flag repeats (Output g j) = option_map_or (λ flags. slice_index_or flags.items j false) (slice_get repeats.outputs.items g) false
output_flag repeats _ = false

-- what is asked for a kind at a place
unfoldable pub is_found : Repeats → Data → FaultKind → Stop → Bool
is_found repeats root DuplicateSource s = source_flag repeats s.0
is_found repeats root DuplicateOutput s = output_flag repeats s.0
is_found repeats root kind s = stands root kind s

-- what a test finds for a kind, in the order of the stops
abbrev pub found : (FaultKind → Stop → Bool) → List Stop → FaultKind → List (FaultKind × TablePlace)
found test stops kind = map (λ s. (kind, s.0)) (filter (test kind) stops)
