-- The index in which the source of a word is looked up (vocabulary of contracts).
use Rattle.std.specs.Prelude.{◌≡◌, ◌==◌, ◌&&◌, ◌+◌, ◌*◌, ◌<◌, ℕ, Bool, true, List, Option, Some, None, length, slice_index_or, slice_set, position, if◌then◌else◌}
use Rattle.std.specs.Option.{option_map_or, option_or}
use Rattle.a429_equipment.specs.declared.rows.SourceRow.{SourceRow}

-- the source has the words of receiver r with this label and SDI
abbrev pub has_words : ℕ → ℕ → ℕ → SourceRow → Bool
has_words r label sdi s = s.receiver == r && (s.label == label && option_map_or (λ k. k == sdi) s.sdi true)

-- the place of a receiver, a label and an SDI: 1024 places a receiver, and 4 of them a label
unfoldable pub place : ℕ → ℕ → ℕ → ℕ
place r label sdi = 1024 * r + (4 * label + sdi)

abbrev pub entry_at : List (Option ℕ) → ℕ → ℕ → ℕ → Option ℕ
entry_at places r label sdi = slice_index_or places (place r label sdi) None

-- each place has the number of the first source that has its words
pub record IsIndex (places : List (Option ℕ)) (receivers : ℕ) (sources : List SourceRow) : Type 0 where
  pub size : length places ≡ 1024 * receivers
  pub entries : (r label sdi : ℕ) → r < receivers → label < 256 → sdi < 4 → entry_at places r label sdi ≡ position (has_words r label sdi) sources

-- what the place of a receiver, a label and an SDI is given after one more source
abbrev pub given_at : List (Option ℕ) → ℕ → SourceRow → ℕ → ℕ → ℕ → Option ℕ
given_at places number s r label sdi = option_or (entry_at places r label sdi) (if has_words r label sdi s then Some number else None)

-- the places after the words of one SDI were given to a source
unfoldable pub with_words : List (Option ℕ) → ℕ → SourceRow → ℕ → List (Option ℕ)
with_words places number s sdi =
    if option_map_or (λ k. k == sdi) s.sdi true
    then slice_set places (place s.receiver s.label sdi) (option_or (entry_at places s.receiver s.label sdi) (Some number))
    else places

-- the places have the words of one more source, but those that an earlier source has
abbrev pub GainSource : List (Option ℕ) → List (Option ℕ) → ℕ → SourceRow → Type 0
GainSource before after number s =
    (r label sdi : ℕ) → label < 256 → sdi < 4 → entry_at after r label sdi ≡ given_at before number s r label sdi
