-- The faults of a table: which kind is at which place (profile: docs/FORMATS.md, Equipment table).
use Rattle.std.specs.Prelude.{codes, ℕ, List, [], ◌∷◌, length, map, filter, ℤ, pos, negsuc, Bool, true, false, not, ◌&&◌, ◌||◌, Option, Some, None, is_none, slice_get, nat_lt, nat_le, int_le, ◌==◌}
use Rattle.std.specs.Option.{option_map_or, option_and_then}
use Rattle.std.specs.Ordering.{int_eq}
use Rattle.std.specs.List.{list_any, list_all, flat_map}
use Rattle.std.specs.Str.{bytes_eq}
use Rattle.toml.specs.Data.{Data, string, integer, array, get}
use Rattle.a429_table.specs.declared.fault.FaultKind.{FaultKind}
use Rattle.a429_table.specs.declared.fault.FaultKind.TheVariants.{NotToml, Version, UnknownKey, MissingKey, WrongKind, Rate, TooMany, Name, DuplicateName, Label, Sdi, Interval, UnknownName, DuplicateSource, DuplicateOutput, EmptyGroup, Hold}
use Rattle.a429_table.specs.declared.fault.TablePlace.{TablePlace}
use Rattle.a429_table.specs.declared.fault.TablePlace.TheVariants.{Root, Receiver, Source, Group, Output}
use Rattle.a429_table.specs.declared.columns.Shape.{Shape}
use Rattle.a429_table.specs.declared.columns.Shape.TheVariants.{Integer, Text, Texts, Tables, IntegerOrText}
use Rattle.a429_equipment.specs.declared.version.TableVersion.{TableVersion}
use Rattle.a429_equipment.specs.declared.version.TableVersion.TheVariants.{One, Two}
use Rattle.a429_table.specs.Columns.{Column, columns}
use Rattle.a429_table.specs.Tree.{elements, keys_of, is_table, text_of, text_at, integer_at, get_integer, rows_at}
use Rattle.a429_table.specs.Version.{version_of}
use Rattle.a429_table.specs.Walk.{Stop, walk, earlier}
use Rattle.a429_equipment.specs.Limits.{longest_interval, most_sends}
use Rattle.a429_equipment.specs.NameForm.{is_name}
use Rattle.a429_word.specs.Texts.{label_value}
use Rattle.a429_filter.specs.FilterTexts.{is_filter}
use Rattle.a429_table.specs.Names.{name_of, number_named}

-- low to high
abbrev pub is_within : ℕ → ℕ → ℤ → Bool
is_within low high (pos n) = nat_le low n && nat_le n high
is_within low high (negsuc n) = false

-- ## The shape of the tables

-- `version` is absent, or is neither the integer 1 nor the integer 2
unfoldable pub has_wrong_version : TablePlace → Data → Bool
has_wrong_version Root d = let version = integer_at (codes "version") d in not (int_eq version (pos 1) || int_eq version (pos 2))
has_wrong_version _ d = false

abbrev pub is_column_key : TableVersion → TablePlace → List ℕ → Bool
is_column_key version place key = list_any (λ c. bytes_eq c.key key) (columns version place)

-- a key that the table does not have
unfoldable pub has_unknown_key : TableVersion → TablePlace → Data → Bool
has_unknown_key version place d = list_any (λ key. not (is_column_key version place key)) (keys_of d)

-- a required key is absent
unfoldable pub lacks_key : TableVersion → TablePlace → Data → Bool
lacks_key version place d = is_table d && list_any (λ c. c.required && is_none (get c.key d)) (columns version place)

abbrev pub is_text : Data → Bool
is_text (string s) = true
is_text _ = false

abbrev pub has_shape : Shape → Data → Bool
has_shape Integer (integer z) = true
has_shape Text (string s) = true
has_shape Texts (array ds) = list_all is_text (elements ds)
has_shape Tables (array ds) = true
has_shape IntegerOrText (integer z) = true
has_shape IntegerOrText (string s) = true
has_shape _ _ = false

-- the value at a column, if there is one, has another shape
abbrev pub misfits : Data → Column → Bool
misfits d c = option_map_or (λ v. not (has_shape c.shape v)) (get c.key d) false

-- no table, or a value of another kind
unfoldable pub has_wrong_kind : TableVersion → TablePlace → Data → Bool
has_wrong_kind version place d = not (is_table d) || list_any (misfits d) (columns version place)

-- the value at a column has its shape, or there is none and none is required
abbrev pub fills : Data → Column → Bool
fills d c = option_map_or (has_shape c.shape) (get c.key d) (not c.required)

-- a table that lacks no key, with values of the kinds of its columns
unfoldable pub fits_columns : TableVersion → Stop → Bool
fits_columns version s = is_table s.1 && list_all (fills s.1) (columns version s.0)

abbrev pub all_fit_columns : TableVersion → List Stop → Bool
all_fit_columns version stops = list_all (fits_columns version) stops

-- ## The values

-- 100000, or 12000 to 14500
abbrev pub is_rate : ℤ → Bool
is_rate rate = is_within 100000 100000 rate || is_within 12000 14500 rate

-- at the root in version 1, at each group in version 2 (profile: equipment table, version 2)
unfoldable pub has_wrong_rate : TableVersion → TablePlace → Data → Bool
has_wrong_rate One Root d = not (is_rate (integer_at (codes "rate") d))
has_wrong_rate Two (Group i) d = not (is_rate (integer_at (codes "rate") d))
has_wrong_rate _ _ d = false

unfoldable pub has_too_many : TablePlace → Data → Bool
has_too_many Root d =
    (nat_lt 16 (length (rows_at (codes "receiver") d)) || nat_lt 256 (length (rows_at (codes "source") d)))
    || nat_lt 8 (length (rows_at (codes "group") d))
has_too_many (Receiver i) d = nat_lt 32 (length (rows_at (codes "filters") d))
has_too_many (Group i) d = nat_lt 128 (length (rows_at (codes "output") d))
has_too_many _ d = false

-- receivers, sources and groups have names
abbrev pub is_named : TablePlace → Bool
is_named (Receiver i) = true
is_named (Source i) = true
is_named (Group i) = true
is_named _ = false

unfoldable pub has_bad_name : TablePlace → Data → Bool
has_bad_name place d = is_named place && not (is_name (name_of d))

unfoldable pub has_bad_label : TablePlace → Data → Bool
has_bad_label (Receiver i) d = list_any (λ f. not (is_filter (text_of (Some f)))) (rows_at (codes "filters") d)
has_bad_label (Source i) d = is_none (label_value (text_at (codes "label") d))
has_bad_label _ d = false

-- an integer 0 to 3, or the text `any`
abbrev pub is_sdi : Option Data → Bool
is_sdi (Some (integer z)) = is_within 0 3 z
is_sdi (Some (string s)) = bytes_eq s (codes "any")
is_sdi _ = false

unfoldable pub has_bad_sdi : TablePlace → Data → Bool
has_bad_sdi (Source i) d = not (is_sdi (get (codes "sdi") d))
has_bad_sdi _ d = false

-- both within 1 to the longest interval, and the minimum not above the maximum
abbrev pub is_interval : ℤ → ℤ → Bool
is_interval least most = (is_within 1 longest_interval least && is_within 1 longest_interval most) && int_le least most

unfoldable pub has_bad_interval : TablePlace → Data → Bool
has_bad_interval (Output i j) d = not (is_interval (integer_at (codes "min_us") d) (integer_at (codes "max_us") d))
has_bad_interval _ d = false

-- none, or 1 to a million
abbrev pub is_hold : Option ℤ → Bool
is_hold hold = option_map_or (is_within 1 most_sends) hold true

-- an output's hold is out of range (profile: equipment table, version 2)
unfoldable pub has_bad_hold : TablePlace → Data → Bool
has_bad_hold (Output i j) d = not (is_hold (get_integer (codes "hold") d))
has_bad_hold _ d = false

-- ## Names that stand for other tables

-- the name is that of an earlier table of the same array
unfoldable pub repeats_name : Data → TablePlace → Data → Bool
repeats_name root place d = is_named place && list_any (λ e. bytes_eq (name_of d) (name_of e)) (earlier root place)

-- what a source calls its receiver, or an output its source
unfoldable pub names_nothing : Data → TablePlace → Data → Bool
names_nothing root (Source i) d = is_none (number_named (text_at (codes "receiver") d) (rows_at (codes "receiver") root))
names_nothing root (Output i j) d = is_none (number_named (text_at (codes "source") d) (rows_at (codes "source") root))
names_nothing root _ d = false

-- the number of an SDI, or none for any
abbrev pub sdi_of : Option Data → Option ℤ
sdi_of (Some (integer z)) = Some z
sdi_of _ = None

abbrev pub sdi_at : Data → Option ℤ
sdi_at d = sdi_of (get (codes "sdi") d)

-- equal, or one of them any
abbrev pub sdis_meet : Option ℤ → Option ℤ → Bool
sdis_meet (Some a) (Some b) = int_eq a b
sdis_meet _ _ = true

-- equal; any equals only any
abbrev pub same_sdi : Option ℤ → Option ℤ → Bool
same_sdi (Some a) (Some b) = int_eq a b
same_sdi None None = true
same_sdi _ _ = false

-- two sources that one word can be for
abbrev pub sources_meet : Data → Data → Bool
sources_meet a b =
    (bytes_eq (text_at (codes "receiver") a) (text_at (codes "receiver") b) && bytes_eq (text_at (codes "label") a) (text_at (codes "label") b))
    && sdis_meet (sdi_at a) (sdi_at b)

unfoldable pub repeats_source : Data → TablePlace → Data → Bool
repeats_source root (Source i) d = list_any (λ e. sources_meet e d) (earlier root (Source i))
repeats_source root _ d = false

-- the two sources have the same label and SDI
abbrev pub same_words : Option Data → Option Data → Bool
same_words (Some a) (Some b) = bytes_eq (text_at (codes "label") a) (text_at (codes "label") b) && same_sdi (sdi_at a) (sdi_at b)
same_words _ _ = false

-- the source of an output
abbrev pub source_of : Data → Data → Option Data
source_of root d =
    option_and_then (slice_get (rows_at (codes "source") root)) (number_named (text_at (codes "source") d) (rows_at (codes "source") root))

unfoldable pub repeats_output : Data → TablePlace → Data → Bool
repeats_output root (Output i j) d = list_any (λ e. same_words (source_of root e) (source_of root d)) (earlier root (Output i j))
repeats_output root _ d = false

unfoldable pub is_empty_group : TablePlace → Data → Bool
is_empty_group (Group i) d = length (rows_at (codes "output") d) == 0
is_empty_group _ d = false

-- ## The least fault

-- whether a place of the table has a fault of this kind
unfoldable pub stands : Data → FaultKind → Stop → Bool
stands root NotToml s = false
stands root Version s = has_wrong_version s.0 s.1
stands root UnknownKey s = has_unknown_key (version_of root) s.0 s.1
stands root MissingKey s = lacks_key (version_of root) s.0 s.1
stands root WrongKind s = has_wrong_kind (version_of root) s.0 s.1
stands root Rate s = has_wrong_rate (version_of root) s.0 s.1
stands root TooMany s = has_too_many s.0 s.1
stands root Name s = has_bad_name s.0 s.1
stands root DuplicateName s = repeats_name root s.0 s.1
stands root Label s = has_bad_label s.0 s.1
stands root Sdi s = has_bad_sdi s.0 s.1
stands root Interval s = has_bad_interval s.0 s.1
stands root UnknownName s = names_nothing root s.0 s.1
stands root DuplicateSource s = repeats_source root s.0 s.1
stands root DuplicateOutput s = repeats_output root s.0 s.1
stands root EmptyGroup s = is_empty_group s.0 s.1
stands root Hold s = has_bad_hold s.0 s.1

-- the kinds of a document, in order
unfoldable pub kinds : List FaultKind
kinds =
    Version ∷ UnknownKey ∷ MissingKey ∷ WrongKind ∷ Rate ∷ TooMany ∷ Name ∷ DuplicateName ∷ Label ∷ Sdi ∷ Interval ∷ UnknownName
    ∷ DuplicateSource ∷ DuplicateOutput ∷ EmptyGroup ∷ Hold ∷ []

-- the faults of one kind, in walk order
abbrev pub faults_of : Data → FaultKind → List (FaultKind × TablePlace)
faults_of root kind = map (λ s. (kind, s.0)) (filter (stands root kind) (walk root))

-- every fault of the table, by kind and then in walk order: the first is the least
unfoldable pub faults : Data → List (FaultKind × TablePlace)
faults root = flat_map (faults_of root) kinds

abbrev pub first : {X : Type 0} → List X → Option X
first [] = None
first (x ∷ xs) = Some x
