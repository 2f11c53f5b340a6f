-- The faults that a row shows by itself, which are sought first: without them a table has few rows (profile: docs/FORMATS.md, Equipment table).
use Rattle.std.specs.Prelude.{Bool, false, not, List, [], ◌∷◌}
use Rattle.a429_equipment.specs.declared.version.TableVersion.{TableVersion}
use Rattle.a429_table.specs.declared.early.Sought.{Sought}
use Rattle.a429_table.specs.declared.early.Sought.TheVariants as sought
use Rattle.a429_table.specs.declared.fault.FaultKind.{FaultKind}
use Rattle.a429_table.specs.declared.fault.FaultKind.TheVariants.{Version, UnknownKey, MissingKey, WrongKind, Rate, TooMany, Name, DuplicateName, Label, Sdi, Interval, UnknownName, DuplicateSource, DuplicateOutput, EmptyGroup, Hold}
use Rattle.a429_table.specs.Faults.{fits_columns, has_too_many, has_unknown_key, has_wrong_kind, has_wrong_rate, has_wrong_version, lacks_key}
use Rattle.a429_table.specs.Walk.{Stop}

-- the kinds of such faults, and the other ones, in order
unfoldable pub early_kinds : List FaultKind
early_kinds = Version ∷ UnknownKey ∷ MissingKey ∷ WrongKind ∷ Rate ∷ TooMany ∷ []

unfoldable pub late_kinds : List FaultKind
late_kinds = Name ∷ DuplicateName ∷ Label ∷ Sdi ∷ Interval ∷ UnknownName ∷ DuplicateSource ∷ DuplicateOutput ∷ EmptyGroup ∷ Hold ∷ []

-- a row of a table of this version shows a fault of an early kind
unfoldable pub shows : TableVersion → FaultKind → Stop → Bool
shows version Version s = has_wrong_version s.0 s.1
shows version UnknownKey s = has_unknown_key version s.0 s.1
shows version MissingKey s = lacks_key version s.0 s.1
shows version WrongKind s = has_wrong_kind version s.0 s.1
shows version Rate s = has_wrong_rate version s.0 s.1
shows version TooMany s = has_too_many s.0 s.1
shows version _ s = false

-- what is sought is at a place
abbrev pub is_sought : TableVersion → Sought → Stop → Bool
is_sought version (sought.Kind kind) s = shows version kind s
is_sought version sought.Misfit s = not (fits_columns version s)
