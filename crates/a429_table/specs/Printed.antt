-- How faults and places are printed (profile: docs/FORMATS.md, Kinds of a table).
use Rattle.std.specs.Prelude.{codes, ℕ, List, ◌++◌}
use Rattle.std.specs.Fmt.{decimal}
use Rattle.a429_table.specs.declared.fault.FaultKind.{FaultKind}
use Rattle.a429_table.specs.declared.fault.FaultKind.TheVariants.{NotToml, Version, UnknownKey, MissingKey, WrongKind, Rate, TooMany, Name, DuplicateName, Label, Sdi, Interval, UnknownName, DuplicateSource, DuplicateOutput, EmptyGroup, Hold}
use Rattle.a429_table.specs.declared.fault.TablePlace.{TablePlace}
use Rattle.a429_table.specs.declared.fault.TablePlace.TheVariants.{Root, Receiver, Source, Group, Output}

unfoldable pub kind_text : FaultKind → List ℕ
kind_text NotToml = codes "not-toml"
kind_text Version = codes "version"
kind_text UnknownKey = codes "unknown-key"
kind_text MissingKey = codes "missing-key"
kind_text WrongKind = codes "wrong-kind"
kind_text Rate = codes "rate"
kind_text TooMany = codes "too-many"
kind_text Name = codes "name"
kind_text DuplicateName = codes "duplicate-name"
kind_text Label = codes "label"
kind_text Sdi = codes "sdi"
kind_text Interval = codes "interval"
kind_text UnknownName = codes "unknown-name"
kind_text DuplicateSource = codes "duplicate-source"
kind_text DuplicateOutput = codes "duplicate-output"
kind_text EmptyGroup = codes "empty-group"
kind_text Hold = codes "hold"

-- an output by its group's number and its own
unfoldable pub place_text : TablePlace → List ℕ
place_text Root = codes "root"
place_text (Receiver i) = codes "receiver " ++ decimal i
place_text (Source i) = codes "source " ++ decimal i
place_text (Group i) = codes "group " ++ decimal i
place_text (Output i j) = codes "output " ++ decimal i ++ codes " " ++ decimal j
