-- The versions of equipment tables (profile: equipment table).
use Rattle.std.specs.Prelude.{ℕ}
use Rattle.a429_equipment.specs.declared.version.TableVersion.{TableVersion}
use Rattle.a429_equipment.specs.declared.version.TableVersion.TheVariants.{One, Two}

abbrev pub version_number : TableVersion → ℕ
version_number One = 1
version_number Two = 2
