-- The version of an equipment table (profile: equipment table).
use Rattle.std.specs.Prelude.{codes, pos, if◌then◌else◌}
use Rattle.std.specs.Ordering.{int_eq}
use Rattle.toml.specs.Data.{Data}
use Rattle.a429_equipment.specs.declared.version.TableVersion.{TableVersion}
use Rattle.a429_equipment.specs.declared.version.TableVersion.TheVariants.{One, Two}
use Rattle.a429_table.specs.Tree.{integer_at}

-- 2 if the root states it, otherwise 1: a root that states neither has the fault that is tested first
unfoldable pub version_of : Data → TableVersion
version_of root = if int_eq (integer_at (codes "version") root) (pos 2) then Two else One
