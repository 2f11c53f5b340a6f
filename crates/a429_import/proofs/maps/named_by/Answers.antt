use Rattle.std.proofs.Common.{◌∙◌, sym}
use Rattle.a429_import.proofs.ImportMaps.{heading_stays}
use Rattle.a429_import.proofs.maps.named_by.Goals as goal

pub returns-then-is_empty : goal.returns-then-is_empty
returns-then-is_empty c = heading_stays c.args.maps.now c.args.heading (sym c.is_empty.ensures ∙ c.if-is_empty.true)
