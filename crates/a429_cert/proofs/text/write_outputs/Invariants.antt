use Rattle.std.proofs.Common.{◌≡◌, ◌++◌, map, take, string_bytes}
use Rattle.std.specs.List.{flat_map}
use Rattle.a429_slots.specs.Tables.{order_of}
use Rattle.a429_cert.specs.Spelling.{output_text}
use Rattle.a429_cert.specs.PlanText.{listing_of}
use Rattle.a429_cert.proofs.text.write_outputs.Given as goal

abbrev pub invariant-loop-place : goal.invariant-loop-place
invariant-loop-place l = string_bytes l.text ≡ string_bytes l.fn.text ++ flat_map output_text (map (listing_of l.version l.sources l.table) (take l.place (order_of l.table)))
