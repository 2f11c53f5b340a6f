use Rattle.std.proofs.Common.{◌≡◌, length}
use Rattle.std.specs.Prelude.{filter_map}
use Rattle.a429_logs.specs.LogFields.{quoted_field_in, quoted_left}
use Rattle.a429_logs.proofs.fields.QuotedParts.next_field.Given as goal

abbrev pub invariant-loop-part : goal.invariant-loop-part
invariant-loop-part l = record {
  separator : l.self.separator ≡ l.initial.self.separator;
  left : filter_map (quoted_field_in l.initial.self.separator) (quoted_left l.self) ≡ filter_map (quoted_field_in l.initial.self.separator) (quoted_left l.initial.self);
}

abbrev pub decreases-loop-part : goal.decreases-loop-part
decreases-loop-part l = length (quoted_left l.self)
