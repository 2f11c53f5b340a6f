use Rattle.std.proofs.Common.{◌≡◌, length}
use Rattle.std.specs.Prelude.{filter_map}
use Rattle.a429_logs.specs.LogFields.{field_in, parts_left}
use Rattle.a429_logs.proofs.fields.Parts.next_field.Given as goal

abbrev pub invariant-loop-part : goal.invariant-loop-part
invariant-loop-part l = record {
  separator : l.self.separator ≡ l.initial.self.separator;
  left : filter_map (field_in l.initial.self.separator) (parts_left l.self) ≡ filter_map (field_in l.initial.self.separator) (parts_left l.initial.self);
}

abbrev pub decreases-loop-part : goal.decreases-loop-part
decreases-loop-part l = length (parts_left l.self)
