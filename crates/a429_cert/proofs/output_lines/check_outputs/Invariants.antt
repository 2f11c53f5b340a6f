use Rattle.std.proofs.Common.{◌≡◌, ◌+◌, ◌-◌, map, take, drop, length}
use Rattle.std.specs.List.{filter_map}
use Rattle.a429_cert.specs.Earlier.{AreNoted}
use Rattle.a429_cert.specs.Views.{listing}
use Rattle.a429_cert.specs.Reading.{output_line}
use Rattle.a429_cert.specs.Lines.{lines_of}
use Rattle.a429_cert.specs.Faults.{output_faults, first_no}
use Rattle.a429_cert.proofs.output_lines.check_outputs.Given as goal

abbrev pub invariant-loop-place : goal.invariant-loop-place
invariant-loop-place l = record {
  listed : map listing l.earlier.lines.items ≡ filter_map (output_line l.version) (take l.place (lines_of l.fn.lines.rest.now));
  noted : AreNoted l.group.outputs.items l.earlier;
  rest : lines_of l.lines.rest.now ≡ drop l.place (lines_of l.fn.lines.rest.now);
  answer : first_no l.number (output_faults l.version l.group l.buses (lines_of l.fn.lines.rest.now) 0 (length l.group.outputs.items))
      ≡ first_no (l.number + l.place) (output_faults l.version l.group l.buses (lines_of l.fn.lines.rest.now) l.place (length l.group.outputs.items - l.place));
}
