use Rattle.std.proofs.Common.{◌≡◌, true, rules, sym}
use Rattle.a429_cert.specs.Faults.{differ_by_class}
use Rattle.a429_cert.specs.Views.{listing}
use Rattle.a429_cert.proofs.Classes.{classes_apart}
use Rattle.a429_cert.proofs.output_lines.shares.Goals as goal

pub returns-then-differ_by_class : goal.returns-then-differ_by_class
returns-then-differ_by_class c =
    let differ : differ_by_class (listing c.args.first.now) (listing c.args.second.now) ≡ true = search rules in
    sym (classes_apart (listing c.args.first.now) (listing c.args.second.now) differ)
