use Rattle.std.proofs.Common.{◌≡◌, ◌∙◌, ◌≤◌, length, arith}
use Rattle.a429_equipment.proofs.InNames.{inside_of}
use Rattle.a429_equipment.proofs.names.Name.of.Goals as goal

pub invariant_of-result-2 : goal.invariant_of-result-2
invariant_of-result-2 c =
    let is : c.copy_from_slice.new.self ≡ c.args.text.now = c.copy_from_slice.ensures.after ∙ c.as_bytes.ensures.value in
    let few : length c.args.text.now ≤ 16 = omega (arith, c.if-text-gt-NAME_LEN.false) in
    rw is (inside_of c.args.text.now few c.utf8.text)
