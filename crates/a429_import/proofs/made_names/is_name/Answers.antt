use Rattle.std.proofs.Common.{◌≡◌, ◌&&◌, true, nat_le, length, arith, rules, tests}
use Rattle.std.proofs.lemmas.Iterator.{YieldsList-from_slice}
use Rattle.std.proofs.lemmas.Iterator.Search.{all_from_yields_List}
use Rattle.std.proofs.lemmas.Bool.Decides.{nat_tests}
use Rattle.a429_equipment.specs.NameForm.{is_name, is_name_byte}
use Rattle.a429_import.proofs.made_names.is_name.Goals as goal

pub returns-then-text-le16 : goal.returns-then-text-le16
unfolding is_name
returns-then-text-le16 c =
    let found = all_from_yields_List is_name_byte _ _ c.all.result c.all.ensures.ran (YieldsList-from_slice c.args.text.now cc) (λ x b q k. search (rules, tests)) in
    let long : (nat_le 1 (length c.args.text.now) && nat_le (length c.args.text.now) 16) ≡ true = grind (arith, nat_tests) in
    rw (found, long)
