use Rattle.std.proofs.Common.{rules, ◌≡◌, List, ℕ, subst, sym}
use Rattle.std.specs.Prelude.{Some}
use Rattle.a429_console.specs.Names.{name_at, number_named}
use Rattle.a429_replay.specs.NameLists.{AreFirst, IsFirstPlain, IsPlain}
use Rattle.a429_replay.proofs.names.lists.NameList.number_before.Goals as goal

pub returns : goal.returns
returns c =
    let n = c.number-number.result in
    let is : c.name_of.result.now ≡ name_at c.args.self.now n = search rules in
    let first : IsFirstPlain c.args.self.now n = subst (λ (names : List (List ℕ)). AreFirst names c.self.inside.guessed) c.self.view_is c.self.invariant.2 n c.if-number-self.false in
    record {
      name = c.name_of.result.now;
      plain = subst IsPlain (sym is) first.1;
      numbered = subst (λ (name : List ℕ). number_named c.args.self.now name ≡ Some n) (sym is) first.0;
      reads = c.in_ok-rest.ensures;
    }
