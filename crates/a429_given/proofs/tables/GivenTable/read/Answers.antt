use Rattle.std.proofs.Common.{◌≡◌, ap, List, ℕ, subst, sym}
use Rattle.std.specs.Prelude.{None, Option, Some, option_map}
use Rattle.a429_console.proofs.ReadingParts.{read_weaker}
use Rattle.a429_given.specs.GivenTables.{IsTableReading}
use Rattle.a429_given.proofs.tables.GivenTable.read.Goals as goal

pub returns-in-Some : goal.returns-in-Some
returns-in-Some g c =
    let some : option_map (λ p. p.now) c.args.names.plan ≡ Some c.in-Some.plan.now = ap (option_map (λ p. p.now)) c.in-Some.is in
    read_weaker c.read_both.ensures (λ file is.
    subst (λ (o : Option (List ℕ)). IsTableReading file (record { table = c.args.names.table.now; plan = o }) c.read_both.result) (sym some) is)

pub returns-in-None : goal.returns-in-None
returns-in-None g c =
    let none : option_map (λ p. p.now) c.args.names.plan ≡ None = ap (option_map (λ p. p.now)) c.in-None.is in
    read_weaker c.read_own.ensures (λ file is.
    subst (λ (o : Option (List ℕ)). IsTableReading file (record { table = c.args.names.table.now; plan = o }) c.read_own.result) (sym none) is)
