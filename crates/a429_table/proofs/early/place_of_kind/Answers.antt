use Rattle.std.proofs.Common.{◌∙◌, refl, sym}
use Rattle.toml.specs.View.{view}
use Rattle.a429_table.specs.Walk.{walk}
use Rattle.a429_table.proofs.FittingTables.{no_missing_key, no_wrong_kind}
use Rattle.a429_table.proofs.early.place_of_kind.Goals as goal

pub returns-in-MissingKey : goal.returns-in-MissingKey
returns-in-MissingKey c =
    rw (c.in-MissingKey.is, no_missing_key c.args.version (walk (view c.args.root.now)) (sym c.requires ∙ c.if-all_fit.true)) refl

pub returns-in-WrongKind : goal.returns-in-WrongKind
returns-in-WrongKind c =
    rw (c.in-WrongKind.is, no_wrong_kind c.args.version (walk (view c.args.root.now)) (sym c.requires ∙ c.if-all_fit-2.true)) refl
