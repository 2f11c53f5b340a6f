use Rattle.std.proofs.Common.{rules, tests, sym, ap, ◌∙◌}
use Rattle.std.specs.Prelude.{is_some}
use Rattle.std.proofs.lemmas.Iterator.{YieldsList-from_slice}
use Rattle.std.proofs.lemmas.Iterator.Search.{position_from_yields_List}
use Rattle.a429_cert.specs.Views.{listing}
use Rattle.a429_cert.specs.Faults.{shares}
use Rattle.a429_cert.proofs.Listed.{is_some-position, list_any-map}
use Rattle.a429_cert.proofs.output_lines.first_sharing.Goals as goal

pub returns : goal.returns
returns c =
    let found = position_from_yields_List (λ l. shares (listing c.args.line.now) (listing l)) _ _ c.position.result c.position.ensures.ran (YieldsList-from_slice c.args.earlier.now cc) (λ x b q k. search (rules, tests)) in
    ap is_some found ∙ is_some-position (λ l. shares (listing c.args.line.now) (listing l)) c.args.earlier.now ∙ sym (list_any-map (shares (listing c.args.line.now)) listing c.args.earlier.now)
