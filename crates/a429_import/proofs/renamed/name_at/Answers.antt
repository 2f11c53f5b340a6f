use Rattle.std.proofs.Common.{◌≡◌, [], Bool, true, false, cond, List, ℕ, Some, None, arith, refl, sym}
use Rattle.std.specs.Prelude.{unwrap_or}
use Rattle.std.specs.Str.{is_utf8}
use Rattle.std.proofs.lemmas.List.{get_or_past, length-map}
use Rattle.a429_import.specs.ImportFields.{field_in, utf8_in}
use Rattle.a429_import.specs.Renamed.{texts_of}
use Rattle.a429_import.proofs.renamed.name_at.Goals as goal

no_text : (text : List ℕ) → text ≡ [] → [] ≡ unwrap_or (utf8_in text) []
unfolding utf8_in
no_text text none = by (is_utf8 text)
  where
    by : (b : Bool) → [] ≡ unwrap_or (cond b (Some text) None) []
    by true = sym none
    by false = refl

pub returns-in-None : goal.returns-in-None
returns-in-None c =
    let many = length-map c.args.names.now (λ name. name.items) in
    no_text (field_in c.args.place (texts_of c.args.names.now)) (get_or_past (texts_of c.args.names.now) c.args.place [] (omega (arith, many, c.in-None.ensures.lookup.3)))
