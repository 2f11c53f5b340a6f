use Rattle.std.proofs.Common.{◌≡◌, ◌∙◌, List, ap, map, string_bytes, subst, sym, ℕ}
use Rattle.a429_console.proofs.ReadingParts.{read_weaker}
use Rattle.a429_import.specs.ImportMaps.{given_texts, heading_texts}
use Rattle.a429_cli.specs.Importing.{ImportsSilently}
use Rattle.a429_cli.proofs.import.import_reply.Goals as goal

pub returns-clause-silent : goal.returns-clause-silent
returns-clause-silent g c =
    let all : given_texts c.deref-2.result.now ≡ heading_texts (given_texts c.args.maps.now) (given_texts c.args.keeps.now) =
    ap given_texts c.deref-2.ensures.value ∙ c.in_ok-texts.ensures ∙ ap (map string_bytes) c.deref.ensures.value ∙ c.in_ok-all.ensures in
    read_weaker c.import_by.ensures.silent (λ file silent none. silent (subst (λ (texts : List (List ℕ)). ImportsSilently file texts c.args.options c.args.name.now) (sym all) none))
