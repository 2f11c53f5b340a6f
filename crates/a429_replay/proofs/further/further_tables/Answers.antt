use Rattle.std.proofs.Common.{◌≡◌, ◌∙◌, ap, sym, arith, List, ℕ, ◌∷◌, [], ◌++◌, append_assoc}
use Rattle.std.proofs.lemmas.Grind.{common_steps}
use Rattle.std.proofs.lemmas.List.{map-append}
use Rattle.std.specs.declared.vec.Vec.{Vec}
use Rattle.std.specs.declared.alloc.Global.{Global}
use Rattle.a429_console.specs.Files.{bytes_of}
use Rattle.a429_replay.proofs.further.further_tables.Goals as goal

pub loop-bytes-preserved : goal.loop-bytes-preserved
loop-bytes-preserved c =
    let so_far = c.loop-bytes.yielded in
    let here = c.in-Some.bytes in
    record {
      made = c.in_ok-push.ensures.items ∙ (ap (λ (t : List ℕ). c.loop-bytes.further.items ++ t ∷ []) c.of.ensures
          ∙ ap (λ (xs : List (List ℕ)). xs ++ here.items ∷ []) c.loop-bytes.invariant.made
          ∙ sym (map-append (λ (b : Vec ℕ Global). b.items) so_far (here ∷ [])));
      whole = c.loop-bytes.invariant.whole ∙ (ap (λ (xs : List (Vec ℕ Global)). so_far ++ xs) c.in-Some.ensures.steps.0 ∙ sym (append_assoc so_far (here ∷ []) _));
    }

pub returns : goal.returns
returns c =
    let all : c.loop-bytes.yielded ≡ c.args.tables.items = grind (arith, common_steps) in
    c.loop-bytes.invariant.made ∙ ap bytes_of all
