use Rattle.std.proofs.Common.{◌≡◌, ◌++◌, List, ℕ, drop, option_map}
use Rattle.a429_arguments.specs.Texts.{texts_of}
use Rattle.a429_page.specs.Parts.{parts_of}
use Rattle.a429_page.proofs.parts.parts.Given as goal

abbrev pub invariant-loop-size : goal.invariant-loop-size
invariant-loop-size l =
    option_map (λ (more : List (List ℕ)). texts_of l.parts.items ++ more) (parts_of (drop l.size-index l.sizes) l.rest) ≡ parts_of l.sizes l.bytes
