-- What is true of the places of outputs (profile: docs/RULES.md, Plans that stay).
use Rattle.std.specs.Prelude.{◌≡◌, ℕ, false, List, is_none}
use Rattle.std.specs.List.{AllByRecursion}
use Rattle.a429_keep.specs.declared.blocks.Stand.{Stand}
use Rattle.a429_keep.specs.Placing.{place_all}

-- if each output has a block, all keep theirs
abbrev pub AllStay : Type 0
AllStay = (buses frame : ℕ) (stands : List Stand) → AllByRecursion (λ s. is_none s.start ≡ false) stands → place_all buses frame stands ≡ stands
