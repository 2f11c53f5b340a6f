use Rattle.std.proofs.Common.{◌<◌, ◌∙◌, sym, subst, ℕ, List}
use Rattle.std.specs.List.{AllByRecursion}
use Rattle.a429_word.proofs.Lists.{all_mapped}
use Rattle.a429_slots.proofs.Rows.{all_below}
use Rattle.a429_documents.specs.Margins.{window_of}
use Rattle.a429_documents.proofs.margin.bound_of.Goals as goal

pub raw_bound-requires : goal.raw_bound-requires
raw_bound-requires c =
    let all : AllByRecursion (λ (n : ℕ). 0 < n) c.deref.result.now =
    subst (λ (ws : List ℕ). AllByRecursion (λ (n : ℕ). 0 < n) ws) (sym (c.deref.ensures.value ∙ c.in_ok-windows.ensures)) (all_mapped (window_of c.args.rate) (λ (n : ℕ). 0 < n) c.args.outputs.now c.requires.windows) in
    record { some = λ k d below. all_below (λ (n : ℕ). 0 < n) c.deref.result.now k d below all }
