use mir.Val.{bool_byte}
use Rattle.std.proofs.Common.{◌≡◌, ◌∙◌, ◌+◌, ◌<◌, ◌≤◌, ℕ, Bool, false, cond, List, ap, arith, get_or, length, suc, sym, take}
use Rattle.a429_import.specs.LineCounts.{after_return}
use Rattle.a429_import.specs.RowLines.{ends_from, ends_here}
use Rattle.a429_import.proofs.ImportForms.{one_or_none}
use Rattle.a429_import.proofs.RowLines.{after_more, ends_more, one_is}
use Rattle.a429_import.proofs.lines.LineCount.pass_byte.Goals as goal

pub returns-clause-counted : goal.returns-clause-counted
returns-clause-counted c =
    let text : List ℕ = c.args.text.now in
    let i : ℕ = c.args.self.now.at in
    let old = c.requires.counted in
    let below : i < length text = c.requires.below in
    let one : suc i ≡ i + 1 = omega arith in
    let ends : Bool = ends_here (after_return false (take i text)) (get_or text i 0) in
    let own : c.from.result ≡ cond ends 1 0 =
    c.from.ensures ∙ ap (λ (b : Bool). bool_byte b) (c.ends_here.ensures ∙ ap (λ (a : Bool). ends_here a (get_or text i 0)) old.after) ∙ one_is ends in
    let more : ends_from false (take (suc i) text) ≡ ends_from false (take i text) + cond ends 1 0 = ends_more false text i below in
    let small : cond ends 1 0 ≤ 1 = one_or_none ends in
    let known = old.ended in
    let few = old.few in
    let counted : c.args.self.now.ended + c.from.result ≡ ends_from false (take (suc i) text) = omega (arith, own, more, known) in
    record {
      within = omega (arith, below);
      ended = counted ∙ ap (λ (n : ℕ). ends_from false (take n text)) one;
      after = sym (after_more false text i below) ∙ ap (λ (n : ℕ). after_return false (take n text)) one;
      few = omega (arith, own, small, few);
    }
