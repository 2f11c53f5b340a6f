use Rattle.std.proofs.Common.{◌≡◌, ◌∙◌, ◌++◌, ℕ, List, drop, length, take, ap, sym, arith}
use Rattle.std.proofs.lemmas.List.{length-take, take_min}
use Rattle.std.proofs.Math.Seq.{take-append_seam}
use Rattle.a429_c.proofs.refusal_text.RefusalText.keep.Goals as goal

pub returns : goal.returns
returns c =
    let line = c.args.line.now in let n = c.min-count.result in let kept = take n line in let rest = drop (length kept) c.args.self.now.text in
    let long : length kept ≡ n = length-take n line ∙ omega (arith, c.min-count.ensures) in
    ap (λ (xs : List ℕ). take n xs) c.put_start.ensures ∙ (ap (λ (k : ℕ). take k (kept ++ rest)) (sym long) ∙ (take-append_seam kept rest
    ∙ (ap (λ (k : ℕ). take k line) (c.min-count.ensures ∙ omega arith) ∙ take_min 92 line)))
