use Rattle.std.proofs.Common.{◌≤◌, ◌∙◌, ◌++◌, ◌∷◌, [], List, ℕ, ap, arith, append_assoc, drop, length, sym}
use Rattle.std.proofs.Math.Seq.{drop-drop}
use Rattle.std.proofs.lemmas.List.{drop-append-le}
use Rattle.std.specs.Fmt.{decimal}
use Rattle.a429_replay.proofs.slots.SlotText.put.Goals as goal

pub returns-clause-written : goal.returns-clause-written
returns-clause-written c =
    let start = c.self.inside.start in
    let bytes = c.self.inside.bytes in
    let slot = c.self.inside.slot in
    let rest = drop c.args.end c.args.room.now in
    let within : start ≤ length bytes = omega (arith, c.self.invariant.0, c.self.told) in
    sym (drop-drop start c.put_text.result c.put_text.new.room)
    ∙ (ap (λ (l : List ℕ). drop start l) c.put_text.ensures.written
    ∙ (drop-append-le start bytes rest within
    ∙ (ap (λ (l : List ℕ). l ++ rest) c.self.invariant.1
    ∙ (ap (λ (l : List ℕ). 32 ∷ l) (append_assoc (decimal slot) (32 ∷ []) rest)
    ∙ ap (λ (n : ℕ). 32 ∷ (decimal n ++ (32 ∷ rest))) c.self.view_is))))
