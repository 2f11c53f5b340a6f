use Rattle.std.proofs.Common.{◌≡◌, ◌∙◌, ◌∷◌, [], ◌++◌, ap, length, rules, take}
use Rattle.std.proofs.Math.Seq.{take-append_seam}
use Rattle.a429_console.proofs.Pieces.{joined-cut}
use Rattle.a429_console.proofs.files.pieces.next_piece.Goals as goal

pub returns : goal.returns
returns c =
    let front = c.in-Some.front.now in
    let rest = c.in-Some.rest.now in
    let whole : c.args.piece.items ≡ front ++ 10 ∷ rest = search rules in
    let ended : c.shrink_to_fit.new.self.items ≡ front = c.shrink_to_fit.ensures.items ∙ c.truncate.ensures.items ∙ ap (take (length front)) whole ∙ take-append_seam front (10 ∷ rest) in
    let next : c.in_ok-next.next.items ≡ rest = search rules in
    let pushed : c.push.new.self.items ≡ c.args.pieces.now.items ++ c.shrink_to_fit.new.self ∷ [] = search rules in
    rw pushed (joined-cut c.args.pieces.now.items c.args.piece c.shrink_to_fit.new.self c.in_ok-next.next (rw (ended, next) whole))
