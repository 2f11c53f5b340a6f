use Rattle.std.proofs.Common.{rules}
use Rattle.std.proofs.lemmas.Bool.Decides.{Decides-eqb}
use Rattle.std.proofs.lemmas.Slice.Eq.{slice_eq-Decides}
use Rattle.a429_replay.proofs.PlainTexts.{named_front}
use Rattle.a429_replay.proofs.names.lists.after_name.Goals as goal

pub returns-then-eq : goal.returns-then-eq
returns-then-eq c =
    let same = (slice_eq-Decides Decides-eqb _ _ _ c.eq.ensures).0 c.if-eq.true in
    named_front c.args.name.now c.args.text.now c.args.end (search rules) (search rules) same
