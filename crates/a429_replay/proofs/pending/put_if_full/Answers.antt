use Rattle.std.proofs.Common.{rules}
use Rattle.std.specs.Io.KnownBytes.{Appends}
use Rattle.a429_replay.proofs.PutLines.{Appends-same, Appends-out}
use Rattle.a429_replay.proofs.pending.put_if_full.Goals as goal

pub returns-else-len-ge-FULL-clause-put : goal.returns-else-len-ge-FULL-clause-put
returns-else-len-ge-FULL-clause-put g c = Appends-same _

pub returns-in_ok-put-clause-put : goal.returns-in_ok-put-clause-put
returns-in_ok-put-clause-put g c =
    let out : Appends (g.O.Output.contents c.args.out.now) (g.O.Output.contents c.put.new.self) c.args.text.now.items = search rules in
    rw c.clear.ensures.items (Appends-out _ _ _ out)
