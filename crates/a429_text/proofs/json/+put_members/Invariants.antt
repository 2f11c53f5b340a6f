use Rattle.std.proofs.Common.{length}
use Rattle.a429_text.proofs.json.+put_members.Given as goal

abbrev pub decreases-put_members : goal.decreases-put_members
decreases-put_members l = length l.columns.now
