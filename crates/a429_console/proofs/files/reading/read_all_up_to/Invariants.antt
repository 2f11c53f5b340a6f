use Rattle.std.proofs.Common.{map, drop}
use Rattle.a429_console.specs.Readings.{HasRead}
use Rattle.a429_console.proofs.SoFar.{IsReadSoFar}
use Rattle.a429_console.proofs.files.reading.read_all_up_to.Given as goal

abbrev pub invariant-loop-name : goal.invariant-loop-name
invariant-loop-name g l =
    HasRead g.F.FileReader.answers (IsReadSoFar l.most (map (λ n. n.now) l.names) (map (λ n. n.now) (drop l.name-index l.names)) (map g.C.Contents.text l.all.items)) l.initial.files l.files
