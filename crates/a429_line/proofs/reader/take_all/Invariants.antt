use Rattle.std.proofs.Common.{◌≡◌, ◌++◌, take, drop}
use Rattle.a429_line.specs.Stages.{due_in, after_all}
use Rattle.a429_line.proofs.reader.take_all.Given as goal

-- the reports so far and those of what is left are those of the whole piece
abbrev pub invariant-loop-symbol : goal.invariant-loop-symbol
invariant-loop-symbol l =
    record {
      due : l.out.items ++ due_in l.stage (drop l.symbol-index l.piece) ≡ l.fn.out.items ++ due_in l.fn.stage l.piece;
      after : after_all l.stage (drop l.symbol-index l.piece) ≡ after_all l.fn.stage l.piece;
      front : take l.before l.out.items ≡ l.fn.out.items;
    }
