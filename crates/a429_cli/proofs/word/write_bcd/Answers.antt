use Rattle.std.proofs.Common.{rules, ◌++◌, codes}
use Rattle.std.specs.Io.KnownBytes.{Appends}
use Rattle.std.specs.Prelude.{OnOk}
use Rattle.std.proofs.lemmas.Result.{on_ok_weaker}
use Rattle.a429_word.specs.Bits.{bcd_of, ssm_of}
use Rattle.a429_word.specs.Meanings.{bcd_meaning, bcd_text}
use Rattle.a429_cli.specs.WordLines.{bcd_digits, meaning_text}
use Rattle.a429_replay.proofs.PutLines.{Appends-then}
use Rattle.a429_cli.proofs.word.write_bcd.Goals as goal

pub returns : goal.returns
returns g c =
    let digits = bcd_digits (bcd_of c.args.word) in
    let meaning = meaning_text (bcd_text (bcd_meaning (ssm_of c.args.word))) in
    let first : Appends (g.W.Write.contents c.args.out.now) (g.W.Write.contents c.write.new.self) (codes "bcd ") = search rules in
    let second : Appends (g.W.Write.contents c.write.new.self) (g.W.Write.contents c.write_bcd_digits.new.out) digits = search rules in
    let third : OnOk c.writeln.result (Appends (g.W.Write.contents c.write_bcd_digits.new.out) (g.W.Write.contents c.writeln.new.self) meaning) = search rules in
    on_ok_weaker c.writeln.result (λ last. Appends-then _ _ _ (codes "bcd " ++ digits) meaning (Appends-then _ _ _ (codes "bcd ") digits first second) last) third
