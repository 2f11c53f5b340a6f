use Rattle.std.proofs.Common.{◌++◌}
use Rattle.std.proofs.lemmas.Result.{on_ok_weaker}
use Rattle.a429_cli.specs.WordLines.{fields_line, bnr_line, bcd_line}
use Rattle.a429_replay.proofs.PutLines.{Appends-then}
use Rattle.a429_cli.proofs.word.write_word.Goals as goal

pub returns : goal.returns
returns g c =
    let fields = fields_line c.args.word in
    let bnr = bnr_line c.args.word in
    on_ok_weaker c.write_bcd.result
    (λ last. Appends-then _ _ _ (fields ++ bnr) (bcd_line c.args.word) (Appends-then _ _ _ fields bnr c.in_ok-write_fields.ensures c.in_ok-write_bnr.ensures) last) c.write_bcd.ensures
