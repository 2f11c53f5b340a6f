use Rattle.std.proofs.Common.{◌++◌, ℕ, List, ap, ap₂, subst}
use Rattle.std.specs.Io.KnownBytes.{Appends}
use Rattle.std.proofs.lemmas.Result.{on_ok_weaker}
use Rattle.a429_word.specs.Bits.{label_of, sdi_of, ssm_of, data_of}
use Rattle.a429_cli.specs.WordLines.{name_text, status_text, data_text}
use Rattle.a429_replay.proofs.PutLines.{Appends-then}
use Rattle.a429_cli.proofs.word.write_fields.Goals as goal

pub returns : goal.returns
returns g c =
    let word = c.args.word in
    let name = name_text (label_of word) (sdi_of word) in
    let status = status_text (ssm_of word) in
    let first = subst (λ (t : List ℕ). Appends (g.W.Write.contents c.args.out.now) (g.W.Write.contents c.write_name.new.out) t) (ap₂ name_text c.label.ensures c.sdi.ensures) c.in_ok-write_name.ensures in
    let second = subst (λ (t : List ℕ). Appends (g.W.Write.contents c.write_name.new.out) (g.W.Write.contents c.write_status.new.out) t) (ap status_text c.ssm.ensures) c.in_ok-write_status.ensures in
    on_ok_weaker c.write_data.result (λ last. Appends-then _ _ _ (name ++ status) (data_text (data_of word)) (Appends-then _ _ _ name status first second)
    (subst (λ (t : List ℕ). Appends (g.W.Write.contents c.write_status.new.out) (g.W.Write.contents c.write_data.new.out) t) (ap data_text c.data.ensures) last)) c.write_data.ensures
