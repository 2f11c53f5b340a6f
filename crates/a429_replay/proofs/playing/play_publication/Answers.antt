use Rattle.std.proofs.Common.{◌-◌, arith}
use Rattle.std.proofs.lemmas.Option.{slice_get-get_or}
use Rattle.std.proofs.lemmas.Result.{on_ok_weaker}
use Rattle.a429_replay.proofs.PlayedLines.{played_among}
use Rattle.a429_replay.proofs.playing.play_publication.Goals as goal

pub returns-clause-played : goal.returns-clause-played
returns-clause-played c =
    let further = c.args.further.now in
    let at = slice_get-get_or further (c.args.number - 1) c.index-further-number.result (omega (arith, c.requires)) in
    on_ok_weaker c.publish.result (λ plays. played_among c.args.view c.args.names.now further _ c.args.number _ _ _ _ at plays) c.publish.ensures.played
