use Rattle.std.proofs.Common.{◌≡◌, length, rules}
use Rattle.a429_station.specs.Course.{asked}
use Rattle.a429_callers.proofs.Origins.{all_given, all_in_time, all_latest, all_own}
use Rattle.a429_callers.proofs.conclusions.stations.run_station.Goals as goal

pub returns-in-Ok-clause-given : goal.returns-in-Ok-clause-given
returns-in-Ok-clause-given g c =
    let few : length c.args.sources.items ≡ length c.args.equipment.now.receivers = search rules in
    all_given g.L.LineSource g.B.BusSink (asked c.args.equipment.now c.args.frames c.args.sources.items c.args.sinks.items) c.in-Ok.report few c.in-Ok.ensures.ran

pub returns-in-Ok-clause-own : goal.returns-in-Ok-clause-own
returns-in-Ok-clause-own g c =
    all_own g.L.LineSource g.B.BusSink (asked c.args.equipment.now c.args.frames c.args.sources.items c.args.sinks.items) c.in-Ok.report c.in-Ok.ensures.ran

pub returns-in-Ok-clause-latest : goal.returns-in-Ok-clause-latest
returns-in-Ok-clause-latest g c =
    all_latest g.L.LineSource g.B.BusSink (asked c.args.equipment.now c.args.frames c.args.sources.items c.args.sinks.items) c.one_run.ensures c.word_was_accepted.ensures c.rows_are_sound.ensures.apart c.in-Ok.report c.in-Ok.ensures.ran

pub returns-in-Ok-clause-in_time : goal.returns-in-Ok-clause-in_time
returns-in-Ok-clause-in_time g c =
    all_in_time g.L.LineSource g.B.BusSink (asked c.args.equipment.now c.args.frames c.args.sources.items c.args.sinks.items) c.known_words_go_out_in_time.ensures c.rows_are_sound.ensures.apart c.in-Ok.report c.in-Ok.ensures.ran
