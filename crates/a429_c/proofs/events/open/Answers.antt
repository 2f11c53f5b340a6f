use Rattle.std.specs.Prelude.{option_map}
use Rattle.a429_c.proofs.Told.{put_opening}
use Rattle.a429_c.proofs.events.open.Goals as goal

pub returns-in-Err-clause-refused : goal.returns-in-Err-clause-refused
returns-in-Err-clause-refused c = λ _.
    let (put, same, is) = c.refuse_table.ensures in
    (put, put_opening c.args.table.now (option_map (λ p. p.now) c.args.plan) c.args.first_slot c.in-Err.refusal put c.in-Err.ensures same, is)
