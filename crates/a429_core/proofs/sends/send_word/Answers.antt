use Rattle.std.proofs.Common.{◌≡◌, ◌∙◌, ◌≤◌, ◌<◌, List, length, false, ap, arith, sym}
use Rattle.std.specs.Prelude.{Option, Some, slice_get, slice_set}
use Rattle.std.specs.Option.{option_map_or}
use Rattle.std.proofs.lemmas.Option.{slice_get_past}
use Rattle.a429_word.proofs.Lists.{read_is}
use Rattle.a429_slots.specs.Recalling.{Recent, source_sends, source_after}
use Rattle.a429_core.proofs.sends.send_word.Goals as goal

pub returns-then-group-len-clause-sent : goal.returns-then-group-len-clause-sent
returns-then-group-len-clause-sent c =
    let past : length c.args.sends.now.items ≤ c.args.group = omega arith in
    sym (ap (λ (x : Option (List Recent)). option_map_or (λ rs. source_sends rs c.args.slot c.args.count c.args.due) x false) (slice_get_past c.args.sends.now.items c.args.group past))

pub returns-then-group-len-clause-after : goal.returns-then-group-len-clause-after
returns-then-group-len-clause-after c =
    let sends = c.args.sends.now.items in
    let past : length sends ≤ c.args.group = omega arith in
    sym (ap (λ (x : Option (List Recent)). option_map_or (λ rs. slice_set sends c.args.group (source_after rs c.args.slot c.args.count c.args.due)) x sends) (slice_get_past sends c.args.group past))

pub send-requires-clause-some : goal.send-requires-clause-some
send-requires-clause-some c = c.requires.some

pub send-requires-clause-room : goal.send-requires-clause-room
send-requires-clause-room c = c.requires.room

read : (c : goal.After-sends-1) → slice_get c.args.sends.now.items c.args.group ≡ Some c.index_mut.result.now
read c =
    let inside : c.args.group < length c.args.sends.now.items = omega arith in
    read_is c.args.sends.now.items c.args.group c.index_mut.result.now inside c.index_mut.ensures.value

pub returns-clause-sent : goal.returns-clause-sent
returns-clause-sent c =
    c.send.ensures.sent ∙ sym (ap (λ (x : Option (List Recent)). option_map_or (λ rs. source_sends rs c.args.slot c.args.count c.args.due) x false) (read c))

pub returns-clause-after : goal.returns-clause-after
returns-clause-after c =
    let sends = c.args.sends.now.items in
    ap (slice_set sends c.args.group) c.send.ensures.after
    ∙ sym (ap (λ (x : Option (List Recent)). option_map_or (λ rs. slice_set sends c.args.group (source_after rs c.args.slot c.args.count c.args.due)) x sends) (read c))
