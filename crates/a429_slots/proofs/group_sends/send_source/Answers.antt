use Rattle.std.proofs.Common.{◌≡◌, ◌∙◌, List, ap, false, length, refl, sym}
use Rattle.std.specs.Prelude.{Option, Some, slice_get, slice_set}
use Rattle.std.specs.Option.{option_map_or}
use Rattle.std.proofs.lemmas.Option.{slice_get_read}
use Rattle.a429_slots.specs.Recalling.{Recent, may_send, recent_after}
use Rattle.a429_slots.proofs.group_sends.send_source.Goals as goal

pub send-requires-clause-some : goal.send-requires-clause-some
send-requires-clause-some c = c.requires.some

pub send-requires-clause-room : goal.send-requires-clause-room
send-requires-clause-room c = c.requires.room

read : (c : goal.After-sources-1) → slice_get c.args.sources.now.items c.args.due.source ≡ Some c.index_mut.result.now
read c = slice_get_read c.args.sources.now.items (length c.args.sources.now.items) c.args.due.source c.index_mut.result.now refl c.requires.kept c.index_mut.ensures.value

pub returns-clause-sent : goal.returns-clause-sent
returns-clause-sent c =
    c.send.ensures.sent
    ∙ sym (ap (λ (r : Option Recent). option_map_or (λ (s : Recent). may_send s c.args.slot c.args.count c.args.due.limits.hold c.args.due.limits.spacing) r false) (read c))

pub returns-clause-after : goal.returns-clause-after
returns-clause-after c =
    let rs : List Recent = c.args.sources.now.items in
    let source = c.args.due.source in
    ap (λ (s : Recent). slice_set rs source s) c.send.ensures.after
    ∙ sym (ap (λ (r : Option Recent). option_map_or (λ (s : Recent). slice_set rs source (recent_after s c.args.slot c.args.count c.args.due.limits.hold c.args.due.limits.spacing)) r rs) (read c))
