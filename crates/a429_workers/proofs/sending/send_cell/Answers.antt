use Rattle.std.proofs.Common.{◌≡◌, ◌∙◌, ◌+◌, ap, refl, inr, arith}
use mir.Val.{bool_byte}
use Rattle.std.specs.Prelude.{Bool, true, false, is_some, if◌then◌else◌, slice_get}
use Rattle.a429_workers.specs.Transmitting.{loads_since}
use Rattle.a429_workers.proofs.sending.send_cell.Goals as goal

byte : (b : Bool) → bool_byte b ≡ 0 + (if b then 1 else 0)
byte true = refl
byte false = refl

pub returns-in-Err-put-clause-done : goal.returns-in-Err-put-clause-done
returns-in-Err-put-clause-done g c =
    let sent = c.in-Ok.sent in
    let load = slice_get (loads_since c.args.transmit.now c.cell.new.self) 0 in
    record {
      cell = record { bus = sent.bus; slot = sent.slot; load = load; word = sent.word };
      made = record { stands = c.in-Ok.ensures.stands; same = c.cell.ensures.same; frame = c.cell.ensures.frame; number = c.cell.ensures.number };
      left = c.in-Err-put.ensures.taken;
      totals = refl;
    }

pub returns-in-Err-pass-clause-done : goal.returns-in-Err-pass-clause-done
returns-in-Err-pass-clause-done g c =
    let sent = c.in-Ok.sent in
    let load = slice_get (loads_since c.args.transmit.now c.cell.new.self) 0 in
    inr (record {
      cell = record { bus = sent.bus; slot = sent.slot; load = load; word = sent.word };
      made = record { stands = c.in-Ok.ensures.stands; same = c.cell.ensures.same; frame = c.cell.ensures.frame; number = c.cell.ensures.number };
      took = c.in_default-put.ensures.taken;
      tallied = record { cells = omega arith; words = ap (λ n. c.args.totals.now.words + n) (c.from.ensures ∙ (ap (λ b. bool_byte b) c.is_some.ensures ∙ byte (is_some sent.word))) };
    })

pub returns-clause-done : goal.returns-clause-done
returns-clause-done g c =
    let sent = c.in-Ok.sent in
    let load = slice_get (loads_since c.args.transmit.now c.cell.new.self) 0 in
    record {
      cell = record { bus = sent.bus; slot = sent.slot; load = load; word = sent.word };
      made = record { stands = c.in-Ok.ensures.stands; same = c.cell.ensures.same; frame = c.cell.ensures.frame; number = c.cell.ensures.number };
      took = c.in_default-put.ensures.taken;
      tallied = record { cells = omega arith; words = ap (λ n. c.args.totals.now.words + n) (c.from.ensures ∙ (ap (λ b. bool_byte b) c.is_some.ensures ∙ byte (is_some sent.word))) };
    }
