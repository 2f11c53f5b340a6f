use Rattle.std.proofs.Common.{◌≡◌, ◌+◌, ◌%◌, set, arith, length-set}
use Rattle.std.proofs.lemmas.List.{set_comm, drop-set}
use Rattle.a429_text.specs.Nibbles.{nibble}
use Rattle.a429_text.proofs.HexDigits.{digits_of}
use Rattle.a429_text.proofs.from_end.put_byte.Goals as goal

pub returns-clause-written : goal.returns-clause-written
returns-clause-written c =
    let digits = digits_of c.args.byte (omega arith) in
    let at = c.args.at in
    let room = c.args.room.now in
    let low = nibble (c.args.byte % 16) in
    let next : at + 1 + 1 ≡ at + 2 = omega arith in
    rw (c.from-pair.ensures, digits.0, digits.1, set_comm room at (at + 1) _ _ (λ x. omega arith), drop-set (set room (at + 1) low) at _ (omega (arith, length-set room (at + 1) low)), drop-set room (at + 1) _ (omega arith), next)
