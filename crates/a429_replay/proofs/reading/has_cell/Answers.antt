use Rattle.std.proofs.Common.{rules, ◌≡◌, ◌+◌, ◌*◌, ◌<◌, ℕ, get_or, arith}
use Rattle.a429_replay.proofs.reading.has_cell.Goals as goal

-- the four bytes of a number of 32 bits
four_bytes : (a b c d : ℕ) → a < 256 → b < 256 → c < 256 → d < 256 → a + b * 256 + c * 65536 + d * 16777216 ≡ 1819043171 → (a ≡ 99) × (b ≡ 101) × (c ≡ 108) × (d ≡ 108)
four_bytes a b c d la lb lc ld is = (omega (arith, la, lb, lc, ld, is), omega (arith, la, lb, lc, ld, is), omega (arith, la, lb, lc, ld, is), omega (arith, la, lb, lc, ld, is))

pub returns : goal.returns
returns c = λ yes. four_bytes (get_or c.args.text.now 0 0) (get_or c.args.text.now 1 0) (get_or c.args.text.now 2 0) (get_or c.args.text.now 3 0) (search rules) (search rules) (search rules) (search rules) (search rules)
