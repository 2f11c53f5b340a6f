use Rattle.std.proofs.Common.{◌≡◌, ap, sym, ◌∙◌, arith}
use Rattle.a429_keep.specs.Placing.{place_down}
use Rattle.a429_keep.proofs.Clearing.{down_none}
use Rattle.a429_keep.proofs.placing.place_all.Goals as goal

pub returns : goal.returns
returns c =
    let last : c.loop-digits.digits ≡ 0 = omega arith in
    sym (down_none c.args.buses c.args.frame c.loop-digits.stands)
    ∙ sym (ap (λ d. place_down c.args.buses c.args.frame d c.loop-digits.stands) last)
    ∙ c.loop-digits.invariant
