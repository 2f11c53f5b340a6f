use Rattle.std.proofs.Common.{◌≡◌, ap, sym, ◌∙◌, arith, length, List}
use Rattle.a429_slots.specs.Tables.{PlanTable}
use Rattle.a429_board.specs.Lists.{next_nib}
use Rattle.a429_board.proofs.Fronts.{ends_some}
use Rattle.a429_board.proofs.Keeping.{adds_moves}
use Rattle.a429_board.proofs.front.Front.with_plan.Goals as goal

pub compare_exchange-requires : goal.compare_exchange-requires
compare_exchange-requires c =
    let h = c.requires.head in
    let seen = c.again-seen.ensures in
    let (names, ask, about, state) = c.plain-offer.ensures in
    let book : c.args.head.now.book ≡ c.self.inside.seen.book = ap (λ w. w.book) h ∙ sym (ap (λ v. v.book) c.self.view_is) in
    let mine : c.again-seen.result.book ≡ c.self.inside.seen.book = ap (λ s. s.book) seen in
    let list : c.again-seen.result.log ≡ c.args.self.now.log = ap (λ s. s.log) seen ∙ ap (λ v. v.log) c.self.view_is in
    let some = ends_some c.self.inside.seen.log c.self.inside.plan c.self.invariant.1 in
    let nib : c.args.pen.nib ≡ next_nib (length c.again-seen.result.log) = c.requires.pen.1 ∙ ap (λ (l : List PlanTable). next_nib (length l)) (sym list) in (
      ap (λ w. w.tracked) h,
      mine ∙ sym book,
      c.requires.pen.0 ∙ sym (ap (λ w. w.book) h),
      names,
      rw (ap (λ w. w.key) h, nib, ask, state) (adds_moves c.again-seen.result.log c.args.plan (omega (arith, some, ap (λ s. length s.log) seen))),
    )
