use Rattle.std.proofs.Common.{◌≡◌, ap, sym, ◌∙◌}
use Rattle.a429_board.proofs.Keeping.{reserves_moves}
use Rattle.a429_board.proofs.front.Front.reserve.Goals as goal

pub compare_exchange-found-requires : goal.compare_exchange-found-requires
compare_exchange-found-requires c =
    let h = c.requires in
    let seen = c.again-seen.ensures in
    let pen = c.no_pen-pen.ensures in
    let (names, ask, about, state) = c.plain-offer.ensures in
    let book : c.args.head.now.book ≡ c.self.inside.seen.book = ap (λ w. w.book) h ∙ sym (ap (λ v. v.book) c.self.view_is) in
    let mine : c.again-seen.result.book ≡ c.self.inside.seen.book = ap (λ s. s.book) seen in (
      ap (λ w. w.tracked) h,
      mine ∙ sym book,
      pen.0 ∙ mine ∙ sym book,
      names,
      rw (ap (λ w. w.key) h, pen.1, state) (reserves_moves c.again-seen.result.log c.self.inside.plan c.args.others),
    )
