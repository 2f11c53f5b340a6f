use Rattle.std.proofs.Common.{◌≡◌, ◌≤◌, ap, sym, ◌∙◌, subst, arith, length, List}
use mathlib.Core.List.{IsPrefix}
use Rattle.a429_word.proofs.Lists.{prefix_on}
use Rattle.a429_slots.specs.Tables.{PlanTable}
use Rattle.a429_board.proofs.Fronts.{ends_some, prefix_whole}
use Rattle.a429_board.proofs.Keeping.{looks_moves}
use Rattle.a429_board.proofs.front.Front.look_at_all.Goals as goal

pub compare_exchange-requires : goal.compare_exchange-requires
compare_exchange-requires c =
    let h = c.requires.head in
    let (names, ask, about, state) = c.plain-offer.ensures in
    let mine : c.again-both.result.book ≡ c.args.self.now.book = ap (λ s. s.book) c.again-both.ensures ∙ ap (λ v. v.book) c.self.view_is in
    let book : c.learn.new.self.book ≡ c.args.head.now.book = c.learn.ensures.0 ∙ mine ∙ sym (ap (λ w. w.book) h) in
    let list : c.self.inside.seen.log ≡ c.args.self.now.log = ap (λ v. v.log) c.self.view_is in
    let some = ends_some c.self.inside.seen.log c.self.inside.plan c.self.invariant.1 in (
      ap (λ w. w.tracked) h,
      book,
      c.requires.pen.0 ∙ sym (ap (λ w. w.book) h),
      names,
      rw (ap (λ w. w.key) h, c.requires.pen.1, state) (looks_moves c.learn.new.self.log c.self.inside.plan (length c.args.self.now.log) (omega (arith, some, ap length list))),
    )

pub returns-clause-whole : goal.returns-clause-whole
returns-clause-whole c =
    let all = c.compare_exchange.new.seen.log in
    let (learned_book, learned_names, own, others, known) = c.learn.ensures in
    let (book, names, offer_names, ask, about, pen_book, more, shown) = c.compare_exchange.ensures in
    let here : c.again-both.result.log ≡ c.args.self.now.log = ap (λ s. s.log) c.again-both.ensures ∙ ap (λ v. v.log) c.self.view_is in
    let mine : IsPrefix c.args.self.now.log all = prefix_on _ _ _ (subst (λ (l : List PlanTable). IsPrefix l c.learn.new.self.log) here own) more in
    let long : length all ≤ length c.args.self.now.log = subst (λ n. length all ≤ n.key) c.requires.pen.1 shown.0 in
    let whole : c.args.self.now.log ≡ all = prefix_whole _ _ mine long in
    let other : c.other.inside.seen.log ≡ c.args.other.now.log = ap (λ v. v.log) c.other.view_is in
    subst (IsPrefix c.args.other.now.log) (sym whole) (prefix_on _ _ _ (subst (λ (l : List PlanTable). IsPrefix l c.learn.new.self.log) other others) more)
