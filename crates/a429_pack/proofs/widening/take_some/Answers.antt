use Rattle.std.proofs.Common.{◌≡◌, ℕ, ◌+◌, ◌-◌, ◌^◌, ◌<◌, ◌≤◌, ◌⊎◌, List, Bool, true, get_or, arith, ap, ◌∙◌, sym, subst, inl, inr}
use Rattle.std.proofs.lemmas.List.{get_or_read}
use Rattle.std.proofs.Math.ListN.{set}
use Rattle.std.proofs.lemmas.Bool.{cases_lt}
use Rattle.a429_pack.specs.Taken.{freeable}
use Rattle.a429_pack.proofs.Widenings.{AreTakenTo, taken_from, taken_with, taken_without}
use Rattle.a429_pack.proofs.widening.take_some.Goals.{then-digits+then-is_due, else-digits, else-digits-via-then-digits+else-is_due, else-digits-via-else-digits}
use Rattle.a429_pack.proofs.widening.take_some.Goals as goal

pub loop-place-init : goal.loop-place-init
loop-place-init c = taken_from c.args.frame c.args.needed c.args.digits c.args.periods.now c.args.chosen.now c.args.cells c.requires.shorter c.requires.taken

pub loop-place-preserved : goal.loop-place-preserved
loop-place-preserved c =
    let h : ℕ = c.args.frame in
    let needed : ℕ = c.args.needed in
    let d : ℕ = c.args.digits in
    let ks : List ℕ = c.args.periods.now in
    let place : ℕ = c.loop-place.place in
    let cs : List Bool = c.loop-place.chosen in
    let cells : ℕ = c.loop-place.cells in
    let v : ℕ = 2 ^ (h - d - 1) in
    let rest : c.cells_freed_by_all-rest.result ≡ freeable h (d + 1) h ks = c.cells_freed_by_all-rest.ensures.value in
    let digits : c.of_digits.result ≡ h - d - 1 = c.of_digits.ensures ∙ ap (λ z. z - d - 1) c.digits.ensures.value in
    let size : c.from-size.result ≡ v = c.from-size.ensures ∙ c.slots.ensures.value ∙ ap (λ z. 2 ^ z) digits in
    let here : c.digits-in-loop-place.result ≡ get_or ks place 0 =
    c.digits-in-loop-place.ensures.value ∙ get_or_read ks place c.index-periods-place.result c.loop-place-test.true c.index-periods-place.is 0 in
    elim c.if-digits.branch [
      | then-digits+then-is_due w ↦
          let exponent : get_or ks place 0 ≡ d = omega (arith, here, w.if-digits.true) in
          let due : (cells + v ≤ needed) ⊎ (cells + freeable h (d + 1) h ks < needed) = elim (w.is_due.ensures.0 w.if-is_due.true) [
            | inl within ↦ inl (omega (arith, within, size))
            | inr short ↦ inr (omega (arith, short, rest))
          ] in
          let sum : cells + v ≡ c.if-digits.cells = omega (arith, size, w.cells-is) in
          let t : AreTakenTo h needed d (place + 1) ks (set cs place true) (cells + v) =
          taken_with h needed d place ks cs cells c.requires.shorter c.loop-place-test.true exponent due c.loop-place.invariant in
          subst (λ (xs : List Bool). AreTakenTo h needed d (place + 1) ks xs c.if-digits.cells) (sym w.chosen-is)
          (subst (λ (z : ℕ). AreTakenTo h needed d (place + 1) ks (set cs place true) z) sum t)
      | else-digits w ↦
          let spare : (get_or ks place 0 ≡ d) → needed ≤ cells + freeable h (d + 1) h ks = λ same. elim w.else-digits.branch [
            | else-digits-via-then-digits+else-is_due u ↦ elim (cases_lt (cells + freeable h (d + 1) h ks) needed) [
              | inl short ↦
                  let no : u.is_due.result ≡ true = u.is_due.ensures.1 (inr (omega (arith, short, rest))) in
                  absurd (grind arith)
              | inr enough ↦ enough
            ]
            | else-digits-via-else-digits u ↦ absurd (omega (arith, here, u.if-digits.false, same))
          ] in
          let t : AreTakenTo h needed d (place + 1) ks cs cells =
          taken_without h needed d place ks cs cells c.loop-place-test.true spare c.loop-place.invariant in
          subst (λ (xs : List Bool). AreTakenTo h needed d (place + 1) ks xs c.if-digits.cells) (sym w.chosen-is)
          (subst (λ (z : ℕ). AreTakenTo h needed d (place + 1) ks cs z) (sym w.cells-is) t)
    ]
