use Rattle.std.proofs.Common.{◌≡◌, ◌+◌, ◌-◌, true, ℕ, arith, drop, get_or, length, rules, subst, sym, take}
use Rattle.std.specs.Prelude.{Some, position}
use Rattle.std.proofs.lemmas.List.{length-drop, take_all}
use Rattle.std.proofs.lemmas.List.Quantifiers.{position-Some}
use Rattle.a429_word.specs.Hexadecimal.{raw_word}
use Rattle.a429_logs.specs.QuickRows.{IsWordSize, StartsPlain, ends_name, is_gap}
use Rattle.a429_logs.proofs.FirstRows.{starts_plain}
use Rattle.a429_logs.proofs.quick.plain_start.Goals as goal

pub returns : goal.returns
returns c =
    let text = c.args.text.now in
    let i : ℕ = c.in_ok-time.end in
    let j : ℕ = c.in_ok-stop.stop in
    let raw : ℕ = c.in_ok-raw.raw in
    let time : ℕ = c.in_ok-time.time in
    let rest = take (length text - (i + 1)) (drop (i + 1) text) in
    let last = take (length rest - (j + 1)) (drop (j + 1) rest) in
    let from : drop (i + 1) text ≡ rest = sym (take_all (length text - (i + 1)) (drop (i + 1) text) (omega (arith, length-drop (i + 1) text))) in
    let after : drop (j + 1) rest ≡ last = sym (take_all (length rest - (j + 1)) (drop (j + 1) rest) (omega (arith, length-drop (j + 1) rest))) in
    let stops : position ends_name rest ≡ Some j = sym c.in_ok-stop.ensures in
    let stop = position-Some ends_name rest j 0 stops in
    let size : ℕ = c.in_ok-size.size in
    let S : IsWordSize last size = c.in_ok-size.ensures in
    let word : raw_word (take 8 last) ≡ Some raw = sym c.in_ok-raw.ensures in
    let second : is_gap (get_or rest j 0) ≡ true = search rules in
    let starts =
    starts_plain c.args.order text rest last i j size time raw c.in_ok-time.ensures.within from stop.0 after S c.in_ok-time.ensures.number c.in_ok-time.ensures.gap
    stops (omega arith) second word in
    subst (λ (r : ℕ). StartsPlain c.args.order text (i + j + size + 2) (record { time = time; name = take j rest; raw = r })) (sym c.unreversed.ensures) starts
