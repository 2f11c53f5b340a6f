use Rattle.std.proofs.Common.{◌≡◌, ◌∙◌, ◌+◌, ◌-◌, ◌<◌, true, ℕ, ap, arith, drop, get_or, length, refl, rules, sym, take}
use Rattle.std.specs.Prelude.{Ok, Some, position}
use Rattle.std.proofs.lemmas.List.{length-drop, length-take, take_all}
use Rattle.std.proofs.lemmas.List.Quantifiers.{position-Some}
use Rattle.a429_logs.specs.LogRows.{in_micros, whole_word}
use Rattle.a429_logs.specs.LogTimes.{decimal_digits}
use Rattle.a429_logs.specs.QuickRows.{ends_name, is_gap}
use Rattle.a429_logs.proofs.PlainRows.{plain_row}
use Rattle.a429_logs.proofs.QuickRows.{name-inner, number-inner, three_parts, word-inner}
use Rattle.a429_logs.proofs.quick.plain_row.Goals as goal

pub returns : goal.returns
returns c =
    let line = c.args.line.now in
    let i : ℕ = c.in_ok-time.end in
    let j : ℕ = c.in_ok-stop.stop in
    let raw : ℕ = c.in_ok-raw.raw in
    let time : ℕ = c.in_ok-time.time in
    let t = take i line in
    let rest = take (length line - (i + 1)) (drop (i + 1) line) in
    let n = take j rest in
    let w = take (length rest - (j + 1)) (drop (j + 1) rest) in
    let from : drop (i + 1) line ≡ rest = sym (take_all (length line - (i + 1)) (drop (i + 1) line) (omega (arith, length-drop (i + 1) line))) in
    let last : drop (j + 1) rest ≡ w = sym (take_all (length rest - (j + 1)) (drop (j + 1) rest) (omega (arith, length-drop (j + 1) rest))) in
    let stops : position ends_name rest ≡ Some j = sym c.in_ok-stop.ensures in
    let stop = position-Some ends_name rest j 0 stops in
    let word : whole_word w ≡ Some raw = sym c.in_ok-raw.ensures in
    let number : decimal_digits t ≡ Some time = c.in_ok-time.ensures.number in
    let second : is_gap (get_or rest j 0) ≡ true = search rules in
    let some : 0 < length n = omega (arith, length-take j rest, stop.0) in
    let L =
    three_parts line rest t n w i j c.in_ok-time.ensures.within stop.0 refl from refl last
    (number-inner t time number) (name-inner rest j stops) (word-inner w raw word) c.in_ok-time.ensures.gap second in
    plain_row c.args.order line t n w time raw L.plain L.parts number some word
    ∙ ap (λ (r : ℕ). Ok (in_micros (record { time = time; name = n; raw = r }))) (sym c.unreversed.ensures)
