use Rattle.std.proofs.Common.{◌≡◌, ◌∙◌, ◌<◌, ℕ, rules, subst, arith}
use Rattle.std.specs.Prelude.{IsTrue}
use Rattle.a429_word.specs.Bits.{has_odd_parity, label_of}
use Rattle.a429_logs.proofs.PartsWords.{built_once, built_word, reversed_small}
use Rattle.a429_logs.proofs.words.word_of.Goals as goal

pub returns-in-Ok : goal.returns-in-Ok
returns-in-Ok c =
    let word : ℕ = c.in-Ok.word in
    let label_is : label_of word ≡ c.args.label = search rules in
    let small : c.args.label < 256 = subst (λ (n : ℕ). n < 256) label_is (reversed_small word) in
    let odd : IsTrue (has_odd_parity word) = search rules in
    c.raw.ensures.raw
    ∙ built_once c.args.label c.args.sdi c.args.value c.args.ssm word _
    (record { small = omega (arith, c.raw.type_inv, c.raw.ensures.raw); odd = odd; label_is = label_is; sdi_is = search rules; value_is = search rules; ssm_is = search rules })
    (built_word c.args.label c.args.sdi c.args.value c.args.ssm small c.requires.sdi c.requires.value c.requires.ssm)
