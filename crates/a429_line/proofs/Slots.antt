-- what a reader reports of a slot
use Rattle.std.proofs.Common.{◌≡◌, ℕ, zero, suc, ◌+◌, ◌-◌, ◌*◌, ◌/◌, ◌%◌, ◌^◌, ◌<◌, ◌≤◌, List, [], ◌∷◌, ◌++◌, length, refl, ap, sym, subst, ◌∙◌, arith, append_assoc, append-nil, add-zero, add-one, take, set}
use Rattle.std.specs.Prelude.{Option, Some, None, nat_lt, if◌then◌else◌, IsTrue, replicate}
use Rattle.std.specs.Option.{option_to_list}
use Rattle.std.proofs.lemmas.Bool.Decides.{nat_tests}
use Rattle.std.proofs.lemmas.List.{take_all}
use Rattle.std.proofs.lemmas.Grind.{pow_more, take-set_at}
use Rattle.a429_word.specs.Bits.{bit, number_from, has_odd_parity}
use Rattle.a429_line.specs.Reports.{reports}
use Rattle.a429_line.specs.Slots.{symbol_of, bits_from, slot, reports_of_slot}
use Rattle.a429_line.specs.Stages.{due, after, due_in}
use Rattle.a429_line.specs.KeptLines.{kept_of}
use Rattle.a429_line.specs.declared.found.Symbol.{Symbol}
use Rattle.a429_line.specs.declared.found.Symbol.TheVariants.{Null}
use Rattle.a429_line.specs.declared.found.Found.{Found}
use Rattle.a429_line.specs.declared.found.Found.TheVariants.{Word}
use Rattle.a429_line.specs.declared.stage.Stage.{Stage}
use Rattle.a429_line.specs.declared.stage.Stage.TheVariants.{Between, Within, Reported}
use Rattle.a429_line.proofs.Steps.{or_one, or_none, kept_push, reports_more}
use Rattle.a429_word.proofs.Ones.{number_is}

-- ---- Nulls

-- how many Nulls are counted after one more
abbrev one_more : ℕ → ℕ
one_more n = if nat_lt n 4 then n + 1 else n

one_more_above : (n : ℕ) → 1 ≤ one_more n
one_more_above n = grind (arith, nat_tests)

three_above : (n : ℕ) → 1 ≤ n → 4 ≤ one_more (one_more (one_more n))
three_above n h = grind (arith, nat_tests)

-- a Null leads between runs
null_leads : (stage : Stage) → (n : ℕ) × (1 ≤ n) × (after stage Null ≡ Between n)
null_leads (Between n) = (one_more n, one_more_above n, refl)
null_leads (Within len raw) = (1, omega arith, refl)
null_leads Reported = (1, omega arith, refl)

-- three more make the gap long enough, and bring no report
three_more : (n : ℕ) (x : List Symbol) → 1 ≤ n → (m : ℕ) × (4 ≤ m) × (due_in (Between n) (Null ∷ Null ∷ Null ∷ x) ≡ due_in (Between m) x)
unfolding due_in
three_more n x h = (one_more (one_more (one_more n)), three_above n h, refl)

-- between runs, Nulls bring no report
nulls_due : (count n : ℕ) → due_in (Between n) (replicate count Null) ≡ []
unfolding due_in
nulls_due zero n = refl
nulls_due (suc count) n = nulls_due count (one_more n)

-- ---- bits

bit_taken : (b n len : ℕ) → b < 2 → n < 2 ^ len → len < 32 → after (Within len n) (symbol_of b) ≡ Within (len + 1) (n + b * 2 ^ len)
bit_taken b n len hb hn hl = grind (arith, nat_tests, or_one n len hn hl, or_none n len)

bit_due : (b n len : ℕ) → len < 32 → due (Within len n) (symbol_of b) ≡ None
bit_due b n len hl = grind (arith, nat_tests)

first_taken : (b n : ℕ) → b < 2 → 4 ≤ n → after (Between n) (symbol_of b) ≡ Within 1 b
first_taken b n hb hn = grind (arith, nat_tests)

first_due : (b n : ℕ) → 4 ≤ n → due (Between n) (symbol_of b) ≡ None
first_due b n hn = grind (arith, nat_tests)

bit_lt : (j raw : ℕ) → bit j raw < 2
bit_lt j raw = omega arith

more_bits : (n b p r : ℕ) → (n + b * p) + (p * 2) * r ≡ n + p * (b + 2 * r)
more_bits n b p r = omega arith

below_next : (n b p : ℕ) → n < p → b < 2 → n + b * p < p * 2
below_next n zero p h k = omega arith
below_next n (suc zero) p h k = omega arith
below_next n (suc (suc b)) p h k = absurd (omega arith)

bits_taken : (count len n j raw : ℕ) (x : List Symbol) → n < 2 ^ len → len + count ≤ 32 →
    due_in (Within len n) (bits_from j count raw ++ x) ≡ due_in (Within (len + count) (n + 2 ^ len * number_from j count raw)) x
unfolding due_in bits_from number_from
bits_taken zero len n j raw x hn hl =
    let e : len ≡ len + 0 = omega arith in
    let k : n ≡ n + 2 ^ len * 0 = omega arith in
    ap (λ (m : ℕ). due_in (Within m n) x) e ∙ ap (λ (m : ℕ). due_in (Within (len + 0) m) x) k
bits_taken (suc count) len n j raw x hn hl =
    let b = bit j raw in
    let r = number_from (j + 1) count raw in
    let power : 2 ^ (len + 1) ≡ 2 ^ len * 2 = pow_more 2 len in
    let small : n + b * 2 ^ len < 2 ^ (len + 1) = subst (λ (m : ℕ). n + b * 2 ^ len < m) (sym power) (below_next n b (2 ^ len) hn (bit_lt j raw)) in
    let total : (n + b * 2 ^ len) + 2 ^ (len + 1) * r ≡ n + 2 ^ len * (b + 2 * r) =
    ap (λ (m : ℕ). (n + b * 2 ^ len) + m * r) power ∙ more_bits n b (2 ^ len) r in
    let long : len + 1 + count ≡ len + suc count = omega arith in
    ap (λ (t : Option Found). option_to_list t ++ due_in (after (Within len n) (symbol_of b)) (bits_from (j + 1) count raw ++ x)) (bit_due b n len (omega arith))
    ∙ ap (λ (st : Stage). due_in st (bits_from (j + 1) count raw ++ x)) (bit_taken b n len (bit_lt j raw) hn (omega arith))
    ∙ bits_taken count (len + 1) (n + b * 2 ^ len) (j + 1) raw x small (omega arith)
    ∙ ap (λ (m : ℕ). due_in (Within m ((n + b * 2 ^ len) + 2 ^ (len + 1) * r)) x) long
    ∙ ap (λ (m : ℕ). due_in (Within (len + suc count) m) x) total

-- the 32 bits of a word, after a gap that is long enough
whole_taken : (n raw : ℕ) (x : List Symbol) → 4 ≤ n → raw < 2 ^ 32 → due_in (Between n) (bits_from 1 32 raw ++ x) ≡ due_in (Within 32 raw) x
unfolding due_in bits_from number_from
whole_taken n raw x hn hr =
    let b = bit 1 raw in
    let r = number_from 2 31 raw in
    let whole : b + 2 * r ≡ raw = number_is 0 32 raw ∙ omega arith in
    ap (λ (t : Option Found). option_to_list t ++ due_in (after (Between n) (symbol_of b)) (bits_from 2 31 raw ++ x)) (first_due b n hn)
    ∙ ap (λ (st : Stage). due_in st (bits_from 2 31 raw ++ x)) (first_taken b n (bit_lt 1 raw) hn)
    ∙ bits_taken 31 1 b 2 raw x (bit_lt 1 raw) (omega arith)
    ∙ ap (λ (m : ℕ). due_in (Within 32 m) x) whole

word_due : (raw : ℕ) → IsTrue (has_odd_parity raw) → due_in (Within 32 raw) (Null ∷ []) ≡ Word raw ∷ []
unfolding due_in
word_due raw h = grind (arith, h)

-- ---- slots

after_nulls : (x : List Symbol) → (n : ℕ) × (1 ≤ n) × (kept_of (x ++ Null ∷ []) ≡ Between n)
after_nulls x =
    let e = null_leads (kept_of x) in
    (e.0, e.1, kept_push x Null ∙ e.2)

pub word_slot : (x : List Symbol) (raw : ℕ) → raw < 2 ^ 32 → IsTrue (has_odd_parity raw) →
    reports (x ++ slot (Some raw) ++ Null ∷ []) ≡ reports (x ++ Null ∷ []) ++ Word raw ∷ []
unfolding slot
word_slot x raw hr odd =
    let e = after_nulls x in
    let more = three_more e.0 (bits_from 1 32 raw ++ Null ∷ []) e.1 in
    let left : List Symbol = Null ∷ Null ∷ Null ∷ (bits_from 1 32 raw ++ Null ∷ []) in
    ap reports (append_assoc x (slot (Some raw)) (Null ∷ []) ∙ sym (append_assoc x (Null ∷ []) left))
    ∙ reports_more (x ++ Null ∷ []) left
    ∙ ap (λ (r : List Found). reports (x ++ Null ∷ []) ++ r)
    (ap (λ (st : Stage). due_in st left) e.2 ∙ more.2 ∙ whole_taken more.0 raw (Null ∷ []) more.1 hr ∙ word_due raw odd)

pub empty_slot : (x : List Symbol) → reports (x ++ slot None ++ Null ∷ []) ≡ reports (x ++ Null ∷ [])
unfolding slot
empty_slot x =
    let e = after_nulls x in
    ap reports (append_assoc x (slot None) (Null ∷ []) ∙ sym (append_assoc x (Null ∷ []) (replicate 36 Null)))
    ∙ reports_more (x ++ Null ∷ []) (replicate 36 Null)
    ∙ ap (λ (r : List Found). reports (x ++ Null ∷ []) ++ r) (ap (λ (st : Stage). due_in st (replicate 36 Null)) e.2 ∙ nulls_due 36 e.0)
    ∙ append-nil (reports (x ++ Null ∷ []))

-- ---- the code

-- the next bit
pub bits_push : (j count raw : ℕ) → bits_from j (count + 1) raw ≡ bits_from j count raw ++ symbol_of (bit (j + count) raw) ∷ []
unfolding bits_from
bits_push j zero raw = ap (λ (n : ℕ). symbol_of (bit n raw) ∷ []) (sym (add-zero j))
bits_push j (suc count) raw =
    let e : j + 1 + count ≡ j + suc count = omega arith in
    ap (λ (n : ℕ). bits_from j n raw) (add-one (suc count))
    ∙ ap (λ (n : ℕ). symbol_of (bit j raw) ∷ bits_from (j + 1) n raw) (sym (add-one count))
    ∙ ap (λ (x : List Symbol). symbol_of (bit j raw) ∷ x) (bits_push (j + 1) count raw)
    ∙ ap (λ (n : ℕ). symbol_of (bit j raw) ∷ (bits_from (j + 1) count raw ++ symbol_of (bit n raw) ∷ [])) e

pub bits_next : (i raw : ℕ) (symbols : List Symbol) (s : Symbol) (b : ℕ) → i < length symbols → take i symbols ≡ bits_from 1 i raw → s ≡ symbol_of b → b ≡ raw / 2 ^ i % 2 → take (i + 1) (set symbols i s) ≡ bits_from 1 (i + 1) raw
bits_next i raw symbols s b h e k l =
    take-set_at symbols i (i + 1) s refl h
    ∙ ap (λ (x : List Symbol). x ++ s ∷ []) e
    ∙ ap (λ (t : Symbol). bits_from 1 i raw ++ t ∷ []) (k ∙ ap symbol_of l ∙ next)
    ∙ sym (bits_push 1 i raw)
  where
    place : i ≡ 1 + i - 1
    place = omega arith

    next : symbol_of (raw / 2 ^ i % 2) ≡ symbol_of (bit (1 + i) raw)
    next = ap (λ (n : ℕ). symbol_of (raw / 2 ^ n % 2)) place

pub bits_none : (raw : ℕ) → [] ≡ bits_from 1 0 raw
unfolding bits_from
bits_none raw = refl

pub bits_whole : (i raw : ℕ) (symbols : List Symbol) → length symbols ≤ i → take i symbols ≡ bits_from 1 i raw → symbols ≡ bits_from 1 i raw
bits_whole i raw symbols h e = sym (take_all i symbols h) ∙ e

pub slot_reported : (symbols : List Symbol) (word : Option ℕ) (x : List Symbol) → symbols ≡ slot word →
    reports (x ++ slot word ++ Null ∷ []) ≡ reports (x ++ Null ∷ []) ++ reports_of_slot word →
    reports (x ++ symbols ++ Null ∷ []) ≡ reports (x ++ Null ∷ []) ++ reports_of_slot word
slot_reported symbols word x e h = ap (λ (s : List Symbol). reports (x ++ s ++ Null ∷ [])) e ∙ h
