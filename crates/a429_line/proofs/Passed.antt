-- one more byte of a stretch: what it adds to the reports, and the stage after it
use Rattle.std.proofs.Common.{◌≡◌, ℕ, ◌+◌, ◌-◌, ◌*◌, ◌%◌, ◌^◌, ◌<◌, ◌≤◌, List, [], ◌∷◌, ◌++◌, length, zero, suc, cond, inl, inr, map, refl, ap, ap₂, sym, subst, ◌∙◌, arith, append_assoc, add-one, get_or, drop, take, slice_range}
use Rattle.std.proofs.Math.Nat.{pow-suc}
use Rattle.std.proofs.lemmas.Bool.{cases_eq, ne_eqb}
use Rattle.std.proofs.lemmas.Simd.{length-chunk, mask_l-lt}
use Rattle.std.specs.Simd.Lanes.{chunk, mask_l}
use Rattle.std.specs.Prelude.{◌==◌, ◌⊎◌, Option, Some, None, nat_lt, if◌then◌else◌, bit_or}
use Rattle.std.specs.Option.{option_to_list}
use Rattle.std.proofs.Math.Seq.{take-add}
use Rattle.std.proofs.lemmas.List.{drop-drop, length-map}
use Rattle.std.proofs.lemmas.List.Edits.{between_none, between_more}
use Rattle.std.proofs.lemmas.List.Elements.{filter_map-append}
use Rattle.std.proofs.lemmas.Bool.Decides.{nat_tests}
use Rattle.a429_line.specs.LineBytes.{symbol_of, symbols_of, bit_of}
use Rattle.a429_line.specs.Stages.{due, after, due_in, after_all}
use Rattle.a429_line.specs.Stretches.{Takes, places}
use Rattle.a429_line.proofs.Steps.{or_one, or_none}
use Rattle.a429_line.specs.declared.found.Symbol.{Symbol}
use Rattle.a429_line.specs.declared.found.Symbol.TheVariants.{Hi, Null, Lo}
use Rattle.a429_line.specs.declared.found.Found.{Found}
use Rattle.a429_line.specs.declared.stage.Stage.{Stage}
use Rattle.a429_line.specs.declared.stage.Stage.TheVariants.{Between, Within}

-- ---- symbols after symbols

pub after-append : (stage : Stage) (x y : List Symbol) → after_all stage (x ++ y) ≡ after_all (after_all stage x) y
unfolding after_all
after-append stage [] y = refl
after-append stage (s ∷ x) y = after-append (after stage s) x y

pub due-append : (stage : Stage) (x y : List Symbol) → due_in stage (x ++ y) ≡ due_in stage x ++ due_in (after_all stage x) y
unfolding after_all due_in
due-append stage [] y = refl
due-append stage (s ∷ x) y =
    ap (λ (r : List Found). option_to_list (due stage s) ++ r) (due-append (after stage s) x y)
    ∙ sym (append_assoc (option_to_list (due stage s)) (due_in (after stage s) x) (due_in (after_all (after stage s) x) y))

-- ---- stretches

range_joined : (bytes : List ℕ) (a b c : ℕ) → a ≤ b → b ≤ c → slice_range bytes a c ≡ slice_range bytes a b ++ slice_range bytes b c
range_joined bytes a b c h k =
    let whole : c - a ≡ (b - a) + (c - b) = omega arith in
    let place : a + (b - a) ≡ b = omega arith in
    ap (λ (n : ℕ). take n (drop a bytes)) whole
    ∙ take-add (b - a) (c - b) (drop a bytes)
    ∙ ap (λ (x : List ℕ). take (b - a) (drop a bytes) ++ take (c - b) x) (drop-drop (b - a) a bytes ∙ ap (λ (n : ℕ). drop n bytes) place)

symbols_joined : (bytes : List ℕ) (a b c : ℕ) → a ≤ b → b ≤ c →
    symbols_of (slice_range bytes a c) ≡ symbols_of (slice_range bytes a b) ++ symbols_of (slice_range bytes b c)
symbols_joined bytes a b c h k =
    ap symbols_of (range_joined bytes a b c h k) ∙ filter_map-append symbol_of (slice_range bytes a b) (slice_range bytes b c)

-- no bytes
pub takes_none : (bytes : List ℕ) (a : ℕ) (s : Stage) → a ≤ length bytes → Takes bytes a s [] a s
unfolding due_in after_all
takes_none bytes a s h = record {
  forward = omega arith;
  within = h;
  due = ap (λ (x : List ℕ). due_in s (symbols_of x)) (between_none bytes a);
  after = ap (λ (x : List ℕ). after_all s (symbols_of x)) (between_none bytes a);
}

-- a stretch after a stretch
pub takes_then : (bytes : List ℕ) (a b c : ℕ) (s t u : Stage) (f g : List Found) → Takes bytes a s f b t → Takes bytes b t g c u → Takes bytes a s (f ++ g) c u
takes_then bytes a b c s t u f g first next =
    let x = symbols_of (slice_range bytes a b) in
    let y = symbols_of (slice_range bytes b c) in
    let joined = symbols_joined bytes a b c first.forward next.forward in
    record {
      forward = omega (arith, first.forward, next.forward);
      within = next.within;
      due = ap (due_in s) joined ∙ due-append s x y ∙ ap (λ (r : List Found). r ++ due_in (after_all s x) y) first.due
          ∙ ap (λ (st : Stage). f ++ due_in st y) first.after ∙ ap (λ (r : List Found). f ++ r) next.due;
      after = ap (after_all s) joined ∙ after-append s x y ∙ ap (λ (st : Stage). after_all st y) first.after ∙ next.after;
    }

-- one byte
symbols_one : (b : ℕ) → symbols_of (b ∷ []) ≡ option_to_list (symbol_of b)
symbols_one b = grind (arith, nat_tests)

one_byte : (bytes : List ℕ) (i : ℕ) → i < length bytes → symbols_of (slice_range bytes i (i + 1)) ≡ option_to_list (symbol_of (get_or bytes i 0))
one_byte bytes i h =
    ap symbols_of (between_more bytes i i 0 (omega arith) h ∙ ap (λ (x : List ℕ). x ++ get_or bytes i 0 ∷ []) (between_none bytes i))
    ∙ symbols_one (get_or bytes i 0)

pub takes_byte : (bytes : List ℕ) (i : ℕ) (s t : Stage) (f : List Found) → i < length bytes →
    due_in s (option_to_list (symbol_of (get_or bytes i 0))) ≡ f → after_all s (option_to_list (symbol_of (get_or bytes i 0))) ≡ t →
    Takes bytes i s f (i + 1) t
takes_byte bytes i s t f h due after = record {
  forward = omega arith;
  within = omega arith;
  due = ap (due_in s) (one_byte bytes i h) ∙ due;
  after = ap (after_all s) (one_byte bytes i h) ∙ after;
}

-- a symbol without a report
pub takes_symbol : (bytes : List ℕ) (i : ℕ) (s t : Stage) (y : Symbol) → i < length bytes → symbol_of (get_or bytes i 0) ≡ Some y →
    due s y ≡ None → after s y ≡ t → Takes bytes i s [] (i + 1) t
unfolding due_in after_all
takes_symbol bytes i s t y h is due after =
    takes_byte bytes i s t [] h
    (ap (λ (o : Option Symbol). due_in s (option_to_list o)) is ∙ ap (λ (o : Option Found). option_to_list o ++ []) due)
    (ap (λ (o : Option Symbol). after_all s (option_to_list o)) is ∙ after)

-- a byte that stands for no symbol
pub takes_skipped : (bytes : List ℕ) (i : ℕ) (s : Stage) → i < length bytes → symbol_of (get_or bytes i 0) ≡ None → Takes bytes i s [] (i + 1) s
unfolding due_in after_all
takes_skipped bytes i s h none =
    takes_byte bytes i s s [] h
    (ap (λ (o : Option Symbol). due_in s (option_to_list o)) none)
    (ap (λ (o : Option Symbol). after_all s (option_to_list o)) none)

-- ---- a gap

pub gap_more : (bytes : List ℕ) (a i n m k : ℕ) → Takes bytes a (Between n) [] i (Between m) → i < length bytes → get_or bytes i 0 ≡ 46 →
    k ≡ (if nat_lt m 4 then m + 1 else m) → Takes bytes a (Between n) [] (i + 1) (Between k)
gap_more bytes a i n m k so_far h is count =
    takes_then bytes a i (i + 1) (Between n) (Between m) (Between k) [] [] so_far
    (takes_symbol bytes i (Between m) (Between k) Null h (ap symbol_of is) refl (ap Between (sym count)))

-- ---- a run

-- the symbol of a bit
abbrev level : ℕ → Symbol
level b = if b == 1 then Hi else Lo

bit_level : (v b : ℕ) → bit_of v ≡ Some b → symbol_of v ≡ Some (level b)
bit_level v b is = grind (arith, nat_tests)

bit_lt : (v b : ℕ) → bit_of v ≡ Some b → b < 2
bit_lt v b is = grind (arith, nat_tests)

level_due : (len raw b : ℕ) → len < 32 → due (Within len raw) (level b) ≡ None
level_due len raw b few = grind (arith, nat_tests)

level_after : (len raw b : ℕ) → len < 32 → b < 2 → after (Within len raw) (level b) ≡ Within (len + 1) (bit_or raw (b * 2 ^ len % 2 ^ 32))
level_after len raw zero few h = grind (arith, nat_tests)
level_after len raw (suc zero) few h = grind (arith, nat_tests)
level_after len raw (suc (suc b)) few h = absurd (omega arith)

first_due : (n b : ℕ) → 4 ≤ n → due (Between n) (level b) ≡ None
first_due n b h = grind (arith, nat_tests)

first_after : (n b : ℕ) → 4 ≤ n → b < 2 → after (Between n) (level b) ≡ Within 1 b
first_after n zero h k = grind (arith, nat_tests)
first_after n (suc zero) h k = grind (arith, nat_tests)
first_after n (suc (suc b)) h k = absurd (omega arith)

pub run_more : (bytes : List ℕ) (a i len raw b : ℕ) (s : Stage) → Takes bytes a s [] i (Within len raw) → i < length bytes → len < 32 → bit_of (get_or bytes i 0) ≡ Some b →
    Takes bytes a s [] (i + 1) (Within (len + 1) (bit_or raw (b * 2 ^ len % 2 ^ 32)))
run_more bytes a i len raw b s so_far h few is =
    takes_then bytes a i (i + 1) s (Within len raw) (Within (len + 1) (bit_or raw (b * 2 ^ len % 2 ^ 32))) [] [] so_far
    (takes_symbol bytes i (Within len raw) (Within (len + 1) (bit_or raw (b * 2 ^ len % 2 ^ 32))) (level b) h (bit_level (get_or bytes i 0) b is)
    (level_due len raw b few) (level_after len raw b few (bit_lt (get_or bytes i 0) b is)))

-- the first bit, after a gap
pub run_begun : (bytes : List ℕ) (i n b : ℕ) → i < length bytes → 4 ≤ n → bit_of (get_or bytes i 0) ≡ Some b → Takes bytes i (Between n) [] (i + 1) (Within 1 b)
run_begun bytes i n b h gap is =
    takes_symbol bytes i (Between n) (Within 1 b) (level b) h (bit_level (get_or bytes i 0) b is) (first_due n b gap)
    (first_after n b gap (bit_lt (get_or bytes i 0) b is))

-- ---- a whole run, by the places of its ones and of its zeros

-- a bit before others
bit_before : (s t u : Stage) (y : Symbol) (x : List Symbol) → due s y ≡ None → after s y ≡ t → due_in t x ≡ [] → after_all t x ≡ u →
    (due_in s (y ∷ x) ≡ []) × (after_all s (y ∷ x) ≡ u)
unfolding due_in after_all
bit_before s t u y x none next quiet last = (
  ap (λ (o : Option Found). option_to_list o ++ due_in (after s y) x) none ∙ ap (λ (st : Stage). due_in st x) next ∙ quiet,
  ap (λ (st : Stage). after_all st x) next ∙ last,
)

-- each place is of a one or of a zero
abbrev AreWhole : List ℕ → Type 0
AreWhole xs = places 49 xs + places 48 xs + 1 ≡ 2 ^ length xs

one_or_zero : (b : ℕ) (xs : List ℕ) → AreWhole (b ∷ xs) → ((b ≡ 49) ⊎ (b ≡ 48)) × AreWhole xs
one_or_zero b xs all =
    let twice : 2 ^ suc (length xs) ≡ 2 ^ length xs * 2 = pow-suc 2 (length xs) in
    elim (cases_eq b 49) [
      | inl is ↦
          let here : 1 + 2 * places 49 xs + (0 + 2 * places 48 xs) + 1 ≡ 2 ^ suc (length xs) = subst (λ (x : ℕ). AreWhole (x ∷ xs)) is all in
          (inl is, omega (arith, here, twice))
      | inr one ↦ elim (cases_eq b 48) [
        | inl is ↦
            let here : 0 + 2 * places 49 xs + (1 + 2 * places 48 xs) + 1 ≡ 2 ^ suc (length xs) = subst (λ (x : ℕ). AreWhole (x ∷ xs)) is all in
            (inr is, omega (arith, here, twice))
        | inr other ↦
            let here : cond (b == 49) 1 0 + 2 * places 49 xs + (cond (b == 48) 1 0 + 2 * places 48 xs) + 1 ≡ 2 ^ suc (length xs) = all in
            absurd (omega (arith, rw (ne_eqb b 49 one, ne_eqb b 48 other) at here, twice))
      ]
    ]

-- bits after this number of bits of a run
bits_behind : (xs : List ℕ) (len raw : ℕ) → raw < 2 ^ len → len + length xs ≤ 32 → AreWhole xs →
    (due_in (Within len raw) (symbols_of xs) ≡ []) × (after_all (Within len raw) (symbols_of xs) ≡ Within (len + length xs) (raw + 2 ^ len * places 49 xs))
unfolding due_in after_all
bits_behind [] len raw below few all = (refl, ap₂ Within (omega arith) (omega arith))
bits_behind (b ∷ xs) len raw below few all =
    let s = Within len raw in
    let room : len < 32 = omega arith in
    let later : len + 1 + length xs ≤ 32 = omega arith in
    let long : len + 1 + length xs ≡ len + suc (length xs) = omega arith in
    let twice : 2 ^ (len + 1) ≡ 2 ^ len * 2 = ap (λ (n : ℕ). 2 ^ n) (add-one len) ∙ pow-suc 2 len in
    let bits = one_or_zero b xs all in
    elim bits.0 [
      | inl is ↦
          let rest = bits_behind xs (len + 1) (raw + 2 ^ len) (omega (arith, twice)) later bits.1 in
          let number : raw + 2 ^ len + 2 ^ (len + 1) * places 49 xs ≡ raw + 2 ^ len * (1 + 2 * places 49 xs) = rw twice (omega arith) in
          let next : after s Hi ≡ Within (len + 1) (raw + 2 ^ len) = level_after len raw 1 room (omega arith) ∙ ap (Within (len + 1)) (or_one raw len below room) in
          subst (λ (x : ℕ). (due_in s (symbols_of (x ∷ xs)) ≡ []) × (after_all s (symbols_of (x ∷ xs)) ≡ Within (len + suc (length xs)) (raw + 2 ^ len * places 49 (x ∷ xs)))) (sym is)
          (bit_before s (Within (len + 1) (raw + 2 ^ len)) (Within (len + suc (length xs)) (raw + 2 ^ len * (1 + 2 * places 49 xs))) Hi (symbols_of xs)
          (level_due len raw 1 room) next rest.0 (rest.1 ∙ ap₂ Within long number))
      | inr is ↦
          let rest = bits_behind xs (len + 1) raw (omega (arith, twice)) later bits.1 in
          let number : raw + 2 ^ (len + 1) * places 49 xs ≡ raw + 2 ^ len * (0 + 2 * places 49 xs) = rw twice (omega arith) in
          let next : after s Lo ≡ Within (len + 1) raw = level_after len raw 0 room (omega arith) ∙ ap (Within (len + 1)) (or_none raw len) in
          subst (λ (x : ℕ). (due_in s (symbols_of (x ∷ xs)) ≡ []) × (after_all s (symbols_of (x ∷ xs)) ≡ Within (len + suc (length xs)) (raw + 2 ^ len * places 49 (x ∷ xs)))) (sym is)
          (bit_before s (Within (len + 1) raw) (Within (len + suc (length xs)) (raw + 2 ^ len * (0 + 2 * places 49 xs))) Lo (symbols_of xs)
          (level_due len raw 0 room) next rest.0 (rest.1 ∙ ap₂ Within long number))
    ]

-- 32 bits after a gap
bits_alone : (xs : List ℕ) (n : ℕ) → 4 ≤ n → length xs ≡ 32 → AreWhole xs →
    (due_in (Between n) (symbols_of xs) ≡ []) × (after_all (Between n) (symbols_of xs) ≡ Within 32 (places 49 xs))
bits_alone [] n gap long all = absurd (omega (arith, long))
bits_alone (b ∷ xs) n gap long all =
    let s = Between n in
    let few : 1 + length xs ≤ 32 = omega (arith, long) in
    let whole : 1 + length xs ≡ 32 = omega (arith, long) in
    let bits = one_or_zero b xs all in
    elim bits.0 [
      | inl is ↦
          let rest = bits_behind xs 1 1 (omega arith) few bits.1 in
          subst (λ (x : ℕ). (due_in s (symbols_of (x ∷ xs)) ≡ []) × (after_all s (symbols_of (x ∷ xs)) ≡ Within 32 (places 49 (x ∷ xs)))) (sym is)
          (bit_before s (Within 1 1) (Within 32 (1 + 2 * places 49 xs)) Hi (symbols_of xs)
          (first_due n 1 gap) (first_after n 1 gap (omega arith)) rest.0 (rest.1 ∙ ap₂ Within whole (omega arith)))
      | inr is ↦
          let rest = bits_behind xs 1 0 (omega arith) few bits.1 in
          subst (λ (x : ℕ). (due_in s (symbols_of (x ∷ xs)) ≡ []) × (after_all s (symbols_of (x ∷ xs)) ≡ Within 32 (places 49 (x ∷ xs)))) (sym is)
          (bit_before s (Within 1 0) (Within 32 (0 + 2 * places 49 xs)) Lo (symbols_of xs)
          (first_due n 0 gap) (first_after n 0 gap (omega arith)) rest.0 (rest.1 ∙ ap₂ Within whole (omega arith)))
    ]

pub whole_taken : (bytes : List ℕ) (from : ℕ) → from + 32 ≤ length bytes → places 49 (chunk from 32 bytes) + places 48 (chunk from 32 bytes) ≡ 0xffff_ffff →
    (n : ℕ) → 4 ≤ n → Takes bytes from (Between n) [] (from + 32) (Within 32 (places 49 (chunk from 32 bytes)))
whole_taken bytes from room all n gap =
    let run = chunk from 32 bytes in
    let long : length run ≡ 32 = length-chunk from 32 bytes room in
    let each : AreWhole run = ap (λ (k : ℕ). k + 1) all ∙ ap (λ (k : ℕ). 2 ^ k) (sym long) in
    let count : from + 32 - from ≡ 32 = omega arith in
    let same : slice_range bytes from (from + 32) ≡ run = ap (λ (k : ℕ). take k (drop from bytes)) count in
    let bits = bits_alone run n gap long each in
    record {
      forward = omega arith;
      within = room;
      due = ap (λ (x : List ℕ). due_in (Between n) (symbols_of x)) same ∙ bits.0;
      after = ap (λ (x : List ℕ). after_all (Between n) (symbols_of x)) same ∙ bits.1;
    }

-- the number of the places among 32
pub places_lt : (byte : ℕ) (xs : List ℕ) → length xs ≡ 32 → places byte xs < 2 ^ 32
places_lt byte xs long =
    let marks = map (λ b. b == byte) xs in
    subst (λ (k : ℕ). mask_l marks < 2 ^ k) (length-map xs (λ b. b == byte) ∙ long) (mask_l-lt marks)
