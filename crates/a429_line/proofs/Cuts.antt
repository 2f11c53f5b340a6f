-- a line is its runs
use Rattle.std.proofs.Common.{◌≡◌, ℕ, zero, suc, ◌+◌, ◌≤◌, Bool, true, false, List, [], ◌∷◌, ◌++◌, refl, ap, sym, ◌∙◌, arith, append_assoc, append-nil, add-zero, zero-add}
use Rattle.std.specs.Prelude.{replicate, IsTrue, nat_lt}
use Rattle.std.specs.List.{flat_map, AllByRecursion, list_all}
use Rattle.std.proofs.lemmas.Bool.Decides.{nat_tests}
use Rattle.std.proofs.lemmas.Grind.{replicate_next}
use Rattle.a429_word.proofs.Lists.{clash}
use Rattle.a429_line.specs.declared.found.Symbol.{Symbol}
use Rattle.a429_line.specs.declared.found.Symbol.TheVariants.{Hi, Null, Lo}
use Rattle.a429_line.specs.Reports.{Run, runs_from, runs, gap_after, first_piece, later_pieces}
use Rattle.a429_line.specs.Cuts.{is_bit, are_bits, stretch, RunsAreApart, AreEnded, goes_on, IsCut}

-- each piece after its Null
abbrev behind : List (List Symbol) → List Symbol
behind [] = []
behind (piece ∷ later) = Null ∷ (piece ++ behind later)

line_is : (x : List Symbol) → x ≡ first_piece x ++ behind (later_pieces x)
unfolding first_piece later_pieces
line_is [] = refl
line_is (Null ∷ x) = ap (λ (y : List Symbol). Null ∷ y) (line_is x)
line_is (Hi ∷ x) = ap (λ (y : List Symbol). Hi ∷ y) (line_is x)
line_is (Lo ∷ x) = ap (λ (y : List Symbol). Lo ∷ y) (line_is x)

-- the number of Nulls after the last run
abbrev nulls_from : ℕ → List Symbol → List (List Symbol) → ℕ
nulls_from gap [] [] = gap
nulls_from gap (s ∷ p) [] = 0
nulls_from gap p (next ∷ later) = nulls_from (gap_after gap p) next later

whole_from : (gap : ℕ) (p : List Symbol) (later : List (List Symbol)) →
    replicate gap Null ++ (p ++ behind later) ≡ flat_map stretch (runs_from gap p later) ++ replicate (nulls_from gap p later) Null
unfolding runs_from
whole_from gap [] [] = append-nil (replicate gap Null)
whole_from gap (s ∷ p) [] = simp append-nil
whole_from gap [] (next ∷ later) =
    let more = next ++ behind later in
    sym (append_assoc (replicate gap Null) (Null ∷ []) more)
    ∙ ap (λ (z : List Symbol). z ++ more) (sym (replicate_next gap Null))
    ∙ whole_from (gap + 1) next later
whole_from gap (s ∷ p) (next ∷ later) =
    let front = replicate gap Null ++ s ∷ p in
    sym (append_assoc (replicate gap Null) (s ∷ p) (Null ∷ (next ++ behind later)))
    ∙ ap (λ (z : List Symbol). front ++ z) (whole_from 1 next later)
    ∙ sym (append_assoc front (flat_map stretch (runs_from 1 next later)) (replicate (nulls_from 1 next later) Null))

no_null : (x : List Symbol) → list_all is_bit (first_piece x) ≡ true
unfolding first_piece
no_null [] = refl
no_null (Null ∷ x) = refl
no_null (Hi ∷ x) = no_null x
no_null (Lo ∷ x) = no_null x

no_nulls : (x : List Symbol) → AllByRecursion (λ p. list_all is_bit p ≡ true) (later_pieces x)
unfolding later_pieces
no_nulls [] = tt
no_nulls (Null ∷ x) = (no_null x, no_nulls x)
no_nulls (Hi ∷ x) = no_nulls x
no_nulls (Lo ∷ x) = no_nulls x

is_true : (b : Bool) → b ≡ true → IsTrue b
is_true b e = grind (arith, nat_tests)

bits_from : (gap : ℕ) (p : List Symbol) (later : List (List Symbol)) → list_all is_bit p ≡ true → AllByRecursion (λ q. list_all is_bit q ≡ true) later →
    AllByRecursion (λ run. IsTrue (are_bits run.symbols)) (runs_from gap p later)
unfolding runs_from
bits_from gap [] [] h k = tt
bits_from gap (s ∷ p) [] h k = (is_true _ h, tt)
bits_from gap [] (next ∷ later) h k = bits_from (gap + 1) next later k.0 k.1
bits_from gap (s ∷ p) (next ∷ later) h k = (is_true _ h, bits_from 1 next later k.0 k.1)

gaps_from : (gap : ℕ) (p : List Symbol) (later : List (List Symbol)) → 1 ≤ gap → AllByRecursion (λ run. 1 ≤ run.gap) (runs_from gap p later)
unfolding runs_from
gaps_from gap [] [] h = tt
gaps_from gap (s ∷ p) [] h = (h, tt)
gaps_from gap [] (next ∷ later) h = gaps_from (gap + 1) next later (omega arith)
gaps_from gap (s ∷ p) (next ∷ later) h = (h, gaps_from 1 next later (omega arith))

apart_from : (gap : ℕ) (p : List Symbol) (later : List (List Symbol)) → RunsAreApart (runs_from gap p later)
unfolding runs_from
apart_from gap [] [] = tt
apart_from gap (s ∷ p) [] = tt
apart_from gap [] (next ∷ later) = apart_from (gap + 1) next later
apart_from gap (s ∷ p) (next ∷ later) = gaps_from 1 next later (omega arith)

goes_on_from : (gap : ℕ) (p : List Symbol) (later : List (List Symbol)) → 1 ≤ gap → goes_on (runs_from gap p later) (nulls_from gap p later) ≡ true
unfolding runs_from
goes_on_from gap [] [] h = grind (arith, nat_tests)
goes_on_from gap (s ∷ p) [] h = refl
goes_on_from gap [] (next ∷ later) h = goes_on_from (gap + 1) next later (omega arith)
goes_on_from gap (s ∷ p) (next ∷ later) h = refl

ended_from : (gap : ℕ) (p : List Symbol) (later : List (List Symbol)) → AreEnded (runs_from gap p later) (nulls_from gap p later)
unfolding runs_from
ended_from gap [] [] = tt
ended_from gap (s ∷ p) [] = (refl, tt)
ended_from gap [] (next ∷ later) = ended_from (gap + 1) next later
ended_from gap (s ∷ p) (next ∷ later) = (sym (goes_on_from 1 next later (omega arith)), ended_from 1 next later)

pub cut : (x : List Symbol) → (nulls : ℕ) × IsCut x (runs x) nulls
unfolding runs
cut x = (
  nulls_from 0 (first_piece x) (later_pieces x),
  record {
    whole = line_is x ∙ whole_from 0 (first_piece x) (later_pieces x);
    bits = bits_from 0 (first_piece x) (later_pieces x) (no_null x) (no_nulls x);
    apart = apart_from 0 (first_piece x) (later_pieces x);
    ended = ended_from 0 (first_piece x) (later_pieces x);
  },
)

-- ---- there is no other cut

-- the runs of a line that comes after this number of Nulls
abbrev runs_after : ℕ → List Symbol → List Run
runs_after gap x = runs_from gap (first_piece x) (later_pieces x)

nulls_before : (gap count : ℕ) (x : List Symbol) → runs_after gap (replicate count Null ++ x) ≡ runs_after (gap + count) x
unfolding runs_from first_piece later_pieces
nulls_before gap zero x = ap (λ (n : ℕ). runs_after n x) (sym (add-zero gap))
nulls_before gap (suc count) x =
    let e : gap + 1 + count ≡ gap + suc count = omega arith in
    nulls_before (gap + 1) count x ∙ ap (λ (n : ℕ). runs_after n x) e

bits_first : (p x : List Symbol) → list_all is_bit p ≡ true → first_piece (p ++ x) ≡ p ++ first_piece x
unfolding first_piece
bits_first [] x h = refl
bits_first (Null ∷ p) x h = grind arith
bits_first (Hi ∷ p) x h = ap (λ (y : List Symbol). Hi ∷ y) (bits_first p x h)
bits_first (Lo ∷ p) x h = ap (λ (y : List Symbol). Lo ∷ y) (bits_first p x h)

bits_later : (p x : List Symbol) → list_all is_bit p ≡ true → later_pieces (p ++ x) ≡ later_pieces x
unfolding later_pieces
bits_later [] x h = refl
bits_later (Null ∷ p) x h = grind arith
bits_later (Hi ∷ p) x h = bits_later p x h
bits_later (Lo ∷ p) x h = bits_later p x h

bits_before : (gap : ℕ) (p x : List Symbol) → list_all is_bit p ≡ true → runs_after gap (p ++ x) ≡ runs_from gap (p ++ first_piece x) (later_pieces x)
bits_before gap p x h =
    ap (λ (y : List Symbol). runs_from gap y (later_pieces (p ++ x))) (bits_first p x h)
    ∙ ap (λ (y : List (List Symbol)). runs_from gap (p ++ first_piece x) y) (bits_later p x h)

none_left : (gap : ℕ) → runs_after gap [] ≡ []
unfolding runs_from first_piece later_pieces
none_left gap = refl

-- a run at the line's end
run_last : (gap : ℕ) (s : Symbol) (p : List Symbol) → runs_from gap ((s ∷ p) ++ first_piece []) (later_pieces []) ≡ record { gap = gap; symbols = s ∷ p; ended = false } ∷ []
unfolding runs_from first_piece later_pieces
run_last gap s p = ap (λ (y : List Symbol). record { gap = gap; symbols = s ∷ y; ended = false } ∷ []) (append-nil p)

-- a run before a Null
run_ended : (gap : ℕ) (s : Symbol) (p x : List Symbol) →
    runs_from gap ((s ∷ p) ++ first_piece (Null ∷ x)) (later_pieces (Null ∷ x)) ≡ record { gap = gap; symbols = s ∷ p; ended = true } ∷ runs_after 0 (Null ∷ x)
unfolding runs_from first_piece later_pieces
run_ended gap s p x = ap (λ (y : List Symbol). record { gap = gap; symbols = s ∷ y; ended = true } ∷ runs_after 1 x) (append-nil p)

abbrev line_of : List Run → ℕ → List Symbol
line_of all nulls = flat_map stretch all ++ replicate nulls Null

-- a line that begins with no bit
abbrev starts_apart : List Symbol → Bool
starts_apart [] = true
starts_apart (Null ∷ x) = true
starts_apart (Hi ∷ x) = false
starts_apart (Lo ∷ x) = false

abbrev has_more : List Symbol → Bool
has_more [] = false
has_more (s ∷ x) = true

one_run : (gap : ℕ) (symbols : List Symbol) (x : List Symbol) → IsTrue (are_bits symbols) → starts_apart x ≡ true →
    runs_after gap (symbols ++ x) ≡ record { gap = gap; symbols = symbols; ended = has_more x } ∷ runs_after 0 x
one_run gap [] x b h = absurd (clash b)
one_run gap (s ∷ p) [] b h = bits_before gap (s ∷ p) [] b ∙ run_last gap s p ∙ ap (λ (l : List Run). record { gap = gap; symbols = s ∷ p; ended = false } ∷ l) (sym (none_left 0))
one_run gap (s ∷ p) (Null ∷ x) b h = bits_before gap (s ∷ p) (Null ∷ x) b ∙ run_ended gap s p x
one_run gap (s ∷ p) (Hi ∷ x) b h = absurd (clash h)
one_run gap (s ∷ p) (Lo ∷ x) b h = absurd (clash h)

gap_starts : (gap : ℕ) (a b c : List Symbol) → 1 ≤ gap → starts_apart (((replicate gap Null ++ a) ++ b) ++ c) ≡ true
gap_starts zero a b c h = absurd (omega arith)
gap_starts (suc gap) a b c h = refl

gap_more : (gap : ℕ) (a b c : List Symbol) → 1 ≤ gap → has_more (((replicate gap Null ++ a) ++ b) ++ c) ≡ true
gap_more zero a b c h = absurd (omega arith)
gap_more (suc gap) a b c h = refl

nulls_start : (nulls : ℕ) → starts_apart (replicate nulls Null) ≡ true
nulls_start zero = refl
nulls_start (suc nulls) = refl

nulls_more : (nulls : ℕ) → nat_lt 0 nulls ≡ has_more (replicate nulls Null)
nulls_more zero = refl
nulls_more (suc nulls) = grind (arith, nat_tests)

tail_starts : (more : List Run) (nulls : ℕ) → AllByRecursion (λ run. 1 ≤ run.gap) more → starts_apart (line_of more nulls) ≡ true
tail_starts [] nulls h = nulls_start nulls
tail_starts (next ∷ more) nulls h = gap_starts next.gap next.symbols (flat_map stretch more) (replicate nulls Null) h.0

tail_more : (more : List Run) (nulls : ℕ) → AllByRecursion (λ run. 1 ≤ run.gap) more → goes_on more nulls ≡ has_more (line_of more nulls)
tail_more [] nulls h = nulls_more nulls
tail_more (next ∷ more) nulls h = sym (gap_more next.gap next.symbols (flat_map stretch more) (replicate nulls Null) h.0)

apart_more : (more : List Run) → AllByRecursion (λ run. 1 ≤ run.gap) more → RunsAreApart more
apart_more [] h = tt
apart_more (next ∷ more) h = h.1

line_more : (run : Run) (more : List Run) (nulls : ℕ) → line_of (run ∷ more) nulls ≡ replicate run.gap Null ++ (run.symbols ++ line_of more nulls)
line_more run more nulls =
    append_assoc (stretch run) (flat_map stretch more) (replicate nulls Null)
    ∙ append_assoc (replicate run.gap Null) run.symbols (line_of more nulls)

only_from : (all : List Run) (nulls : ℕ) → AllByRecursion (λ run. IsTrue (are_bits run.symbols)) all → RunsAreApart all → AreEnded all nulls → all ≡ runs_after 0 (line_of all nulls)
only_from [] nulls b a e = sym (ap (λ (x : List Symbol). runs_after 0 x) (sym (append-nil (replicate nulls Null))) ∙ nulls_before 0 nulls [] ∙ none_left (0 + nulls))
only_from (run ∷ more) nulls b a e =
    let tail = line_of more nulls in
    let ended = e.0 ∙ tail_more more nulls a in
    let whole =
    ap (λ (x : List Symbol). runs_after 0 x) (line_more run more nulls)
    ∙ nulls_before 0 run.gap (run.symbols ++ tail)
    ∙ ap (λ (n : ℕ). runs_after n (run.symbols ++ tail)) (zero-add run.gap)
    ∙ one_run run.gap run.symbols tail b.0 (tail_starts more nulls a)
    in
    ap (λ (end : Bool). record { gap = run.gap; symbols = run.symbols; ended = end } ∷ more) ended
    ∙ ap (λ (l : List Run). record { gap = run.gap; symbols = run.symbols; ended = has_more tail } ∷ l) (only_from more nulls b.1 (apart_more more a) e.1)
    ∙ sym whole

pub only_cut : (x : List Symbol) (all : List Run) (nulls : ℕ) → IsCut x all nulls → all ≡ runs x
unfolding runs
only_cut x all nulls cut = only_from all nulls cut.bits cut.apart cut.ended ∙ ap (λ (y : List Symbol). runs_after 0 y) (sym cut.whole)
