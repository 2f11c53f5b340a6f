-- one more symbol: what it adds to the reports, and what is kept then
use Rattle.std.proofs.Common.{◌≡◌, ℕ, ◌+◌, ◌*◌, ◌%◌, ◌^◌, ◌<◌, ◌≤◌, true, false, List, [], ◌∷◌, ◌++◌, length, refl, ap, sym, ◌∙◌, arith, append_assoc, append-nil, length-append, get_or, drop, take, drop-cons, add-one}
use Rattle.std.specs.Prelude.{◌≢◌, Option, Some, None, is_some, filter_map, bit_or}
use Rattle.std.specs.Option.{option_to_list, option_map_or}
use Rattle.std.specs.List.{find}
use Rattle.std.proofs.lemmas.List.Elements.{filter_map-append}
use Rattle.std.proofs.lemmas.List.{drop_all, take-append-le, length-take}
use Rattle.std.proofs.lemmas.Bool.Decides.{nat_tests}
use Rattle.std.proofs.lemmas.Nat.{one_shl, or_comm, or_shifted}
use Rattle.std.specs.Int.Bits.{or_zero_r}
use Rattle.a429_line.specs.Reports.{report, reports, number, gap_after, first_piece, later_pieces, run_of, runs_from, runs, rest, is_waiting}
use Rattle.a429_line.specs.Stages.{due, after, due_in, after_all}
use Rattle.a429_line.specs.KeptLines.{kept, kept_from, kept_of, left, StandsForLine}
use Rattle.a429_line.specs.declared.found.Symbol.{Symbol}
use Rattle.a429_line.specs.declared.found.Symbol.TheVariants.{Hi, Null, Lo}
use Rattle.a429_line.specs.declared.found.Found.{Found}
use Rattle.a429_line.specs.declared.stage.Stage.{Stage}

-- ---- numbers of bits

pub number_lt : (x : List Symbol) → number x < 2 ^ length x
unfolding number
number_lt [] = omega arith
number_lt (Hi ∷ x) = grind (arith, number_lt x)
number_lt (Lo ∷ x) = grind (arith, number_lt x)
number_lt (Null ∷ x) = grind (arith, number_lt x)

pub number_hi : (x : List Symbol) → number (x ++ Hi ∷ []) ≡ number x + 2 ^ length x
unfolding number
number_hi [] = refl
number_hi (Hi ∷ x) = grind (arith, number_hi x)
number_hi (Lo ∷ x) = grind (arith, number_hi x)
number_hi (Null ∷ x) = grind (arith, number_hi x)

pub number_lo : (x : List Symbol) → number (x ++ Lo ∷ []) ≡ number x
unfolding number
number_lo [] = refl
number_lo (Hi ∷ x) = grind (arith, number_lo x)
number_lo (Lo ∷ x) = grind (arith, number_lo x)
number_lo (Null ∷ x) = grind (arith, number_lo x)

number_one_hi : number (Hi ∷ []) ≡ 1
unfolding number
number_one_hi = refl

number_one_lo : number (Lo ∷ []) ≡ 0
unfolding number
number_one_lo = refl

pub or_one : (n len : ℕ) → n < 2 ^ len → len < 32 → bit_or n (1 * 2 ^ len % 2 ^ 32) ≡ n + 2 ^ len
or_one n len below h =
    ap (bit_or n) (one_shl len 32 h ∙ sym (omega arith)) ∙ or_comm n (1 * 2 ^ len) ∙ or_shifted 1 len n below ∙ omega arith

pub or_none : (n len : ℕ) → bit_or n (0 * 2 ^ len % 2 ^ 32) ≡ n
or_none n len = let e : 0 * 2 ^ len % 2 ^ 32 ≡ 0 = omega arith in ap (bit_or n) e ∙ or_zero_r n

-- ---- one symbol after a piece

null_found : (gap : ℕ) (p : List Symbol) → filter_map report (run_of gap p true) ≡ filter_map report (run_of gap p false) ++ option_to_list (due (kept gap p) Null)
null_found gap [] = refl
null_found gap (s ∷ p) = grind (arith, nat_tests)

null_kept : (gap : ℕ) (p : List Symbol) → kept (gap_after gap p) [] ≡ after (kept gap p) Null
null_kept gap [] = grind (arith, nat_tests)
null_kept gap (s ∷ p) = grind (arith, nat_tests)

hi_found : (gap : ℕ) (p : List Symbol) → filter_map report (run_of gap (p ++ Hi ∷ []) false) ≡ filter_map report (run_of gap p false) ++ option_to_list (due (kept gap p) Hi)
hi_found gap [] = grind (arith, nat_tests)
hi_found gap (s ∷ p) = grind (arith, nat_tests, length-append)

hi_kept : (gap : ℕ) (p : List Symbol) → kept gap (p ++ Hi ∷ []) ≡ after (kept gap p) Hi
hi_kept gap [] = grind (arith, nat_tests, number_one_hi)
hi_kept gap (s ∷ p) = grind (arith, nat_tests, length-append, or_one, number_lt (s ∷ p), number_hi (s ∷ p))

lo_found : (gap : ℕ) (p : List Symbol) → filter_map report (run_of gap (p ++ Lo ∷ []) false) ≡ filter_map report (run_of gap p false) ++ option_to_list (due (kept gap p) Lo)
lo_found gap [] = grind (arith, nat_tests)
lo_found gap (s ∷ p) = grind (arith, nat_tests, length-append)

lo_kept : (gap : ℕ) (p : List Symbol) → kept gap (p ++ Lo ∷ []) ≡ after (kept gap p) Lo
lo_kept gap [] = grind (arith, nat_tests, number_one_lo)
lo_kept gap (s ∷ p) = grind (arith, nat_tests, length-append, or_none, number_lo (s ∷ p))

-- ---- one symbol after a line that goes on from a piece

grows_kept : (gap : ℕ) (p x : List Symbol) (s : Symbol) → kept_from gap (p ++ first_piece (x ++ s ∷ [])) (later_pieces (x ++ s ∷ [])) ≡ after (kept_from gap (p ++ first_piece x) (later_pieces x)) s
unfolding first_piece later_pieces kept_from
grows_kept gap p [] Hi = hi_kept gap p ∙ ap (λ (q : List Symbol). after (kept gap q) Hi) (sym (append-nil p))
grows_kept gap p [] Lo = lo_kept gap p ∙ ap (λ (q : List Symbol). after (kept gap q) Lo) (sym (append-nil p))
grows_kept gap p [] Null = null_kept gap (p ++ [])
grows_kept gap p (Null ∷ x) s = grows_kept (gap_after gap (p ++ [])) [] x s
grows_kept gap p (Hi ∷ x) s =
    ap (λ (q : List Symbol). kept_from gap q (later_pieces (x ++ s ∷ []))) (sym (append_assoc p (Hi ∷ []) (first_piece (x ++ s ∷ []))))
    ∙ grows_kept gap (p ++ Hi ∷ []) x s
    ∙ ap (λ (q : List Symbol). after (kept_from gap q (later_pieces x)) s) (append_assoc p (Hi ∷ []) (first_piece x))
grows_kept gap p (Lo ∷ x) s =
    ap (λ (q : List Symbol). kept_from gap q (later_pieces (x ++ s ∷ []))) (sym (append_assoc p (Lo ∷ []) (first_piece (x ++ s ∷ []))))
    ∙ grows_kept gap (p ++ Lo ∷ []) x s
    ∙ ap (λ (q : List Symbol). after (kept_from gap q (later_pieces x)) s) (append_assoc p (Lo ∷ []) (first_piece x))

-- the reports of the runs among pieces
abbrev pub found_from : ℕ → List Symbol → List (List Symbol) → List Found
found_from gap piece later = filter_map report (runs_from gap piece later)

grows_found : (gap : ℕ) (p x : List Symbol) (s : Symbol) → found_from gap (p ++ first_piece (x ++ s ∷ [])) (later_pieces (x ++ s ∷ [])) ≡ found_from gap (p ++ first_piece x) (later_pieces x) ++ option_to_list (due (kept_from gap (p ++ first_piece x) (later_pieces x)) s)
unfolding first_piece later_pieces kept_from runs_from
grows_found gap p [] Hi = hi_found gap p ∙ ap (λ (q : List Symbol). filter_map report (run_of gap q false) ++ option_to_list (due (kept gap q) Hi)) (sym (append-nil p))
grows_found gap p [] Lo = lo_found gap p ∙ ap (λ (q : List Symbol). filter_map report (run_of gap q false) ++ option_to_list (due (kept gap q) Lo)) (sym (append-nil p))
grows_found gap p [] Null =
    filter_map-append report (run_of gap (p ++ []) true) []
    ∙ append-nil (filter_map report (run_of gap (p ++ []) true))
    ∙ null_found gap (p ++ [])
grows_found gap p (Null ∷ x) s =
    let one = run_of gap (p ++ []) true in
    let next = gap_after gap (p ++ []) in
    let more = option_to_list (due (kept_from next (first_piece x) (later_pieces x)) s) in
    filter_map-append report one (runs_from next (first_piece (x ++ s ∷ [])) (later_pieces (x ++ s ∷ [])))
    ∙ ap (λ (r : List Found). filter_map report one ++ r) (grows_found next [] x s)
    ∙ sym (append_assoc (filter_map report one) (found_from next (first_piece x) (later_pieces x)) more)
    ∙ ap (λ (r : List Found). r ++ more) (sym (filter_map-append report one (runs_from next (first_piece x) (later_pieces x))))
grows_found gap p (Hi ∷ x) s =
    ap (λ (q : List Symbol). found_from gap q (later_pieces (x ++ s ∷ []))) (sym (append_assoc p (Hi ∷ []) (first_piece (x ++ s ∷ []))))
    ∙ grows_found gap (p ++ Hi ∷ []) x s
    ∙ ap (λ (q : List Symbol). found_from gap q (later_pieces x) ++ option_to_list (due (kept_from gap q (later_pieces x)) s)) (append_assoc p (Hi ∷ []) (first_piece x))
grows_found gap p (Lo ∷ x) s =
    ap (λ (q : List Symbol). found_from gap q (later_pieces (x ++ s ∷ []))) (sym (append_assoc p (Lo ∷ []) (first_piece (x ++ s ∷ []))))
    ∙ grows_found gap (p ++ Lo ∷ []) x s
    ∙ ap (λ (q : List Symbol). found_from gap q (later_pieces x) ++ option_to_list (due (kept_from gap q (later_pieces x)) s)) (append_assoc p (Lo ∷ []) (first_piece x))

-- ---- a line that goes on

pub kept_push : (x : List Symbol) (s : Symbol) → kept_of (x ++ s ∷ []) ≡ after (kept_of x) s
kept_push x s = grows_kept 0 [] x s

pub reports_push : (x : List Symbol) (s : Symbol) → reports (x ++ s ∷ []) ≡ reports x ++ option_to_list (due (kept_of x) s)
unfolding reports runs
reports_push x s = grows_found 0 [] x s

pub kept_more : (x y : List Symbol) → kept_of (x ++ y) ≡ after_all (kept_of x) y
unfolding after_all
kept_more x [] = ap (λ (z : List Symbol). kept_of z) (append-nil x)
kept_more x (s ∷ y) =
    ap (λ (z : List Symbol). kept_of z) (sym (append_assoc x (s ∷ []) y))
    ∙ kept_more (x ++ s ∷ []) y
    ∙ ap (λ (st : Stage). after_all st y) (kept_push x s)

pub reports_more : (x y : List Symbol) → reports (x ++ y) ≡ reports x ++ due_in (kept_of x) y
unfolding due_in
reports_more x [] = ap reports (append-nil x) ∙ sym (append-nil (reports x))
reports_more x (s ∷ y) =
    ap reports (sym (append_assoc x (s ∷ []) y))
    ∙ reports_more (x ++ s ∷ []) y
    ∙ ap (λ (r : List Found). r ++ due_in (kept_of (x ++ s ∷ [])) y) (reports_push x s)
    ∙ ap (λ (st : Stage). (reports x ++ option_to_list (due (kept_of x) s)) ++ due_in st y) (kept_push x s)
    ∙ append_assoc (reports x) (option_to_list (due (kept_of x) s)) (due_in (after (kept_of x) s) y)

-- ---- the rest

rest_from : (gap : ℕ) (p : List Symbol) (later : List (List Symbol)) → option_map_or (λ run. length run.symbols) (find is_waiting (runs_from gap p later)) 0 ≡ left (kept_from gap p later)
unfolding runs_from kept_from
rest_from gap [] [] = refl
rest_from gap (s ∷ p) [] = grind (arith, nat_tests)
rest_from gap [] (next ∷ later) = rest_from (gap + 1) next later
rest_from gap (s ∷ p) (next ∷ later) = rest_from 1 next later

pub rest_is : (x : List Symbol) → rest x ≡ left (kept_of x)
unfolding rest runs
rest_is x = rest_from 0 (first_piece x) (later_pieces x)

pub rest_of : (x : List Symbol) (stage : Stage) → StandsForLine x stage → rest x ≡ left stage
unfolding StandsForLine
rest_of x stage S = rest_is x ∙ ap left (sym S)

pub stands_more : (x y : List Symbol) (stage : Stage) → StandsForLine x stage → StandsForLine (x ++ y) (after_all stage y)
unfolding StandsForLine
stands_more x y stage S = ap (λ (st : Stage). after_all st y) S ∙ sym (kept_more x y)

pub reports_of : (x y : List Symbol) (stage : Stage) → StandsForLine x stage → reports (x ++ y) ≡ reports x ++ due_in stage y
unfolding StandsForLine
reports_of x y stage S = reports_more x y ∙ ap (λ (st : Stage). reports x ++ due_in st y) (sym S)

-- the next of the symbols that are left
pub due_next : (stage : Stage) (s : Symbol) (x : List Symbol) → due_in stage (s ∷ x) ≡ option_to_list (due stage s) ++ due_in (after stage s) x
unfolding due_in
due_next stage s x = refl

pub after_next : (stage : Stage) (s : Symbol) (x : List Symbol) → after_all stage (s ∷ x) ≡ after_all (after stage s) x
unfolding after_all
after_next stage s x = refl

pub due_none : (stage : Stage) → due_in stage [] ≡ []
unfolding due_in
due_none stage = refl

pub after_none : (stage : Stage) → after_all stage [] ≡ stage
unfolding after_all
after_none stage = refl

drop_next : (x : List Symbol) (i : ℕ) (d : Symbol) → i < length x → drop i x ≡ get_or x i d ∷ drop (i + 1) x
drop_next x i d h = drop-cons x i d h ∙ ap (λ (n : ℕ). get_or x i d ∷ drop n x) (sym (add-one i))

one_of : (found : Option Found) → is_some found ≡ true → length (option_to_list found) ≡ 1
one_of None some = absurd (let clash : false ≡ true = some in cc)
one_of (Some f) some = refl

-- a step of the loop over a piece
pub due_step : (out old : List Found) (stage begun : Stage) (piece : List Symbol) (i : ℕ) (d : Symbol) → i < length piece →
    out ++ due_in stage (drop i piece) ≡ old ++ due_in begun piece →
    (out ++ option_to_list (due stage (get_or piece i d))) ++ due_in (after stage (get_or piece i d)) (drop (i + 1) piece) ≡ old ++ due_in begun piece
unfolding due_in
due_step out old stage begun piece i d h e =
    append_assoc out (option_to_list (due stage (get_or piece i d))) (due_in (after stage (get_or piece i d)) (drop (i + 1) piece))
    ∙ ap (λ (x : List Symbol). out ++ due_in stage x) (sym (drop_next piece i d h))
    ∙ e

pub after_step : (stage begun : Stage) (piece : List Symbol) (i : ℕ) (d : Symbol) → i < length piece →
    after_all stage (drop i piece) ≡ after_all begun piece →
    after_all (after stage (get_or piece i d)) (drop (i + 1) piece) ≡ after_all begun piece
unfolding after_all
after_step stage begun piece i d h e = ap (after_all stage) (sym (drop_next piece i d h)) ∙ e

-- the end of the loop
pub due_end : (out old : List Found) (stage begun : Stage) (piece : List Symbol) (i : ℕ) → length piece ≤ i →
    out ++ due_in stage (drop i piece) ≡ old ++ due_in begun piece → out ≡ old ++ due_in begun piece
unfolding due_in
due_end out old stage begun piece i h e =
    sym (append-nil out) ∙ ap (λ (x : List Symbol). out ++ due_in stage x) (sym (drop_all i piece h)) ∙ e

pub after_end : (stage begun : Stage) (piece : List Symbol) (i : ℕ) → length piece ≤ i →
    after_all stage (drop i piece) ≡ after_all begun piece → stage ≡ after_all begun piece
unfolding after_all
after_end stage begun piece i h e = ap (after_all stage) (sym (drop_all i piece h)) ∙ e

-- what was in front stays there
pub front_stays : (n : ℕ) (out more old : List Found) → n ≡ length old → take n out ≡ old → take n (out ++ more) ≡ old
front_stays n out more old len e =
    let enough : n ≤ length out = omega (arith, length-take n out, ap length e) in
    take-append-le n out more enough ∙ e

-- a report that is due in what is left is due in the whole piece
pub due_some : (out old : List Found) (stage begun : Stage) (piece : List Symbol) (i : ℕ) (d : Symbol) → i < length piece → length old ≤ length out →
    is_some (due stage (get_or piece i d)) ≡ true → out ++ due_in stage (drop i piece) ≡ old ++ due_in begun piece → due_in begun piece ≢ []
unfolding due_in
due_some out old stage begun piece i d h more some e none =
    let s = get_or piece i d in
    let left = due_in (after stage s) (drop (i + 1) piece) in
    let at : out ++ (option_to_list (due stage s) ++ left) ≡ old ++ due_in begun piece = ap (λ (x : List Symbol). out ++ due_in stage x) (sym (drop_next piece i d h)) ∙ e in
    let one : length (option_to_list (due stage s)) ≡ 1 = one_of (due stage s) some in
    let long = ap length at in
    let short : length (due_in begun piece) ≡ 0 = ap length none in
    omega (arith, long, one, short, more, length-append out (option_to_list (due stage s) ++ left), length-append (option_to_list (due stage s)) left, length-append old (due_in begun piece))

-- symbols with a report that is due bring one after each line
pub some_of : (x y : List Symbol) (stage : Stage) (due : List Found) → due ≡ due_in stage y → due ≢ [] → StandsForLine x stage → (found : Found) × (later : List Found) × (reports (x ++ y) ≡ reports x ++ found ∷ later)
some_of x y stage [] is some S = absurd (some refl)
some_of x y stage (f ∷ fs) is some S = (f, fs, reports_of x y stage S ∙ ap (λ (l : List Found). reports x ++ l) (sym is))
