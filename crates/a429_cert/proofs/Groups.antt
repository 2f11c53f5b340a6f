-- The walk over groups.
use Rattle.std.proofs.Common.{◌≡◌, ℕ, zero, suc, ◌+◌, ◌<◌, ◌≤◌, Bool, true, false, cond, eqb, List, [], ◌∷◌, ◌++◌, length, get_or, take, drop, Option, Some, None, Result, Ok, Err, refl, sym, ap, subst, ◌∙◌, arith}
use Rattle.std.specs.Prelude.{MatchResult, IsErrAnd}
use Rattle.std.specs.List.{onto_first}
use Rattle.std.proofs.lemmas.List.{drop_more, drop-drop, length-append}
use Rattle.std.proofs.lemmas.List.Sums.{sum_by_more, sum_by-take-le}
use Rattle.a429_cert.specs.declared.verdicts.Reason.{Reason}
use Rattle.a429_cert.specs.declared.verdicts.No.{No}
use Rattle.a429_cert.specs.declared.stops.CheckStop.{CheckStop}
use Rattle.a429_cert.specs.declared.stops.CheckStop.TheVariants as stops
use Rattle.a429_cert.specs.declared.due.DueGroup.{DueGroup}
use Rattle.a429_cert.specs.Lines.{lines_of, line_at}
use Rattle.a429_cert.specs.Faults.{group_fault, output_faults, bound_fault, group_faults, groups_faults, end_fault, first_no, buses_of, Stops, EndsCheckBy, due}
use Rattle.a429_cert.proofs.Walk.{line_from}

-- ---- the first of two lists

pub pass_front : (n : ℕ) (xs ys : List (Option Reason)) → first_no n xs ≡ None → first_no n (xs ++ ys) ≡ first_no (n + length xs) ys
pass_front n [] ys e = ap (λ (k : ℕ). first_no k ys) (omega arith)
pass_front n (None ∷ xs) ys e = pass_front (n + 1) xs ys e ∙ ap (λ (k : ℕ). first_no k ys) (omega arith)
pass_front n (Some r ∷ xs) ys e = absurd cc

pub end_front : (n : ℕ) (xs ys : List (Option Reason)) (a : No) → first_no n xs ≡ Some a → first_no n (xs ++ ys) ≡ Some a
end_front n [] ys a e = absurd cc
end_front n (None ∷ xs) ys a e = end_front (n + 1) xs ys a e
end_front n (Some r ∷ xs) ys a e = e

pub stops_front : (n : ℕ) (xs ys : List (Option Reason)) (s : CheckStop) → Stops s (first_no n xs) → Stops s (first_no n (xs ++ ys))
stops_front n xs ys stops.Memory h = tt
stops_front n xs ys (stops.Refused a) h = end_front n xs ys a h

pub stops_along : (o p : Option No) (s : CheckStop) → o ≡ p → Stops s p → Stops s o
stops_along o p s e h = subst (λ (x : Option No). Stops s x) (sym e) h

-- if memory ran out, the check may end at any line
pub memory_ends : {A : Type 0} (r : Result A CheckStop) (o : Option No) → IsErrAnd r (λ s. s ≡ stops.Memory) → EndsCheckBy r o
memory_ends (Ok x) o h = absurd h
memory_ends (Err stops.Memory) o h = tt
memory_ends (Err (stops.Refused a)) o h = absurd cc

pub gives_along : (o p : Option No) (r : Result (Unit {0}) CheckStop) → o ≡ p → EndsCheckBy r p → EndsCheckBy r o
gives_along o p r e h = subst (λ (x : Option No). EndsCheckBy r x) (sym e) h

-- ---- a line that was numbered

pub passes : {T : Type 0} (r : Result T Reason) (x : T) (o : Option Reason) (a : Reason → CheckStop) (P : T → Type 0)
    → MatchResult r (λ y. ◌≡◌ {A = Result T CheckStop} (Ok x) (Ok y)) (λ q. ◌≡◌ {A = Result T CheckStop} (Ok x) (Err (a q))) → MatchResult r (λ _. o ≡ None) (λ q. o ≡ Some q) → MatchResult r P (λ _. Unit {0})
    → (o ≡ None) × P x
passes (Ok y) x o a P e f h = let same : y ≡ x = cc in (f, subst P same h)
passes (Err q) x o a P e f h = absurd cc

-- the reason against a line is what ends the check there
pub fails : {T : Type 0} (r : Result T Reason) (s : CheckStop) (o : Option Reason) (n : ℕ) (fs : List (Option Reason))
    → MatchResult r (λ y. ◌≡◌ {A = Result T CheckStop} (Err s) (Ok y)) (λ q. ◌≡◌ {A = Result T CheckStop} (Err s) (Err (stops.Refused (record { reason = q; line = n })))) → MatchResult r (λ _. o ≡ None) (λ q. o ≡ Some q)
    → Stops s (first_no n (o ∷ fs))
fails (Ok y) s o n fs e f = absurd cc
fails (Err q) s o n fs e f =
    let same : s ≡ stops.Refused (record { reason = q; line = n }) = cc in
    rw (same, f) refl

pub last_gives : (r : Result (Unit {0}) Reason) (s : Result (Unit {0}) CheckStop) (o : Option Reason) (n : ℕ)
    → MatchResult r (λ y. s ≡ Ok y) (λ q. s ≡ Err (stops.Refused (record { reason = q; line = n }))) → MatchResult r (λ _. o ≡ None) (λ q. o ≡ Some q)
    → EndsCheckBy s (first_no n (o ∷ []))
last_gives (Ok y) s o n e f = rw (e, f) refl
last_gives (Err q) s o n e f = rw (e, f) refl

-- ---- a group

pub length-output_faults : (version : ℕ) (g : DueGroup) (buses : ℕ) (lines : List (List ℕ)) (j n : ℕ) → length (output_faults version g buses lines j n) ≡ n
length-output_faults version g buses lines j zero = refl
length-output_faults version g buses lines j (suc n) = ap suc (length-output_faults version g buses lines (j + 1) n)

pub group_ends : (version : ℕ) (g : DueGroup) (lines rest : List (List ℕ)) (line : List ℕ) (number buses : ℕ) (s : CheckStop) → line ≡ line_at lines 0 → rest ≡ drop 1 lines → group_fault version g line ≡ None → buses ≡ buses_of version line
    → Stops s (first_no (number + 1) (output_faults version g buses rest 0 (length g.outputs.items))) → Stops s (first_no number (group_faults version g lines))
group_ends version g lines rest line number buses s at-line at-rest fine states h =
    let none : group_fault version g (line_at lines 0) ≡ None = rw (← at-line) fine in
    let here : buses ≡ buses_of version (line_at lines 0) = states ∙ ap (buses_of version) at-line in
    let outs = rw (here, at-rest) at h in
    rw none (stops_front (number + 1) (output_faults version g (buses_of version (line_at lines 0)) (drop 1 lines) 0 (length g.outputs.items)) _ s outs)

pub last_line : (lines rest left : List (List ℕ)) (n : ℕ) → rest ≡ drop 1 lines → left ≡ drop n rest → line_at left 0 ≡ line_at lines (n + 1)
last_line lines rest left n e f = rw (f, e, drop-drop n 1 lines) (line_from lines (1 + n) ∙ ap (λ (k : ℕ). line_at lines k) (omega arith))

pub group_passes : (version : ℕ) (g : DueGroup) (lines rest : List (List ℕ)) (line last : List ℕ) (number buses : ℕ) (r : Result (Unit {0}) CheckStop) → line ≡ line_at lines 0 → rest ≡ drop 1 lines → group_fault version g line ≡ None → buses ≡ buses_of version line
    → first_no (number + 1) (output_faults version g buses rest 0 (length g.outputs.items)) ≡ None → last ≡ line_at lines (length g.outputs.items + 1)
    → EndsCheckBy r (first_no (number + length g.outputs.items + 1) (bound_fault g buses last ∷ [])) → EndsCheckBy r (first_no number (group_faults version g lines))
group_passes version g lines rest line last number buses r at-line at-rest fine states outs at-last h =
    let none : group_fault version g (line_at lines 0) ≡ None = rw (← at-line) fine in
    let here : buses ≡ buses_of version (line_at lines 0) = states ∙ ap (buses_of version) at-line in
    let B = buses_of version (line_at lines 0) in
    let passed : first_no (number + 1) (output_faults version g (buses_of version (line_at lines 0)) (drop 1 lines) 0 (length g.outputs.items)) ≡ None = rw (← here, ← at-rest) outs in
    let ended : EndsCheckBy r (first_no (number + length g.outputs.items + 1) (bound_fault g (buses_of version (line_at lines 0)) (line_at lines (length g.outputs.items + 1)) ∷ [])) = rw (← here, ← at-last) h in
    let count : number + 1 + length (output_faults version g (buses_of version (line_at lines 0)) (drop 1 lines) 0 (length g.outputs.items)) ≡ number + length g.outputs.items + 1 = omega (arith, length-output_faults version g (buses_of version (line_at lines 0)) (drop 1 lines) 0 (length g.outputs.items)) in
    rw none (gives_along _ _ r (pass_front (number + 1) (output_faults version g (buses_of version (line_at lines 0)) (drop 1 lines) 0 (length g.outputs.items)) (bound_fault g (buses_of version (line_at lines 0)) (line_at lines (length g.outputs.items + 1)) ∷ []) passed)
    (subst (λ (k : ℕ). EndsCheckBy r (first_no k (bound_fault g (buses_of version (line_at lines 0)) (line_at lines (length g.outputs.items + 1)) ∷ []))) (sym count) ended))

-- ---- after the last line

first_byte : (b : ℕ) (t : Bool) (lines : List (List ℕ)) → line_at (cond t ((b ∷ []) ∷ lines) (onto_first b lines)) 0 ≡ [] → ⊥
first_byte b true lines e = absurd cc
first_byte b false [] e = absurd cc
first_byte b false (l ∷ ls) e = absurd cc

no_line : (text : List ℕ) → line_at (lines_of text) 0 ≡ [] → lines_of text ≡ []
no_line [] e = refl
no_line (b ∷ bs) e = absurd (first_byte b (eqb b 10) (lines_of bs) e)

pub end_passes : (text line : List ℕ) → line ≡ line_at (lines_of text) 0 → length line ≡ 0 → end_fault (lines_of text) ≡ None
end_passes text [] e h = ap end_fault (no_line text (sym e))
end_passes text (b ∷ bs) e h = absurd (omega arith)

-- ---- group by group

pub due_more : (gs : List DueGroup) (i : ℕ) (g : DueGroup) → i < length gs → g ≡ get_or gs i g → due (take (i + 1) gs) ≡ due (take i gs) + (length g.outputs.items + 2)
due_more gs i g lt e =
    let read : get_or gs i g ≡ g = sym e in
    let more = sum_by_more (λ (g : DueGroup). length g.outputs.items + 2) gs i g lt in
    rw read at more

pub due_within : (gs : List DueGroup) (i : ℕ) (g : DueGroup) → i < length gs → g ≡ get_or gs i g → due (take i gs) + (length g.outputs.items + 2) ≤ due gs
due_within gs i g lt e = omega (arith, due_more gs i g lt e, sum_by-take-le (λ (g : DueGroup). length g.outputs.items + 2) gs (i + 1))

pub length-group_faults : (version : ℕ) (g : DueGroup) (lines : List (List ℕ)) → length (group_faults version g lines) ≡ length g.outputs.items + 2
length-group_faults version g lines =
    omega (arith, length-output_faults version g (buses_of version (line_at lines 0)) (drop 1 lines) 0 (length g.outputs.items), length-append (output_faults version g (buses_of version (line_at lines 0)) (drop 1 lines) 0 (length g.outputs.items)) (bound_fault g (buses_of version (line_at lines 0)) (line_at lines (length g.outputs.items + 1)) ∷ []))

from_group : (version : ℕ) (gs : List DueGroup) (i : ℕ) (g : DueGroup) (lines : List (List ℕ)) → i < length gs → g ≡ get_or gs i g
    → groups_faults version (drop i gs) lines ≡ group_faults version g lines ++ groups_faults version (drop (i + 1) gs) (drop (length g.outputs.items + 2) lines)
from_group version gs i g lines lt e =
    let read : get_or gs i g ≡ g = sym e in
    let more : drop i gs ≡ g ∷ drop (i + 1) gs = drop_more gs i g lt ∙ ap (λ (x : DueGroup). x ∷ drop (i + 1) gs) read in
    rw more refl

pub groups_on : (version : ℕ) (gs : List DueGroup) (i n : ℕ) (g : DueGroup) (lines : List (List ℕ)) → i < length gs → g ≡ get_or gs i g → first_no n (group_faults version g lines) ≡ None
    → first_no n (groups_faults version (drop i gs) lines) ≡ first_no (n + (length g.outputs.items + 2)) (groups_faults version (drop (i + 1) gs) (drop (length g.outputs.items + 2) lines))
groups_on version gs i n g lines lt e fine =
    ap (λ (fs : List (Option Reason)). first_no n fs) (from_group version gs i g lines lt e)
    ∙ pass_front n (group_faults version g lines) (groups_faults version (drop (i + 1) gs) (drop (length g.outputs.items + 2) lines)) fine
    ∙ ap (λ (k : ℕ). first_no (n + k) (groups_faults version (drop (i + 1) gs) (drop (length g.outputs.items + 2) lines))) (length-group_faults version g lines)

pub groups_end : (version : ℕ) (gs : List DueGroup) (i n : ℕ) (g : DueGroup) (lines : List (List ℕ)) (s : CheckStop) → i < length gs → g ≡ get_or gs i g → Stops s (first_no n (group_faults version g lines))
    → Stops s (first_no n (groups_faults version (drop i gs) lines))
groups_end version gs i n g lines s lt e h =
    stops_along _ _ s (ap (λ (fs : List (Option Reason)). first_no n fs) (from_group version gs i g lines lt e)) (stops_front n (group_faults version g lines) _ s h)
