-- A step of the walk over the lines of a group's outputs.
use Rattle.std.proofs.Common.{◌≡◌, ℕ, suc, ◌+◌, ◌-◌, ◌<◌, List, [], ◌∷◌, ◌++◌, length, take, drop, ◌≤◌, Option, Some, None, refl, ap, ◌∙◌, arith, inl, inr}
use Rattle.std.specs.List.{filter_map}
use Rattle.std.proofs.lemmas.Bool.{cases_lt}
use Rattle.std.proofs.lemmas.List.{get_or_past, get_or-drop, take_more, drop-drop}
use Rattle.std.proofs.lemmas.List.Elements.{filter_map-append}
use Rattle.a429_cert.specs.declared.verdicts.Reason.{Reason}
use Rattle.a429_cert.specs.declared.verdicts.No.{No}
use Rattle.a429_cert.specs.declared.due.DueGroup.{DueGroup}
use Rattle.a429_cert.specs.Spelling.{Listing}
use Rattle.a429_cert.specs.Reading.{output_line, word_after, after}
use Rattle.a429_cert.specs.Lines.{line_at}
use Rattle.a429_cert.specs.Faults.{output_fault, output_faults, first_no}

absent_output : (version : ℕ) → output_line version [] ≡ None
unfolding output_line word_after after
absent_output version = refl

-- one more line of an output
pub listed_more : (version : ℕ) (lines : List (List ℕ)) (j : ℕ) (l : Listing) → output_line version (line_at lines j) ≡ Some l
    → filter_map (output_line version) (take (j + 1) lines) ≡ filter_map (output_line version) (take j lines) ++ l ∷ []
listed_more version lines j l e =
    elim (cases_lt j (length lines)) [
      | inl lt ↦ rw (take_more lines j [] lt, filter_map-append, e) refl
      | inr le ↦ absurd (let absent = get_or_past lines j [] le in cc (absent_output version, ap (output_line version) absent))
    ]

-- no line is read
pub walk_starts : (version : ℕ) (g : DueGroup) (buses number n : ℕ) (lines : List (List ℕ))
    → first_no number (output_faults version g buses lines 0 n) ≡ first_no (number + 0) (output_faults version g buses lines 0 (n - 0))
walk_starts version g buses number n lines =
    let count : number + 0 ≡ number = omega arith in
    let all : n - 0 ≡ n = omega arith in
    rw (count, all) refl

-- all lines are read
pub walk_done : (version : ℕ) (g : DueGroup) (buses number j n : ℕ) (lines : List (List ℕ)) (o : Option No) → n ≤ j
    → o ≡ first_no (number + j) (output_faults version g buses lines j (n - j)) → o ≡ None
walk_done version g buses number j n lines o all e =
    let left : n - j ≡ 0 = omega arith in
    rw left at e

-- a line without a fault
pub step_on : (version : ℕ) (g : DueGroup) (buses number j n : ℕ) (lines : List (List ℕ)) → j < n
    → output_fault version g buses (filter_map (output_line version) (take j lines)) (line_at lines j) ≡ None
    → first_no (number + j) (output_faults version g buses lines j (n - j)) ≡ first_no (number + (j + 1)) (output_faults version g buses lines (j + 1) (n - (j + 1)))
step_on version g buses number j n lines lt e =
    let more : n - j ≡ suc (n - (j + 1)) = omega arith in
    let count : number + j + 1 ≡ number + (j + 1) = omega arith in
    rw (more, e) (ap (λ (k : ℕ). first_no k (output_faults version g buses lines (j + 1) (n - (j + 1)))) count)

-- a line with a fault
pub step_ends : (version : ℕ) (g : DueGroup) (buses number j n : ℕ) (lines : List (List ℕ)) (r : Reason) → j < n
    → output_fault version g buses (filter_map (output_line version) (take j lines)) (line_at lines j) ≡ Some r
    → first_no (number + j) (output_faults version g buses lines j (n - j)) ≡ Some (record { reason = r; line = number + j })
step_ends version g buses number j n lines r lt e =
    let more : n - j ≡ suc (n - (j + 1)) = omega arith in
    rw (more, e) refl

-- the lines left are those from line j on
pub line_from : (lines : List (List ℕ)) (j : ℕ) → line_at (drop j lines) 0 ≡ line_at lines j
line_from lines j = rw (get_or-drop j lines 0 []) (ap (λ (k : ℕ). line_at lines k) (omega arith))

pub rest_from : (lines : List (List ℕ)) (j : ℕ) → drop 1 (drop j lines) ≡ drop (j + 1) lines
rest_from lines j = drop-drop 1 j lines

-- the fault of the line at hand is the fault of line j
pub fault_here : (version : ℕ) (g : DueGroup) (buses j : ℕ) (lines rest : List (List ℕ)) (earlier : List Listing) (line : List ℕ) (o : Option Reason)
    → earlier ≡ filter_map (output_line version) (take j lines) → rest ≡ drop j lines → line ≡ line_at rest 0 → output_fault version g buses earlier line ≡ o
    → output_fault version g buses (filter_map (output_line version) (take j lines)) (line_at lines j) ≡ o
fault_here version g buses j lines rest earlier line o listed left here e =
    let at-j : line ≡ line_at lines j = here ∙ ap (λ (r : List (List ℕ)). line_at r 0) left ∙ line_from lines j in
    rw (← listed, ← at-j) e
