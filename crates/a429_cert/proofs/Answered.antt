-- The text of a checked plan has no fault.
use Rattle.std.proofs.Common.{◌≡◌, ℕ, ◌+◌, List, [], ◌∷◌, ◌++◌, length, map, drop, None, sym, ap, ◌∙◌, append_assoc, arith}
use Rattle.std.specs.List.{flat_map}
use Rattle.std.proofs.lemmas.List.{length-map, length-append, drop_at}
use Rattle.std.proofs.lemmas.List.Concat.{flat_map-cons}
use Rattle.a429_cert.specs.declared.due.DueGroup.{DueGroup}
use Rattle.a429_cert.specs.Spelling.{group_text, output_text, bound_text}
use Rattle.a429_cert.specs.Lines.{lines_of}
use Rattle.a429_cert.specs.Faults.{group_faults, groups_faults, first_no}
use Rattle.a429_cert.specs.Checked.{Stated, stated_text}
use Rattle.a429_cert.proofs.DuePlans.{IsCheckedAsDue}
use Rattle.a429_cert.proofs.Groups.{pass_front}
use Rattle.a429_cert.proofs.Again.{FitsStated, StatesBound, group_passes_again}
use Rattle.a429_cert.proofs.LinesOfText.{group_lines}

-- each group has its checked plan
pub record Matches (version : ℕ) (g : DueGroup) (s : Stated) : Type 0 where
  pub fits : FitsStated version s
  pub checked : IsCheckedAsDue version g s
  pub bound : StatesBound g s.heading.buses s.bound

abbrev pub EachMatches : ℕ → List DueGroup → List Stated → Type 0
EachMatches version [] [] = Unit {0}
EachMatches version [] (s ∷ ss) = ⊥
EachMatches version (g ∷ gs) [] = ⊥
EachMatches version (g ∷ gs) (s ∷ ss) = Matches version g s × EachMatches version gs ss

left : (g : DueGroup) (s : Stated) (more : List (List ℕ)) → length s.outputs ≡ length g.outputs.items
    → drop (length g.outputs.items + 2) (group_text s.heading ∷ (map output_text s.outputs ++ bound_text s.bound ∷ more)) ≡ more
left g s more count =
    let regrouped : (group_text s.heading ∷ (map output_text s.outputs ++ bound_text s.bound ∷ [])) ++ more ≡ group_text s.heading ∷ (map output_text s.outputs ++ bound_text s.bound ∷ more)
    = ap (λ (x : List (List ℕ)). group_text s.heading ∷ x) (append_assoc (map output_text s.outputs) (bound_text s.bound ∷ []) more) in
    let size : length (group_text s.heading ∷ (map output_text s.outputs ++ bound_text s.bound ∷ [])) ≡ length g.outputs.items + 2
    = omega (arith, length-append (map output_text s.outputs) (bound_text s.bound ∷ []), length-map s.outputs output_text, count) in
    ap (λ (x : List (List ℕ)). drop (length g.outputs.items + 2) x) (sym regrouped) ∙ drop_at (group_text s.heading ∷ (map output_text s.outputs ++ bound_text s.bound ∷ [])) more (length g.outputs.items + 2) size

pub groups_pass : (version : ℕ) (gs : List DueGroup) (ss : List Stated) (number : ℕ) (lines : List (List ℕ)) → EachMatches version gs ss → lines ≡ lines_of (flat_map stated_text ss) → first_no number (groups_faults version gs lines) ≡ None
groups_pass version [] [] number lines h e = ap (λ (x : List (List ℕ)). first_no number (groups_faults version [] x)) e
groups_pass version [] (s ∷ ss) number lines h e = absurd h
groups_pass version (g ∷ gs) [] number lines h e = absurd h
groups_pass version (g ∷ gs) (s ∷ ss) number lines h e =
    let split : lines ≡ group_text s.heading ∷ (map output_text s.outputs ++ bound_text s.bound ∷ lines_of (flat_map stated_text ss)) = e ∙ ap lines_of (flat_map-cons stated_text s ss) ∙ group_lines version s (flat_map stated_text ss) h.0.fits in
    let here : first_no number (group_faults version g lines) ≡ None = ap (λ (x : List (List ℕ)). first_no number (group_faults version g x)) split ∙ group_passes_again version g number s (lines_of (flat_map stated_text ss)) h.0.fits h.0.checked h.0.bound in
    let rest : drop (length g.outputs.items + 2) lines ≡ lines_of (flat_map stated_text ss) = ap (λ (x : List (List ℕ)). drop (length g.outputs.items + 2) x) split ∙ left g s (lines_of (flat_map stated_text ss)) h.0.checked.count in
    pass_front number (group_faults version g lines) (groups_faults version gs (drop (length g.outputs.items + 2) lines)) here ∙ groups_pass version gs ss (number + length (group_faults version g lines)) (drop (length g.outputs.items + 2) lines) h.1 rest
