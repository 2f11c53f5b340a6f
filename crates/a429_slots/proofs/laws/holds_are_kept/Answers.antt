use Rattle.std.proofs.Common.{◌≡◌, ℕ, Bool, true, false, List, length, take, ap, sym, ◌∙◌, refl}
use Rattle.std.specs.Prelude.{Option, Some, None, ◌||◌, if◌then◌else◌}
use Rattle.std.proofs.lemmas.Bool.{leb-false}
use Rattle.std.proofs.lemmas.Option.{none-some}
use Rattle.a429_slots.specs.History.{AnsweredCell, accepted_by, answered_cells, is_held, is_too_close, latest_by, times_sent}
use Rattle.a429_slots.proofs.laws.holds_are_kept.Goals as goal

-- a word that goes out is not held
not_held : (held close : Bool) (latest : Option ℕ) (word : ℕ) → (if held || close then None else latest) ≡ Some word → held ≡ false
not_held true close latest word sent = absurd (none-some word sent)
not_held false close latest word sent = refl

pub returns : goal.returns
returns c C o g p E k output slot word hold S limited =
    let earlier : List AnsweredCell = answered_cells C o g p (take k E) in
    let count : ℕ = length (accepted_by C o output.source (take k E)) in
    let free : is_held earlier output.source output.limits.hold count ≡ false =
    not_held (is_held earlier output.source output.limits.hold count) (is_too_close earlier slot output.source output.limits.spacing) (latest_by C o output.source (take k E)).1 word S.sent in
    leb-false hold (times_sent earlier output.source count) (sym (ap (λ (h : Option ℕ). is_held earlier output.source h count) limited) ∙ free)
