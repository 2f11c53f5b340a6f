-- A group's next cell: what it answers, by whether there is such a group and what its frame has next.
use Rattle.std.proofs.Common.{◌≡◌, ◌∙◌, ◌<◌, ◌≤◌, ℕ, Bool, List, length, ap, ap₂, subst, sym}
use Rattle.std.specs.Prelude.{Option, None, if◌then◌else◌}
use Rattle.std.proofs.lemmas.Bool.{le-ltb, lt-ltb}
use Rattle.a429_slots.specs.FrameStates.{FrameState}
use Rattle.a429_slots.specs.declared.senders.Due.{Due}
use Rattle.a429_slots.specs.declared.answers.Answer.TheVariants.{Refused}
use Rattle.a429_slots.specs.declared.answers.Refusal.TheVariants.{NoSuch}
use Rattle.a429_core.specs.MachineStates.{MachineState}
use Rattle.a429_core.specs.MachineSteps.{after_asked, asked_cell, cell_asked, cell_sent, sent_in, sent_of}

pub no_group : (v w : MachineState) (g n : ℕ) → w ≡ v → n ≡ length w.groups → n ≤ g → cell_asked v g ≡ (Refused NoSuch, v)
no_group v w g n here many past =
    let low : length v.groups ≤ g = subst (λ (m : ℕ). m ≤ g) (many ∙ ap (λ (s : MachineState). length s.groups) here) past in
    ap (λ (b : Bool). if b then sent_in (record v { groups = after_asked v.groups g }) g (asked_cell v.groups g) else (Refused NoSuch, v)) (le-ltb g (length v.groups) low)

pub group_asked : (v w : MachineState) (g n : ℕ) (groups : List FrameState) (cell : Option (ℕ × ℕ × Option Due)) → w ≡ v → n ≡ length w.groups → g < n → groups ≡ after_asked w.groups g → cell ≡ asked_cell w.groups g
    → cell_asked v g ≡ sent_in (record w { groups = groups }) g cell
group_asked v w g n groups cell here many there after is =
    let low : g < length w.groups = subst (λ (m : ℕ). g < m) many there in
    ap (λ (s : MachineState). cell_asked s g) (sym here)
    ∙ ap (λ (b : Bool). if b then sent_in (record w { groups = after_asked w.groups g }) g (asked_cell w.groups g) else (Refused NoSuch, w)) (lt-ltb g (length w.groups) low)
    ∙ sym (ap₂ (λ (gs : List FrameState) (x : Option (ℕ × ℕ × Option Due)). sent_in (record w { groups = gs }) g x) after is)

pub none_sent : (v w : MachineState) (g n : ℕ) → w ≡ v → n ≡ length w.groups → n ≤ g → cell_sent v g ≡ None
none_sent v w g n here many past =
    let low : length v.groups ≤ g = subst (λ (m : ℕ). m ≤ g) (many ∙ ap (λ (s : MachineState). length s.groups) here) past in
    ap (λ (b : Bool). if b then sent_of (record v { groups = after_asked v.groups g }) g (asked_cell v.groups g) else None) (le-ltb g (length v.groups) low)

pub group_sent : (v w : MachineState) (g n : ℕ) (groups : List FrameState) (cell : Option (ℕ × ℕ × Option Due)) → w ≡ v → n ≡ length w.groups → g < n → groups ≡ after_asked w.groups g → cell ≡ asked_cell w.groups g
    → cell_sent v g ≡ sent_of (record w { groups = groups }) g cell
group_sent v w g n groups cell here many there after is =
    let low : g < length w.groups = subst (λ (m : ℕ). g < m) many there in
    ap (λ (s : MachineState). cell_sent s g) (sym here)
    ∙ ap (λ (b : Bool). if b then sent_of (record w { groups = after_asked w.groups g }) g (asked_cell w.groups g) else None) (lt-ltb g (length w.groups) low)
    ∙ sym (ap₂ (λ (gs : List FrameState) (x : Option (ℕ × ℕ × Option Due)). sent_of (record w { groups = gs }) g x) after is)
