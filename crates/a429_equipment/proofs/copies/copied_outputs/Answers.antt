use Rattle.std.proofs.Common.{◌≡◌, ◌∙◌, ℕ, ◌+◌, ◌<◌, ◌∷◌, [], ◌++◌, Global, List, Vec, ap, append_assoc, append-nil, drop, get_or, length, map, sym}
use Rattle.std.proofs.lemmas.List.{at_drop_all, at_drop_more, map-append}
use Rattle.a429_equipment.specs.declared.rows.OutputRow.{OutputRow}
use Rattle.a429_equipment.proofs.copies.copied_outputs.Goals as goal

one_copied : {V B : Type 0} (items : V → List B) (groups : List V) (i : ℕ) (group copy : V) (copies more : List V) → i < length groups → group ≡ get_or groups i group → items copy ≡ items group
    → map items copies ++ map items (drop i groups) ≡ map items groups → more ≡ copies ++ copy ∷ [] → map items more ++ map items (drop (i + 1) groups) ≡ map items groups
one_copied items groups i group copy copies more below is same before pushed =
    let rest = map items (drop (i + 1) groups) in
    ap (λ vs. map items vs ++ rest) pushed
    ∙ ap (λ vs. vs ++ rest) (map-append items copies (copy ∷ []))
    ∙ append_assoc (map items copies) (items copy ∷ []) rest
    ∙ ap (λ os. map items copies ++ os ∷ rest) (same ∙ ap items is)
    ∙ sym (at_drop_more (λ vs. map items copies ++ map items vs) groups i group below)
    ∙ before

pub loop-outputs-init : goal.loop-outputs-init
loop-outputs-init c = ap (λ (copies : List (Vec OutputRow Global)). map (λ v. v.items) copies ++ map (λ v. v.items) c.args.groups.now) c.in_ok-copies.ensures.items

pub loop-outputs-preserved : goal.loop-outputs-preserved
loop-outputs-preserved c =
    one_copied (λ (v : Vec OutputRow Global). v.items) c.args.groups.now c.loop-outputs.outputs-index c.outputs-item.result c.in_ok-from_slice.field-0 c.loop-outputs.copies.items _ c.loop-outputs-test.true c.outputs-item.is
    (c.in_ok-from_slice.ensures.items ∙ c.as_slice.ensures.value) c.loop-outputs.invariant c.in_ok-push.ensures.items

pub returns : goal.returns
returns c =
    sym (append-nil (map (λ (v : Vec OutputRow Global). v.items) c.loop-outputs.copies.items))
    ∙ sym (at_drop_all (λ (vs : List (Vec OutputRow Global)). map (λ v. v.items) c.loop-outputs.copies.items ++ map (λ v. v.items) vs) c.args.groups.now c.loop-outputs.outputs-index c.loop-outputs-test.false)
    ∙ c.loop-outputs.invariant
