use Rattle.std.proofs.Common.{◌≡◌, ◌∙◌, ℕ, ◌+◌, ◌<◌, ◌≤◌, ◌∷◌, [], ◌++◌, List, ap, get_or, length, map, refl, take}
use Rattle.std.proofs.lemmas.List.{map-append, take_all, take_more}
use Rattle.a429_text.specs.Fields.{field_text}
use Rattle.a429_text.proofs.fields.texts_of.Goals as goal

one_more : {R T : Type 0} (texts_of : R → T) (names : T) (rows : List R) (i : ℕ) (row : R) (t : T) (texts more : List T) → i < length rows → row ≡ get_or rows i row → t ≡ texts_of row
    → texts ≡ names ∷ map texts_of (take i rows) → more ≡ texts ++ t ∷ [] → more ≡ names ∷ map texts_of (take (i + 1) rows)
one_more texts_of names rows i row t texts more below is same before pushed = pushed ∙ rw (before, take_more rows i row below, map-append, ← is, same) refl

none_left : {R T : Type 0} (texts_of : R → T) (names : T) (rows all : List R) (i : ℕ) (texts : List T) → length rows ≤ i → rows ≡ all → texts ≡ names ∷ map texts_of (take i rows) → texts ≡ names ∷ map texts_of all
none_left texts_of names rows all i texts past same before = before ∙ ap (λ rs. names ∷ map texts_of rs) (take_all i rows past ∙ same)

pub loop-row-init : goal.loop-row-init
loop-row-init c = c.in_ok-push.ensures.items ∙ ap (λ (texts : List (List (List ℕ))). texts ++ c.in_ok-names.field-0 ∷ []) c.new-texts.ensures.items ∙ ap (λ (names : List (List ℕ)). names ∷ []) c.in_ok-names.ensures

pub loop-row-preserved : goal.loop-row-preserved
loop-row-preserved c =
    one_more (map (field_text c.args.absent.now)) (map (λ name. name.now) c.args.columns.now) c.in_ok-row-items.row-items.now c.loop-row.row-index c.row-item.result c.in_ok-texts_of_row.field-0 c.loop-row.texts.items _ c.loop-row-test.true c.row-item.is
    c.in_ok-texts_of_row.ensures c.loop-row.invariant c.in_ok-push-2.ensures.items

pub returns : goal.returns
returns c =
    none_left (map (field_text c.args.absent.now)) (map (λ name. name.now) c.args.columns.now) c.in_ok-row-items.row-items.now c.args.rows.now c.loop-row.row-index c.loop-row.texts.items c.loop-row-test.false c.in_ok-row-items.ensures c.loop-row.invariant
