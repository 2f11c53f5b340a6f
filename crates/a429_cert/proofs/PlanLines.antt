-- The lines that a plan's outputs are written with.
use Rattle.std.proofs.Common.{◌≡◌, ℕ, ◌+◌, ◌<◌, List, [], ◌∷◌, ◌++◌, length, get_or, map, take, drop, Option, Some, refl, sym, ap, ◌∙◌, append_assoc}
use Rattle.std.specs.Prelude.{slice_get, option_map}
use Rattle.std.specs.List.{flat_map}
use Rattle.std.specs.Option.{option_map_or}
use Rattle.std.proofs.lemmas.List.{map-append, flat_map_more}
use Rattle.std.proofs.lemmas.List.Concat.{flat_map-cons}
use Rattle.std.proofs.lemmas.Option.{same_Some, slice_get_within, slice_get-get_or}
use Rattle.a429_word.proofs.Lists.{drop_at, take_next}
use Rattle.a429_equipment.specs.declared.rows.GroupRow.{GroupRow}
use Rattle.a429_equipment.specs.declared.rows.SourceRow.{SourceRow}
use Rattle.a429_slots.specs.declared.group_plan.SlotPlace.{SlotPlace}
use Rattle.a429_slots.specs.declared.group_plan.SendLimits.{SendLimits}
use Rattle.a429_slots.specs.Tables.{Placed, SlotTable, placed_at, outputs_of, place_of, source_of, limits_of}
use Rattle.a429_cert.specs.Spelling.{Listing, output_text}
use Rattle.a429_cert.specs.Checked.{Stated, stated_text}
use Rattle.a429_cert.specs.PlanText.{source_name, placed_listing, listing_of, stated_of, stated_groups}
use Rattle.a429_slots.proofs.Cells.{output_is}

-- ---- an output

pub listing_is : (version : ℕ) (sources : List SourceRow) (t : SlotTable) (o n : ℕ) (place : SlotPlace) (hold : Option ℕ) (row : SourceRow) → o < length (outputs_of t) → place_of t o ≡ Some place
    → source_of t o ≡ Some n → option_map (λ l. l.hold) (limits_of t o) ≡ Some hold → slice_get sources n ≡ Some row
    → placed_listing version row.name place hold ≡ listing_of version sources t o
listing_is version sources t o n place hold row below at from limited there =
    let is = output_is t o below in
    let placed : (placed_at t o).place ≡ place = same_Some _ _ (sym (ap (option_map (λ (p : Placed). p.place)) is) ∙ at) in
    let source : (placed_at t o).source ≡ n = same_Some _ _ (sym (ap (option_map (λ (p : Placed). p.source)) is) ∙ from) in
    let named : source_name sources (placed_at t o).source ≡ row.name = ap (source_name sources) source ∙ ap (λ (r : Option SourceRow). option_map_or (λ (s : SourceRow). s.name) r []) there in
    let held : (placed_at t o).limits.hold ≡ hold = same_Some _ _ (sym (ap (λ (p : Option Placed). option_map (λ (l : SendLimits). l.hold) (option_map (λ (p : Placed). p.limits) p)) is) ∙ limited) in
    ap (λ (p : SlotPlace). placed_listing version row.name p hold) (sym placed)
    ∙ ap (λ (w : List ℕ). placed_listing version w (placed_at t o).place hold) (sym named)
    ∙ ap (λ (h : Option ℕ). placed_listing version (source_name sources (placed_at t o).source) (placed_at t o).place h) (sym held)

-- ---- one more of a list

at_place : {X : Type 0} (xs : List X) (i : ℕ) (x : X) → slice_get xs i ≡ Some x → (i < length xs) × (get_or xs i x ≡ x)
at_place xs i x e =
    let below = slice_get_within xs i x e in
    (below, same_Some _ _ (sym (slice_get-get_or xs i x below) ∙ e))

-- ---- the outputs of a group

pub outputs_more : (text new old : List ℕ) (f : ℕ → Listing) (order : List ℕ) (k o : ℕ) → slice_get order k ≡ Some o → text ≡ old ++ flat_map output_text (map f (take k order)) → new ≡ text ++ output_text (f o)
    → new ≡ old ++ flat_map output_text (map f (take (k + 1) order))
outputs_more text new old f order k o there so now =
    let more : map f (take (k + 1) order) ≡ map f (take k order) ++ f o ∷ [] = ap (map f) (take_next order k o there) ∙ map-append f (take k order) (o ∷ []) in
    now ∙ ap (λ (x : List ℕ). x ++ output_text (f o)) so ∙ flat_map_more output_text old (map f (take k order)) (f o) ∙ ap (λ (ls : List Listing). old ++ flat_map output_text ls) (sym more)

-- ---- the groups

-- one more group is written
pub groups_more : (version : ℕ) (sources : List SourceRow) (groups : List GroupRow) (ts : List SlotTable) (i : ℕ) (row : GroupRow) (t : SlotTable) (text new whole : List ℕ) → slice_get groups i ≡ Some row → slice_get ts i ≡ Some t
    → text ++ flat_map stated_text (stated_groups version sources (drop i groups) (drop i ts)) ≡ whole → new ≡ text ++ stated_text (stated_of version sources row t)
    → new ++ flat_map stated_text (stated_groups version sources (drop (i + 1) groups) (drop (i + 1) ts)) ≡ whole
groups_more version sources groups ts i row t text new whole here there so now =
    let left : stated_groups version sources (drop i groups) (drop i ts) ≡ stated_of version sources row t ∷ stated_groups version sources (drop (i + 1) groups) (drop (i + 1) ts) = rw (drop_at groups i row here, drop_at ts i t there) refl in
    ap (λ (x : List ℕ). x ++ flat_map stated_text (stated_groups version sources (drop (i + 1) groups) (drop (i + 1) ts))) now
    ∙ append_assoc text (stated_text (stated_of version sources row t)) (flat_map stated_text (stated_groups version sources (drop (i + 1) groups) (drop (i + 1) ts)))
    ∙ ap (λ (x : List ℕ). text ++ x) (sym (flat_map-cons stated_text (stated_of version sources row t) (stated_groups version sources (drop (i + 1) groups) (drop (i + 1) ts))))
    ∙ ap (λ (ss : List Stated). text ++ flat_map stated_text ss) (sym left) ∙ so
