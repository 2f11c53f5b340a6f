-- What a plan text states is read back from it.
use Rattle.std.proofs.Common.{◌≡◌, ℕ, suc, ◌*◌, ◌<◌, ◌≤◌, Bool, true, false, List, [], ◌∷◌, ◌++◌, length, map, drop, get_or, Option, Some, None, ap, sym, subst, refl, arith, ◌∙◌}
use Rattle.std.specs.Prelude.{IfSome, is_some, slice_index, sum}
use Rattle.std.specs.List.{AllByRecursion, flat_map}
use Rattle.std.proofs.lemmas.List.Concat.{flat_map-cons}
use Rattle.std.proofs.Common.{mul-le-mul}
use Rattle.std.proofs.lemmas.Option.{get_or_from_slice_get, same_Some, slice_get_within}
use Rattle.a429_word.proofs.Lists.{all_at, all_mapped}
use Rattle.a429_equipment.specs.Sound.{IsGroupRow, IsHold, IsSourceRow}
use Rattle.a429_equipment.specs.TableRecord.{TableRecord}
use Rattle.a429_equipment.specs.declared.rows.GroupRow.{GroupRow}
use Rattle.a429_equipment.specs.declared.rows.OutputRow.{OutputRow}
use Rattle.a429_slots.specs.Tables.{SlotTable, buses_of, demands_of, frame_of, order_of, outputs_of, placed_at}
use Rattle.a429_cert.specs.Checked.{Stated, stated_text}
use Rattle.a429_cert.specs.Lines.{lines_of}
use Rattle.a429_cert.specs.PlanText.{listing_of, source_name, stated_of}
use Rattle.a429_cert.specs.Reading.{bound_line, group_line, output_line}
use Rattle.a429_cert.specs.Spelling.{Bounding, FitsListing, IsPart, IsShort, IsShortLimit, IsWord, Listing, bound_text, group_text, output_text, said_in, says_more, when}
use Rattle.a429_cert.proofs.Again.{FitsStated}
use Rattle.a429_cert.proofs.LineLaws.{bound_again, group_again, output_again}
use Rattle.a429_cert.proofs.LinesOfText.{group_lines}
use Rattle.a429_cert.proofs.OwnGroups.{FewestCarry, name_is_word, rate_short}
use Rattle.a429_documents.proofs.Losses.{all_from}
use Rattle.a429_documents.proofs.MarginGroups.{within_room}
use Rattle.a429_documents.proofs.SameTables.{IsPlanned, each_once, period_fits, row_of, source_of_row}

-- ---- what is stated can be read

said_there : {A : Type 0} (b : Bool) (x : A) → is_some (when b x) ≡ b
said_there true x = refl
said_there false x = refl

said_holds : {A : Type 0} (b : Bool) (P : A → Type 0) (x : A) → P x → IfSome (when b x) P
said_holds true P x h = h
said_holds false P x h = tt

part_of : {A : Type 0} (version : ℕ) (P : A → Type 0) (x : A) → P x → IsPart version P (said_in version x)
part_of version P x h = record { there = said_there (says_more version) x; holds = said_holds (says_more version) P x h }

short_hold : (hold : Option ℕ) → IfSome hold (λ n. (1 ≤ n) × (n ≤ 1000000)) → IsShortLimit hold
short_hold None h = tt
short_hold (Some n) h = omega (arith, h.1)

-- a planned slot table of a group with its row
pub record IsStated (e : TableRecord) (row : GroupRow) (rows : List OutputRow) (t : SlotTable) : Type 0 where
  pub table : IsPlanned e row.rate rows t
  pub group : IsGroupRow row
  pub some : 1 ≤ length rows
  pub holds : AllByRecursion IsHold rows
  pub law : FewestCarry

module _ (e : TableRecord) (row : GroupRow) (rows : List OutputRow) (t : SlotTable) (S : IsStated e row rows t) where
  few_cells : sum (demands_of t) ≤ 16 * 8192
  few_cells =
      let room = within_room row.rate e.sources rows t S.table.planned S.law S.some in
      let cells : buses_of t * frame_of t ≤ 16 * 8192 = mul-le-mul {n₁ = buses_of t} {m₁ = frame_of t} {n₂ = 16} {m₂ = 8192} S.table.planned.few_buses S.table.planned.few_slots in
      omega (arith, room, cells)

  listing_fits : (version o : ℕ) → o < length (outputs_of t) → FitsListing version (listing_of version e.sources t o)
  listing_fits version o below =
      let from = row_of e row.rate rows t S.table o below in
      let source = source_of_row e row.rate rows t S.table from.0 o from.1 in
      let named : source_name e.sources (placed_at t o).source ≡ source.0.name = ap (source_name e.sources) from.2 ∙ source.2 in
      let word : IsWord source.0.name = name_is_word source.0.name (all_at IsSourceRow e.sources from.0.source source.0 S.table.sound.source_rows source.1).0 in
      let limit : IsShortLimit (placed_at t o).limits.hold = subst IsShortLimit (sym from.3) (short_hold from.0.hold (all_at IsHold rows o from.0 S.holds from.1)) in
      record {
        source = subst IsWord (sym named) word;
        period = omega (arith, period_fits e row.rate rows t S.table o below, S.table.planned.few_slots);
        bus = omega (arith, S.table.planned.on_bus o below, S.table.planned.few_buses);
        offset = omega (arith, (S.table.planned.periodic o below).within, period_fits e row.rate rows t S.table o below, S.table.planned.few_slots);
        hold = part_of version IsShortLimit (placed_at t o).limits.hold limit;
      }

  pub stated_fits : (version : ℕ) → FitsStated version (stated_of version e.sources row t)
  stated_fits version =
      let once = each_once e row.rate rows t S.table in
      let each : AllByRecursion (λ o. FitsListing version (listing_of version e.sources t o)) (order_of t) =
      all_from (λ (o : ℕ). FitsListing version (listing_of version e.sources t o)) (order_of t)
      (λ i o there.
      let same : slice_index (order_of t) i ≡ o = get_or_from_slice_get (order_of t) i o 0 there in
      let below : i < length (outputs_of t) = omega (arith, slice_get_within (order_of t) i o there, once.length) in
      listing_fits version o (subst (λ (k : ℕ). k < length (outputs_of t)) same (once.below i below))) in
      record {
        heading = record { name = name_is_word row.name S.group.0; rate = part_of version IsShort row.rate (rate_short row.rate S.group.1); frame = omega (arith, S.table.planned.few_slots); buses = omega (arith, S.table.planned.few_buses) };
        outputs = all_mapped (listing_of version e.sources t) (FitsListing version) (order_of t) each;
        bound = record { demand = omega (arith, few_cells); full_buses = omega (arith, S.table.planned.few_buses); frame = omega (arith, S.table.planned.few_slots) };
      }

-- ---- and is read back

first_line_is : (x y : List ℕ) (xs ys : List (List ℕ)) → ◌≡◌ {A = List (List ℕ)} (x ∷ xs) (y ∷ ys) → x ≡ y
first_line_is x y xs ys h = ap (λ (zs : List (List ℕ)). get_or zs 0 []) h

later_lines_are : (x y : List ℕ) (xs ys : List (List ℕ)) → ◌≡◌ {A = List (List ℕ)} (x ∷ xs) (y ∷ ys) → xs ≡ ys
later_lines_are x y xs ys h = ap (drop 1) h

other_lines : (b : Bounding) (l : Listing) → bound_text b ≡ output_text l → ⊥
other_lines b l h = let first : 98 ≡ 111 = ap (λ (zs : List ℕ). get_or zs 0 0) h in absurd (omega (arith, first))

outputs_back : (version : ℕ) (ls ms : List Listing) (b c : Bounding) (rest more : List (List ℕ)) → AllByRecursion (FitsListing version) ls → AllByRecursion (FitsListing version) ms
    → map output_text ls ++ bound_text b ∷ rest ≡ map output_text ms ++ bound_text c ∷ more → (ls ≡ ms) × (bound_text b ≡ bound_text c) × (rest ≡ more)
outputs_back version [] [] b c rest more f g h = (refl, first_line_is (bound_text b) (bound_text c) rest more h, later_lines_are (bound_text b) (bound_text c) rest more h)
outputs_back version [] (m ∷ ms) b c rest more f g h = absurd (other_lines b m (first_line_is (bound_text b) (output_text m) rest (map output_text ms ++ bound_text c ∷ more) h))
outputs_back version (l ∷ ls) [] b c rest more f g h = absurd (other_lines c l (sym (first_line_is (output_text l) (bound_text c) (map output_text ls ++ bound_text b ∷ rest) more h)))
outputs_back version (l ∷ ls) (m ∷ ms) b c rest more f g h =
    let first = first_line_is (output_text l) (output_text m) (map output_text ls ++ bound_text b ∷ rest) (map output_text ms ++ bound_text c ∷ more) h in
    let same : l ≡ m = same_Some l m (sym (output_again version l f.0) ∙ ap (output_line version) first ∙ output_again version m g.0) in
    let others = outputs_back version ls ms b c rest more f.1 g.1 (later_lines_are (output_text l) (output_text m) (map output_text ls ++ bound_text b ∷ rest) (map output_text ms ++ bound_text c ∷ more) h) in
    ((λ i. same i ∷ others.0 i), others.1, others.2)

group_first : (version : ℕ) (s : Stated) (ss : List Stated) → FitsStated version s
    → lines_of (flat_map stated_text (s ∷ ss)) ≡ group_text s.heading ∷ (map output_text s.outputs ++ bound_text s.bound ∷ lines_of (flat_map stated_text ss))
group_first version s ss fits = ap lines_of (flat_map-cons stated_text s ss) ∙ group_lines version s (flat_map stated_text ss) fits

pub stated_back : (version : ℕ) (ss us : List Stated) → AllByRecursion (FitsStated version) ss → AllByRecursion (FitsStated version) us
    → lines_of (flat_map stated_text ss) ≡ lines_of (flat_map stated_text us) → ss ≡ us
stated_back version [] [] f g h = refl
stated_back version [] (u ∷ us) f g h =
    let none : 0 ≡ suc _ = ap length (h ∙ group_first version u us g.0) in absurd (omega (arith, none))
stated_back version (s ∷ ss) [] f g h =
    let none : 0 ≡ suc _ = ap length (sym h ∙ group_first version s ss f.0) in absurd (omega (arith, none))
stated_back version (s ∷ ss) (u ∷ us) f g h =
    let both = sym (group_first version s ss f.0) ∙ h ∙ group_first version u us g.0 in
    let first = first_line_is (group_text s.heading) (group_text u.heading) (map output_text s.outputs ++ bound_text s.bound ∷ lines_of (flat_map stated_text ss)) (map output_text u.outputs ++ bound_text u.bound ∷ lines_of (flat_map stated_text us)) both in
    let rest = later_lines_are (group_text s.heading) (group_text u.heading) (map output_text s.outputs ++ bound_text s.bound ∷ lines_of (flat_map stated_text ss)) (map output_text u.outputs ++ bound_text u.bound ∷ lines_of (flat_map stated_text us)) both in
    let heading : s.heading ≡ u.heading = same_Some s.heading u.heading (sym (group_again version s.heading f.0.heading) ∙ ap (group_line version) first ∙ group_again version u.heading g.0.heading) in
    let parts = outputs_back version s.outputs u.outputs s.bound u.bound (lines_of (flat_map stated_text ss)) (lines_of (flat_map stated_text us)) f.0.outputs g.0.outputs rest in
    let bound : s.bound ≡ u.bound = same_Some s.bound u.bound (sym (bound_again s.bound f.0.bound) ∙ ap bound_line parts.1 ∙ bound_again u.bound g.0.bound) in
    let others = stated_back version ss us f.1 g.1 parts.2 in
    λ i. record { heading = heading i; outputs = parts.0 i; bound = bound i } ∷ others i
