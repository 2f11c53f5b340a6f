-- What the rows of `lint` are made of.
use Rattle.std.proofs.Common.{◌≡◌, ℕ, zero, suc, ◌+◌, ◌-◌, ◌*◌, ◌^◌, ◌<◌, Bool, true, false, List, [], ◌∷◌, ◌++◌, length, map, take, get_or, codes, Option, Some, ap, ap₂, sym, subst, refl, arith, ◌∙◌}
use Rattle.std.specs.Prelude.{◌||◌, if◌then◌else◌, option_map, slice_get}
use Rattle.std.specs.List.{AllZip, flat_map, list_any, range_with_len}
use Rattle.std.specs.Option.{option_map_or}
use Rattle.std.proofs.lemmas.List.{flat_map_more}
use Rattle.std.proofs.lemmas.List.Folds.{list_any-append}
use Rattle.std.proofs.lemmas.Option.{get_or_from_slice_get, none-some, same_Some, slice_get_within, slice_get-map}
use Rattle.std.proofs.lemmas.Slice.Zip.{AllZip-long}
use Rattle.std.specs.declared.alloc.Global.{Global}
use Rattle.std.specs.declared.vec.Vec.{Vec}
use Rattle.a429_word.proofs.Lists.{range_next, read_is, take_next}
use Rattle.a429_text.specs.Fields.{Field, Number, Absent}
use Rattle.a429_equipment.specs.TableRecord.{TableRecord, outputs_in}
use Rattle.a429_equipment.specs.declared.rows.GroupRow.{GroupRow}
use Rattle.a429_equipment.specs.declared.rows.OutputRow.{OutputRow}
use Rattle.a429_equipment.specs.declared.rows.SourceRow.{SourceRow}
use Rattle.a429_filter.specs.declared.filters.Filter.{Filter}
use Rattle.a429_pack.specs.Demanded.{demand_of}
use Rattle.a429_pack.specs.Demands.{exponents_of, greatest}
use Rattle.a429_pack.specs.declared.demands.Demand.{Demand}
use Rattle.a429_slots.specs.Asked.{IsAsked}
use Rattle.a429_slots.specs.Planned.{rated_outputs}
use Rattle.a429_slots.proofs.Planning.{rated_at}
use Rattle.a429_documents.specs.declared.lint.GroupFinding.{GroupFinding}
use Rattle.a429_documents.specs.Lint.{AreAsked, asked_in, blind_rows, crowded_row, crowded_rows, filled_from, receiver_row, group_finding, group_rows, sees_source}

-- ---- one more

-- one more of the things that a text says
pub taken_more : {X Y : Type 0} (f : X → List Y) (text new old : List Y) (xs : List X) (k : ℕ) (x : X) → slice_get xs k ≡ Some x → text ≡ old ++ flat_map f (take k xs) → new ≡ text ++ f x
    → new ≡ old ++ flat_map f (take (k + 1) xs)
taken_more {X} {Y} f text new old xs k x there so now =
    now ∙ ap (λ (t : List Y). t ++ f x) so ∙ flat_map_more f old (take k xs) x ∙ ap (λ l. old ++ flat_map f l) (sym (take_next xs k x there))

-- one more number that is tested
pub any_more : (p : ℕ → Bool) (k : ℕ) → list_any p (range_with_len 0 (k + 1)) ≡ (list_any p (range_with_len 0 k) || p k)
any_more p k =
    let more : suc k ≡ k + 1 = omega arith in
    let same : 0 + k ≡ k = omega arith in
    ap (λ (n : ℕ). list_any p (range_with_len 0 n)) (sym more) ∙ ap (list_any p) (range_next 0 k) ∙ list_any-append p (range_with_len 0 k) ((0 + k) ∷ [])
    ∙ ap (λ (n : ℕ). list_any p (range_with_len 0 k) || list_any p (n ∷ [])) same ∙ ap (λ (b : Bool). list_any p (range_with_len 0 k) || b) (one_more (p k))
  where
    one_more : (b : Bool) → (b || false) ≡ b
    one_more true = refl
    one_more false = refl

-- ---- the demands of a group

pub paired : {A B : Type 0} (R : A → B → Type 0) (xs : List A) (ys : List B) (i : ℕ) (x : A) → AllZip R xs ys → slice_get xs i ≡ Some x → (y : B) × (slice_get ys i ≡ Some y) × R x y
paired R [] ys i x all there = absurd (none-some x there)
paired R (a ∷ xs) [] i x all there = absurd all
paired {A} {B} R (a ∷ xs) (b ∷ ys) zero x all there = (b, refl, subst (λ (z : A). R z b) (same_Some a x there) all.0)
paired R (a ∷ xs) (b ∷ ys) (suc i) x all there = paired R xs ys i x all.1 there

-- a group of an equipment by its number, and the demands of its outputs
pub record GroupAt (e : TableRecord) (asked : List (List Demand)) (g : ℕ) (row : GroupRow) (rows : List OutputRow) : Type 0 where
  pub all : AreAsked e asked
  pub here : slice_get e.groups g ≡ Some row
  pub listed : slice_get e.outputs g ≡ Some rows

module _ (e : TableRecord) (asked : List (List Demand)) (g : ℕ) (row : GroupRow) (rows : List OutputRow) (at : GroupAt e asked g row rows) where
  pub group_asks : (demands : List Demand) × (slice_get asked g ≡ Some demands) × AllZip (IsAsked row.rate e.sources) rows demands
  group_asks =
      paired (λ (rated : ℕ × List OutputRow) (demands : List Demand). AllZip (IsAsked rated.0 e.sources) rated.1 demands) (rated_outputs e) asked g (row.rate, rows) at.all
      (rated_at e g row.rate rows (ap (option_map (λ (r : GroupRow). r.rate)) at.here) at.listed)

  pub asked_below : g < length asked
  asked_below = slice_get_within asked g group_asks.0 group_asks.1

  pub asked_each : (demands : List Demand) → slice_get asked g ≡ Some demands → length demands ≡ length rows
  asked_each demands there =
      let same : group_asks.0 ≡ demands = same_Some _ _ (sym group_asks.1 ∙ there) in
      AllZip-long (IsAsked row.rate e.sources) rows demands (subst (AllZip (IsAsked row.rate e.sources) rows) same group_asks.2)

  pub group_is : (kind : GroupFinding) (demands : List Demand) → slice_get asked g ≡ Some demands → group_rows e asked kind g ≡ group_finding e.sources kind row rows demands
  group_is kind demands there =
      ap (λ (r : Option GroupRow). option_map_or (λ (h : GroupRow). group_finding e.sources kind h (outputs_in e g) (asked_in asked g)) r []) at.here
      ∙ ap₂ (λ (os : List OutputRow) (ds : List Demand). group_finding e.sources kind row os ds)
      (get_or_from_slice_get e.outputs g rows [] at.listed) (get_or_from_slice_get asked g demands [] there)

-- what is read of the lists that are kept
pub kept_at : (asked : List (Vec Demand Global)) (g : ℕ) (v : Vec Demand Global) → g < length asked → v ≡ get_or asked g v → slice_get (map (λ v. v.items) asked) g ≡ Some v.items
kept_at asked g v below is = slice_get-map (λ v. v.items) asked g ∙ ap (option_map (λ (v : Vec Demand Global). v.items)) (read_is asked g v below is)

-- ---- a filter that passes no source

pub blind_is : (sources : List SourceRow) (r : ℕ) (name : List ℕ) (filters : List Filter) (n : ℕ) (f : Filter) → slice_get filters n ≡ Some f → sees_source sources r f ≡ false
    → receiver_row (codes "blind") name Absent (Number (n + 1)) ∷ [] ≡ blind_rows sources r name filters n
blind_is sources r name filters n f there unseen =
    let rows : List (List Field) = receiver_row (codes "blind") name Absent (Number (n + 1)) ∷ [] in
    sym (ap (λ (o : Option Filter). option_map_or (λ f. if sees_source sources r f then [] else rows) o []) there ∙ ap (λ (b : Bool). if b then [] else rows) unseen)

pub seen_is : (sources : List SourceRow) (r : ℕ) (name : List ℕ) (filters : List Filter) (n : ℕ) (f : Filter) → slice_get filters n ≡ Some f → sees_source sources r f ≡ true
    → blind_rows sources r name filters n ≡ []
seen_is sources r name filters n f there seen =
    let rows : List (List Field) = receiver_row (codes "blind") name Absent (Number (n + 1)) ∷ [] in
    ap (λ (o : Option Filter). option_map_or (λ f. if sees_source sources r f then [] else rows) o []) there ∙ ap (λ (b : Bool). if b then [] else rows) seen

-- ---- a bus that is crowded

pub crowded_is : (group : List ℕ) (demands : List Demand) (bus frame cells left b whole : ℕ) → frame ≡ 2 ^ greatest (exponents_of demands) → whole ≡ demand_of (exponents_of demands) → b ≡ bus
    → left ≡ whole - b * frame → cells ≡ filled_from left frame → crowded_row group bus frame cells ≡ crowded_rows group demands bus
crowded_is group demands bus frame cells left b whole framed all same rest filled =
    ap (λ (n : ℕ). crowded_row group bus frame n) filled
    ∙ ap (λ (n : ℕ). crowded_row group bus frame (filled_from n frame)) rest
    ∙ ap (λ (n : ℕ). crowded_row group bus frame (filled_from (whole - n * frame) frame)) same
    ∙ ap (λ (n : ℕ). crowded_row group bus frame (filled_from (n - bus * frame) frame)) all
    ∙ ap (λ (n : ℕ). crowded_row group bus n (filled_from (demand_of (exponents_of demands) - bus * n) n)) framed
