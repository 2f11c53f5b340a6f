-- When `lint` has no row `unfit`, `unheard` or `unsent`.
use Rattle.std.proofs.Common.{◌≡◌, ℕ, zero, suc, ◌+◌, ◌^◌, ◌<◌, ◌≤◌, Bool, true, false, List, [], ◌∷◌, ◌++◌, length, get_or, Option, Some, None, ap, ap₂, sym, subst, refl, arith, inl, inr, ◌⊎◌, ◌∙◌, eq-eqb}
use Rattle.std.specs.Prelude.{◌==◌, ◌&&◌, ◌||◌, ◌↔◌, IfSome, MatchOption, codes, if◌then◌else◌, is_some, option_map, position, slice_get, slice_index_or, unwrap_or}
use Rattle.std.specs.List.{AllByRecursion, AllZip, flat_map, list_any, range_with_len}
use Rattle.std.specs.Option.{option_map_or}
use Rattle.std.proofs.lemmas.Bool.{and_from, and_parts, cases_lt, eqb-true}
use Rattle.std.proofs.lemmas.List.Quantifiers.{position-Some}
use Rattle.std.proofs.lemmas.Option.{get_or_from_slice_get, none-some, same_Some, slice_get-get_or, slice_get_within}
use Rattle.a429_word.proofs.Lists.{all_at, clash, get_within, none_passes, or_parts}
use Rattle.a429_word.specs.Bits.{has_odd_parity, label_of, sdi_of}
use Rattle.a429_filter.specs.Filters.{set_passes}
use Rattle.a429_text.specs.Fields.{Text, Absent}
use Rattle.a429_equipment.specs.Arrivals.{accepts, is_for, passes_at}
use Rattle.a429_equipment.specs.Sound.{IsSound, IsSourceRow}
use Rattle.a429_equipment.specs.TableRecord.{TableRecord, outputs_in}
use Rattle.a429_equipment.specs.declared.rows.GroupRow.{GroupRow}
use Rattle.a429_equipment.specs.declared.rows.OutputRow.{OutputRow}
use Rattle.a429_equipment.specs.declared.rows.ReceiverRow.{ReceiverRow}
use Rattle.a429_equipment.specs.declared.rows.SourceRow.{SourceRow}
use Rattle.a429_equipment.proofs.Receiving.{is_accepted}
use Rattle.a429_pack.specs.Demands.{demand_at}
use Rattle.a429_pack.specs.declared.demands.Demand.{Demand}
use Rattle.a429_slots.specs.Asked.{IsAsked}
use Rattle.a429_slots.specs.Planned.{HasPeriod, IsFit, rated_outputs}
use Rattle.a429_slots.proofs.Planning.{length-rated, rated_at}
use Rattle.a429_grid.specs.Grid.{HasNoGridPeriod}
use Rattle.a429_documents.specs.declared.lint.GroupFinding.TheVariants.{Unfit}
use Rattle.a429_documents.specs.declared.lint.SourceFinding.TheVariants.{Unheard, Unsent}
use Rattle.a429_documents.specs.Lint.{AreAsked, group_row, group_rows, has_output_of, is_heard, is_sent, of_each, output_name, source_finding, source_row, source_rows, unfit_rows}
use Rattle.a429_documents.specs.Losses.{CanBeAccepted, HasNoLoss, IsAllServed, IsSent}
use Rattle.a429_documents.proofs.Findings.{GroupAt, group_asks, group_is, paired}
use Rattle.a429_documents.proofs.Words.{WordOf, word_of}

-- ---- lists without an element

pub nil_parts : {X : Type 0} (xs ys : List X) → xs ++ ys ≡ [] → (xs ≡ []) × (ys ≡ [])
nil_parts [] ys h = (refl, h)
nil_parts (x ∷ xs) ys h = absurd cc

pub nil_if : {X : Type 0} (b : Bool) (xs : List X) → b ≡ true → (if b then [] else xs) ≡ []
nil_if b xs holds = rw holds refl

pub if_nil : {X : Type 0} (b : Bool) (x : X) (xs : List X) → (if b then [] else (x ∷ xs)) ≡ [] → b ≡ true
if_nil true x xs h = refl
if_nil false x xs h = absurd cc

range_nils : {X : Type 0} (f : ℕ → List X) (a n i : ℕ) → flat_map f (range_with_len a n) ≡ [] → a ≤ i → i < a + n → f i ≡ []
range_nils f a zero i h from below = absurd (omega (arith, from, below))
range_nils f a (suc n) i h from below =
    let parts = nil_parts (f a) (flat_map f (range_with_len (a + 1) n)) h in
    elim (cases_lt a i) [
      | inl later ↦ range_nils f (a + 1) n i parts.1 (omega (arith, later)) (omega (arith, below))
      | inr first ↦ let same : a ≡ i = omega (arith, first, from) in subst (λ (k : ℕ). f k ≡ []) same parts.0
    ]

nils_range : {X : Type 0} (f : ℕ → List X) (a n : ℕ) → ((i : ℕ) → a ≤ i → i < a + n → f i ≡ []) → flat_map f (range_with_len a n) ≡ []
nils_range {X} f a zero each = refl
nils_range {X} f a (suc n) each =
    ap₂ (λ (xs ys : List X). xs ++ ys) (each a (omega arith) (omega arith))
    (nils_range f (a + 1) n (λ i from below. each i (omega (arith, from)) (omega (arith, below))))

pub each_nil : {X : Type 0} (f : ℕ → List X) (n i : ℕ) → of_each n f ≡ [] → i < n → f i ≡ []
each_nil f n i h below = range_nils f 0 n i h (omega arith) (omega (arith, below))

pub nil_each : {X : Type 0} (f : ℕ → List X) (n : ℕ) → ((i : ℕ) → i < n → f i ≡ []) → of_each n f ≡ []
nil_each f n each = nils_range f 0 n (λ i from below. each i (omega (arith, below)))

-- ---- elements

pub all_from : {X : Type 0} (P : X → Type 0) (xs : List X) → ((i : ℕ) (x : X) → slice_get xs i ≡ Some x → P x) → AllByRecursion P xs
all_from P [] each = tt
all_from P (x ∷ xs) each = (each 0 x refl, all_from P xs (λ i y there. each (suc i) y there))

any_at : {X : Type 0} (p : X → Bool) (xs : List X) → list_any p xs ≡ true → (i : ℕ) × (x : X) × (slice_get xs i ≡ Some x) × (p x ≡ true)
any_at p [] h = absurd (clash h)
any_at p (x ∷ xs) h = elim (or_parts (p x) (list_any p xs) h) [
  | inl here ↦ (0, x, refl, here)
  | inr later ↦ let found = any_at p xs later in (suc found.0, found.1, found.2, found.3)
]

at_any : {X : Type 0} (p : X → Bool) (xs : List X) (i : ℕ) (x : X) → slice_get xs i ≡ Some x → p x ≡ true → list_any p xs ≡ true
at_any p [] i x there passes = absurd (none-some x there)
at_any p (y ∷ ys) zero x there passes = rw (ap p (same_Some y x there) ∙ passes) refl
at_any p (y ∷ ys) (suc i) x there passes = either (p y) (list_any p ys) (at_any p ys i x there passes)
  where
    either : (a b : Bool) → b ≡ true → (a || b) ≡ true
    either true b h = refl
    either false b h = h

range_at : (a n i : ℕ) → i < n → slice_get (range_with_len a n) i ≡ Some (a + i)
range_at a zero i below = absurd (omega (arith, below))
range_at a (suc n) zero below = let same : a ≡ a + 0 = omega arith in ap (λ k. Some k) same
range_at a (suc n) (suc i) below = let same : a + 1 + i ≡ a + suc i = omega arith in range_at (a + 1) n i (omega (arith, below)) ∙ ap (λ k. Some k) same

pub found_or_not : (o : Option ℕ) → (o ≡ None) ⊎ ((i : ℕ) × (o ≡ Some i))
found_or_not None = inl refl
found_or_not (Some i) = inr (i, refl)

-- ---- sources that are heard

takes_sdi : (o : Option ℕ) (d : ℕ) → unwrap_or o 0 ≡ d → option_map_or (λ k. k == d) o true ≡ true
takes_sdi None d h = refl
takes_sdi (Some k) d h = eq-eqb k d h

sdi_small : (o : Option ℕ) → IfSome o (λ k. k < 4) → unwrap_or o 0 < 4
sdi_small None h = omega arith
sdi_small (Some k) h = h

module _ (e : TableRecord) (sound : IsSound e) (n : ℕ) (s : SourceRow) (there : slice_get e.sources n ≡ Some s) where
  pub heard_accepts : is_heard e.receivers s ≡ true → CanBeAccepted e n
  heard_accepts heard =
      let row : IsSourceRow s = all_at IsSourceRow e.sources n s sound.source_rows there in
      let w : WordOf s.label (unwrap_or s.sdi 0) = word_of s.label (unwrap_or s.sdi 0) row.1 (sdi_small s.sdi row.2) in
      let r = s.receiver in
      let passes : passes_at e r w.raw ≡ true = ap (λ (l : ℕ). option_map_or (λ (x : ReceiverRow). set_passes x.filters l) (slice_get e.receivers r) false) w.label_is ∙ heard in
      let mine : is_for r w.raw s ≡ true =
      and_from (s.receiver == r) _ (eq-eqb s.receiver r refl)
      (and_from (s.label == label_of w.raw) (option_map_or (λ k. k == sdi_of w.raw) s.sdi true) (eq-eqb s.label (label_of w.raw) (sym w.label_is)) (takes_sdi s.sdi (sdi_of w.raw) (sym w.sdi_is))) in
      let at : position (is_for r w.raw) e.sources ≡ Some n =
      elim (found_or_not (position (is_for r w.raw) e.sources)) [
        | inl none ↦ absurd (clash (sym (none_passes (is_for r w.raw) e.sources none n s there) ∙ mine))
        | inr (j, found) ↦
            let facts = position-Some (is_for r w.raw) e.sources j s found in
            let same : j ≡ n = sound.apart r w.raw j n (get_or e.sources j s) s (slice_get-get_or e.sources j s facts.0) there facts.1 mine in
            found ∙ ap (λ (k : ℕ). Some k) same
      ] in
      (r, w.raw, w.range, rw (w.odd, passes, at) refl)

  pub accepts_heard : CanBeAccepted e n → is_heard e.receivers s ≡ true
  accepts_heard (r, raw, range, sorts) =
      let taken = is_accepted e r raw n range sorts in
      let same : taken.row ≡ s = same_Some _ _ (sym taken.there ∙ there) in
      let accepted : accepts e s (r, raw) ≡ true = subst (λ (x : SourceRow). accepts e x (r, raw) ≡ true) same taken.accepts in
      let more = (and_parts (has_odd_parity raw) (passes_at e r raw && is_for r raw s) accepted).1 in
      let both = and_parts (passes_at e r raw) (is_for r raw s) more in
      let mine = and_parts (s.receiver == r) (s.label == label_of raw && option_map_or (λ k. k == sdi_of raw) s.sdi true) both.1 in
      let own : s.receiver ≡ r = eqb-true s.receiver r mine.0 in
      let label : s.label ≡ label_of raw = eqb-true s.label (label_of raw) (and_parts (s.label == label_of raw) (option_map_or (λ k. k == sdi_of raw) s.sdi true) mine.1).0 in
      ap₂ (λ (k l : ℕ). option_map_or (λ (x : ReceiverRow). set_passes x.filters l) (slice_get e.receivers k) false) own label ∙ both.0

  pub heard_line : source_rows e Unheard n ≡ source_finding e Unheard n s
  heard_line = ap (λ (x : Option SourceRow). option_map_or (source_finding e Unheard n) x []) there

  pub sent_line : source_rows e Unsent n ≡ source_finding e Unsent n s
  sent_line = ap (λ (x : Option SourceRow). option_map_or (source_finding e Unsent n) x []) there

-- ---- sources that are sent

module _ (e : TableRecord) (sound : IsSound e) (n : ℕ) where
  pub is_sent_sends : is_sent e n ≡ true → IsSent e n
  is_sent_sends sent =
      let group = any_at (λ (group : ℕ). has_output_of (outputs_in e group) n) (range_with_len 0 (length e.groups)) sent in
      let output = any_at (λ (row : OutputRow). row.source == n) (outputs_in e group.1) group.3 in
      (group.1, output.0, output.1, output.2, eqb-true output.1.source n output.3)

  group_below : (group o : ℕ) (row : OutputRow) → slice_get (outputs_in e group) o ≡ Some row → group < length e.groups
  group_below group o row there = elim (cases_lt group (length e.outputs)) [
    | inl below ↦ omega (arith, below, sound.outputs_of_groups)
    | inr past ↦
        let none : outputs_in e group ≡ [] = past_end e.outputs group past in
        absurd (none-some row (ap (λ (rows : List OutputRow). slice_get rows o) (sym none) ∙ there))
  ]
    where
      past_end : (xss : List (List OutputRow)) (i : ℕ) → length xss ≤ i → slice_index_or xss i [] ≡ []
      past_end [] i past = refl
      past_end (xs ∷ xss) zero past = absurd (omega (arith, past))
      past_end (xs ∷ xss) (suc i) past = past_end xss i (omega (arith, past))

  pub sends_is_sent : IsSent e n → is_sent e n ≡ true
  sends_is_sent (group, o, row, there, same) =
      let here : has_output_of (outputs_in e group) n ≡ true = at_any (λ (row : OutputRow). row.source == n) (outputs_in e group) o row there (eq-eqb row.source n same) in
      let number : slice_get (range_with_len 0 (length e.groups)) group ≡ Some group = let same : 0 + group ≡ group = omega arith in range_at 0 (length e.groups) group (group_below group o row there) ∙ ap (λ k. Some k) same in
      at_any (λ (g : ℕ). has_output_of (outputs_in e g) n) (range_with_len 0 (length e.groups)) group group number here

-- ---- outputs with a grid period

period_there : (o : Option ℕ) (P : Type 0) (Q : ℕ → Type 0) → MatchOption o P Q → is_some o ≡ true → (k : ℕ) × Q k
period_there None P Q h some = absurd (clash some)
period_there (Some k) P Q h some = (k, h)

there_period : (o : Option ℕ) (P : Type 0) (Q : ℕ → Type 0) → MatchOption o P Q → (P → ⊥) → is_some o ≡ true
there_period None P Q h never = absurd (never h)
there_period (Some k) P Q h never = refl

module _ (rate : ℕ) (sources : List SourceRow) (group : List ℕ) (rows : List OutputRow) (demands : List Demand) (all : AllZip (IsAsked rate sources) rows demands) where
  fit_at : (o : ℕ) (row : OutputRow) → slice_get rows o ≡ Some row → unfit_rows sources group rows demands o ≡ [] → IsFit rate row
  fit_at o row there line =
      let asks = paired (IsAsked rate sources) rows demands o row all there in
      let some : is_some (demand_at demands o).period ≡ true = if_nil (is_some (demand_at demands o).period) (group_row (codes "unfit") group (Text (output_name sources rows o)) Absent Absent) [] line in
      let same : demand_at demands o ≡ asks.0 = get_or_from_slice_get demands o asks.0 _ asks.1 in
      period_there asks.0.period (HasNoGridPeriod row.min_us row.max_us rate) (HasPeriod rate row) asks.2.period (subst (λ (d : Demand). is_some d.period ≡ true) same some)

  line_at : (o : ℕ) (row : OutputRow) → slice_get rows o ≡ Some row → IsFit rate row → unfit_rows sources group rows demands o ≡ []
  line_at o row there (k, fit) =
      let asks = paired (IsAsked rate sources) rows demands o row all there in
      let same : demand_at demands o ≡ asks.0 = get_or_from_slice_get demands o asks.0 _ asks.1 in
      let some : is_some asks.0.period ≡ true =
      there_period asks.0.period (HasNoGridPeriod row.min_us row.max_us rate) (HasPeriod rate row) asks.2.period (λ none. none (2 ^ k) fit.0 fit.1) in
      nil_if (is_some (demand_at demands o).period) _ (subst (λ (d : Demand). is_some d.period ≡ true) (sym same) some)

  pub lines_fit : of_each (length rows) (unfit_rows sources group rows demands) ≡ [] → AllByRecursion (IsFit rate) rows
  lines_fit none = all_from (IsFit rate) rows (λ o row there. fit_at o row there (each_nil (unfit_rows sources group rows demands) (length rows) o none (slice_get_within rows o row there)))

  pub fit_lines : AllByRecursion (IsFit rate) rows → of_each (length rows) (unfit_rows sources group rows demands) ≡ []
  fit_lines fit = nil_each (unfit_rows sources group rows demands) (length rows) (λ o below. let row = get_within rows o below in line_at o row.0 row.1 (all_at (IsFit rate) rows o row.0 fit row.1))

module _ (e : TableRecord) (sound : IsSound e) (asked : List (List Demand)) (all : AreAsked e asked) where
  pub unfit_fits : of_each (length e.groups) (group_rows e asked Unfit) ≡ [] → AllByRecursion (λ rated. AllByRecursion (IsFit rated.0) rated.1) (rated_outputs e)
  unfit_fits none =
      all_from (λ (rated : ℕ × List OutputRow). AllByRecursion (IsFit rated.0) rated.1) (rated_outputs e)
      (λ g rated there.
      let below : g < length e.outputs = omega (arith, slice_get_within (rated_outputs e) g rated there, length-rated e sound.outputs_of_groups) in
      let row = get_within e.groups g (omega (arith, below, sound.outputs_of_groups)) in
      let rows = get_within e.outputs g below in
      let at : GroupAt e asked g row.0 rows.0 = record { all = all; here = row.1; listed = rows.1 } in
      let asks = group_asks e asked g row.0 rows.0 at in
      let same : (row.0.rate, rows.0) ≡ rated = same_Some _ _ (sym (rated_at e g row.0.rate rows.0 (ap (option_map (λ (r : GroupRow). r.rate)) row.1) rows.1) ∙ there) in
      let line = each_nil (group_rows e asked Unfit) (length e.groups) g none (slice_get_within e.groups g row.0 row.1) in
      subst (λ (rated : ℕ × List OutputRow). AllByRecursion (IsFit rated.0) rated.1) same
      (lines_fit row.0.rate e.sources row.0.name rows.0 asks.0 asks.2 (sym (group_is e asked g row.0 rows.0 at Unfit asks.0 asks.1) ∙ line)))

  pub fits_unfit : AllByRecursion (λ rated. AllByRecursion (IsFit rated.0) rated.1) (rated_outputs e) → of_each (length e.groups) (group_rows e asked Unfit) ≡ []
  fits_unfit fit =
      nil_each (group_rows e asked Unfit) (length e.groups)
      (λ g below.
      let row = get_within e.groups g below in
      let rows = get_within e.outputs g (omega (arith, below, sound.outputs_of_groups)) in
      let at : GroupAt e asked g row.0 rows.0 = record { all = all; here = row.1; listed = rows.1 } in
      let asks = group_asks e asked g row.0 rows.0 at in
      let there = rated_at e g row.0.rate rows.0 (ap (option_map (λ (r : GroupRow). r.rate)) row.1) rows.1 in
      group_is e asked g row.0 rows.0 at Unfit asks.0 asks.1
      ∙ fit_lines row.0.rate e.sources row.0.name rows.0 asks.0 asks.2 (all_at (λ (rated : ℕ × List OutputRow). AllByRecursion (IsFit rated.0) rated.1) (rated_outputs e) g (row.0.rate, rows.0) fit there))

  no_loss_serves : HasNoLoss e asked → IsAllServed e
  no_loss_serves none = record {
    accepted = λ n below.
        let s = get_within e.sources n below in
        heard_accepts e sound n s.0 s.1
        (if_nil (is_heard e.receivers s.0) (source_row (codes "unheard") s.0.name) [] (sym (heard_line e sound n s.0 s.1) ∙ each_nil (source_rows e Unheard) (length e.sources) n none.unheard below));
    sent = λ n below.
        let s = get_within e.sources n below in
        is_sent_sends e sound n (if_nil (is_sent e n) (source_row (codes "unsent") s.0.name) [] (sym (sent_line e sound n s.0 s.1) ∙ each_nil (source_rows e Unsent) (length e.sources) n none.unsent below));
    fit = unfit_fits none.unfit;
  }

  served_has_no_loss : IsAllServed e → HasNoLoss e asked
  served_has_no_loss served = record {
    unfit = fits_unfit served.fit;
    unheard = nil_each (source_rows e Unheard) (length e.sources) (λ n below.
        let s = get_within e.sources n below in
        heard_line e sound n s.0 s.1 ∙ nil_if (is_heard e.receivers s.0) _ (accepts_heard e sound n s.0 s.1 (served.accepted n below)));
    unsent = nil_each (source_rows e Unsent) (length e.sources) (λ n below.
        let s = get_within e.sources n below in
        sent_line e sound n s.0 s.1 ∙ nil_if (is_sent e n) _ (sends_is_sent e sound n (served.sent n below)));
  }

  pub no_loss_is_served : HasNoLoss e asked ↔ IsAllServed e
  no_loss_is_served = (no_loss_serves, served_has_no_loss)
