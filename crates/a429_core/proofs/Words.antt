-- How the accepted words of a source grow by an event.
use Rattle.std.proofs.Common.{◌≡◌, ℕ, ◌<◌, ◌≤◌, ◌-◌, ◌^◌, true, false, List, [], ◌∷◌, ◌++◌, length, take, map, ◌∙◌, ap, refl, append-nil}
use Rattle.std.specs.Prelude.{Option, Some, None, filter, filter_map, ◌&&◌}
use Rattle.std.proofs.lemmas.List.{map-append}
use Rattle.std.proofs.lemmas.List.Elements.{filter_map-append, filter-append}
use Rattle.std.proofs.lemmas.Option.{slice_get_past}
use Rattle.a429_word.proofs.Lists.{and_false, take_push_full, take_push_room}
use Rattle.a429_word.specs.Bits.{has_odd_parity}
use Rattle.a429_equipment.specs.declared.rows.SourceRow.{SourceRow}
use Rattle.a429_equipment.specs.TableRecord.{TableRecord}
use Rattle.a429_equipment.specs.Arrivals.{accepts, passes_at, is_for}
use Rattle.a429_slots.specs.Events.{Event, Arrive}
use Rattle.a429_slots.specs.History.{Opening, arrival_of, accepted_in}

-- what a cut filter keeps of one more event
pub kept_none : {A B : Type 0} (f : A → Option B) (n : ℕ) (E : List A) (e : A) → f e ≡ None → take n (filter_map f (E ++ e ∷ [])) ≡ take n (filter_map f E)
kept_none f n E e h = ap (take n) (filter_map-append f E (e ∷ []) ∙ rw h (append-nil (filter_map f E)))

pub kept_some : {A B : Type 0} (f : A → Option B) (n : ℕ) (E : List A) (e : A) (w : B) → f e ≡ Some w → length (take n (filter_map f E)) < n → take n (filter_map f (E ++ e ∷ [])) ≡ take n (filter_map f E) ++ w ∷ []
kept_some f n E e w h l = ap (take n) (filter_map-append f E (e ∷ []) ∙ rw h refl) ∙ take_push_room n (filter_map f E) w l

pub kept_full : {A B : Type 0} (f : A → Option B) (n : ℕ) (E : List A) (e : A) (w : B) → f e ≡ Some w → n ≤ length (take n (filter_map f E)) → take n (filter_map f (E ++ e ∷ [])) ≡ take n (filter_map f E)
kept_full f n E e w h l = ap (take n) (filter_map-append f E (e ∷ []) ∙ rw h refl) ∙ take_push_full n (filter_map f E) w l

-- ---- accepted words

-- the words of a source before they are cut
abbrev pub words_in : Opening → SourceRow → List Event → List ℕ
words_in o s E = map (λ a. a.1) (filter (accepts o.proposal.station s) (filter_map arrival_of E))

pub words_append : (o : Opening) (s : SourceRow) (E F : List Event) → words_in o s (E ++ F) ≡ words_in o s E ++ words_in o s F
words_append o s E F =
    ap (λ (came : List (ℕ × ℕ)). map (λ a. a.1) (filter (accepts o.proposal.station s) came)) (filter_map-append arrival_of E F)
    ∙ (ap (map (λ (a : ℕ × ℕ). a.1)) (filter-append (accepts o.proposal.station s) (filter_map arrival_of E) (filter_map arrival_of F))
    ∙ map-append (λ (a : ℕ × ℕ). a.1) (filter (accepts o.proposal.station s) (filter_map arrival_of E)) (filter (accepts o.proposal.station s) (filter_map arrival_of F)))

pub accepted_none : (C : ℕ) (o : Opening) (s : SourceRow) (E : List Event) (e : Event) → words_in o s (e ∷ []) ≡ [] → accepted_in C o s (E ++ e ∷ []) ≡ accepted_in C o s E
accepted_none C o s E e h = ap (take (2 ^ C - 1)) (words_append o s E (e ∷ []) ∙ rw h (append-nil (words_in o s E)))

pub accepted_some : (C : ℕ) (o : Opening) (s : SourceRow) (E : List Event) (e : Event) (w : ℕ) → words_in o s (e ∷ []) ≡ w ∷ [] → length (accepted_in C o s E) < 2 ^ C - 1 → accepted_in C o s (E ++ e ∷ []) ≡ accepted_in C o s E ++ w ∷ []
accepted_some C o s E e w h l = ap (take (2 ^ C - 1)) (words_append o s E (e ∷ []) ∙ ap (λ zs. words_in o s E ++ zs) h) ∙ take_push_room (2 ^ C - 1) (words_in o s E) w l

pub accepted_full : (C : ℕ) (o : Opening) (s : SourceRow) (E : List Event) (e : Event) (w : ℕ) → words_in o s (e ∷ []) ≡ w ∷ [] → 2 ^ C - 1 ≤ length (accepted_in C o s E) → accepted_in C o s (E ++ e ∷ []) ≡ accepted_in C o s E
accepted_full C o s E e w h l = ap (take (2 ^ C - 1)) (words_append o s E (e ∷ []) ∙ ap (λ zs. words_in o s E ++ zs) h) ∙ take_push_full (2 ^ C - 1) (words_in o s E) w l

-- ---- the word of an arrival

pub word_accepted : (o : Opening) (s : SourceRow) (r raw : ℕ) → has_odd_parity raw ≡ true → passes_at o.proposal.station r raw ≡ true → is_for r raw s ≡ true → words_in o s (Arrive r raw ∷ []) ≡ raw ∷ []
word_accepted o s r raw p f h = rw (p, f, h) refl

pub word_even : (o : Opening) (s : SourceRow) (r raw : ℕ) → has_odd_parity raw ≡ false → words_in o s (Arrive r raw ∷ []) ≡ []
word_even o s r raw p = rw p refl

refused : (o : Opening) (s : SourceRow) (r raw : ℕ) → accepts o.proposal.station s (r, raw) ≡ false → words_in o s (Arrive r raw ∷ []) ≡ []
refused o s r raw h = rw h refl

pub word_filtered : (o : Opening) (s : SourceRow) (r raw : ℕ) → passes_at o.proposal.station r raw ≡ false → words_in o s (Arrive r raw ∷ []) ≡ []
word_filtered o s r raw f = refused o s r raw (and_false (has_odd_parity raw) (passes_at o.proposal.station r raw && is_for r raw s) (rw f refl))

pub word_unheard : (o : Opening) (s : SourceRow) (r raw : ℕ) → is_for r raw s ≡ false → words_in o s (Arrive r raw ∷ []) ≡ []
word_unheard o s r raw h = refused o s r raw (and_false (has_odd_parity raw) (passes_at o.proposal.station r raw && is_for r raw s) (and_false (passes_at o.proposal.station r raw) (is_for r raw s) h))

-- a receiver that is not there passes nothing
pub nobody_hears : (t : TableRecord) (r raw : ℕ) → length t.receivers ≤ r → passes_at t r raw ≡ false
nobody_hears t r raw h = rw (slice_get_past t.receivers r h) refl
