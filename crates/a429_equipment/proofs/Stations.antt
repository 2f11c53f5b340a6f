-- Equipments of one station have equal receivers, sources and groups.
use Rattle.std.proofs.Common.{◌≡◌, ◌==◌, ◌↔◌, ℕ, Bool, true, List, [], ◌∷◌, length, Some, None, refl, ap, subst, arith, eq-eqb}
use Rattle.std.specs.Prelude.{◌&&◌}
use Rattle.std.specs.List.{list_all, zip}
use Rattle.std.specs.Str.{bytes_eq}
use Rattle.std.proofs.lemmas.Bool.{eqb-true, and_parts, and_from}
use Rattle.std.proofs.lemmas.Slice.Eq.{bytes_eq-Decides}
use Rattle.a429_filter.specs.declared.filters.Filter.{Filter}
use Rattle.a429_equipment.specs.declared.rows.ReceiverRow.{ReceiverRow}
use Rattle.a429_equipment.specs.declared.rows.SourceRow.{SourceRow}
use Rattle.a429_equipment.specs.declared.rows.GroupRow.{GroupRow}
use Rattle.a429_equipment.specs.TableRecord.{TableRecord}
use Rattle.a429_equipment.specs.SameStation.{all_agree, same_filter, same_filters, same_receiver, same_sdi, same_source, same_group, same_station, HaveOneStation}

-- what agrees is equal
abbrev Tells : {X : Type 0} → (X → X → Bool) → Type 0
Tells {X} agree = (x y : X) → agree x y ≡ true → x ≡ y

-- what is equal agrees
abbrev Takes : {X : Type 0} → (X → X → Bool) → Type 0
Takes {X} agree = (x : X) → agree x x ≡ true

all_tell : {X : Type 0} (agree : X → X → Bool) → Tells agree → (xs ys : List X) → all_agree agree xs ys ≡ true → xs ≡ ys
all_tell agree tells [] [] h = refl
all_tell agree tells [] (y ∷ ys) h = absurd (omega (arith, eqb-true 0 (length (y ∷ ys)) (and_parts _ _ h).0))
all_tell agree tells (x ∷ xs) [] h = absurd (omega (arith, eqb-true (length (x ∷ xs)) 0 (and_parts _ _ h).0))
all_tell agree tells (x ∷ xs) (y ∷ ys) h =
    let both = and_parts (length (x ∷ xs) == length (y ∷ ys)) (list_all (λ p. agree p.0 p.1) (zip (x ∷ xs) (y ∷ ys))) h in
    let each = and_parts (agree x y) (list_all (λ p. agree p.0 p.1) (zip xs ys)) both.1 in
    let long : length xs ≡ length ys = omega (arith, eqb-true (length (x ∷ xs)) (length (y ∷ ys)) both.0) in
    let head : x ≡ y = tells x y each.0 in
    let tail : xs ≡ ys = all_tell agree tells xs ys (and_from (length xs == length ys) (list_all (λ p. agree p.0 p.1) (zip xs ys)) (eq-eqb (length xs) (length ys) long) each.1) in
    λ i. head i ∷ tail i

each_takes : {X : Type 0} (agree : X → X → Bool) → Takes agree → (xs : List X) → list_all (λ p. agree p.0 p.1) (zip xs xs) ≡ true
each_takes agree takes [] = refl
each_takes agree takes (x ∷ xs) = and_from (agree x x) (list_all (λ p. agree p.0 p.1) (zip xs xs)) (takes x) (each_takes agree takes xs)

all_take : {X : Type 0} (agree : X → X → Bool) → Takes agree → (xs : List X) → all_agree agree xs xs ≡ true
all_take agree takes xs = and_from (length xs == length xs) (list_all (λ p. agree p.0 p.1) (zip xs xs)) (eq-eqb (length xs) (length xs) refl) (each_takes agree takes xs)

filter_tells : Tells same_filter
filter_tells a b h =
    let p = and_parts (a.label == b.label) (a.mask == b.mask) h in
    let label : a.label ≡ b.label = eqb-true a.label b.label p.0 in
    let mask : a.mask ≡ b.mask = eqb-true a.mask b.mask p.1 in
    λ i. record { label = label i; mask = mask i }

filter_takes : Takes same_filter
filter_takes a = and_from (a.label == a.label) (a.mask == a.mask) (eq-eqb a.label a.label refl) (eq-eqb a.mask a.mask refl)

filters_tell : Tells same_filters
filters_tell None None h = refl
filters_tell (Some a) (Some b) h = ap (λ (xs : List Filter). Some xs) (all_tell same_filter filter_tells a b h)
filters_tell None (Some b) h = cc
filters_tell (Some a) None h = cc

filters_take : Takes same_filters
filters_take None = refl
filters_take (Some a) = all_take same_filter filter_takes a

sdi_tells : Tells same_sdi
sdi_tells None None h = refl
sdi_tells (Some a) (Some b) h = ap (λ (n : ℕ). Some n) (eqb-true a b h)
sdi_tells None (Some b) h = cc
sdi_tells (Some a) None h = cc

sdi_takes : Takes same_sdi
sdi_takes None = refl
sdi_takes (Some a) = eq-eqb a a refl

receiver_tells : Tells same_receiver
receiver_tells a b h =
    let p = and_parts (bytes_eq a.name b.name) (same_filters a.filters b.filters) h in
    let name : a.name ≡ b.name = (bytes_eq-Decides a.name b.name).0 p.0 in
    let filters : a.filters ≡ b.filters = filters_tell a.filters b.filters p.1 in
    λ i. record { name = name i; filters = filters i }

receiver_takes : Takes same_receiver
receiver_takes a = and_from (bytes_eq a.name a.name) (same_filters a.filters a.filters) ((bytes_eq-Decides a.name a.name).1 refl) (filters_take a.filters)

source_tells : Tells same_source
source_tells a b h =
    let p = and_parts (bytes_eq a.name b.name) (a.receiver == b.receiver && (a.label == b.label && same_sdi a.sdi b.sdi)) h in
    let q = and_parts (a.receiver == b.receiver) (a.label == b.label && same_sdi a.sdi b.sdi) p.1 in
    let r = and_parts (a.label == b.label) (same_sdi a.sdi b.sdi) q.1 in
    let name : a.name ≡ b.name = (bytes_eq-Decides a.name b.name).0 p.0 in
    let receiver : a.receiver ≡ b.receiver = eqb-true a.receiver b.receiver q.0 in
    let label : a.label ≡ b.label = eqb-true a.label b.label r.0 in
    let sdi : a.sdi ≡ b.sdi = sdi_tells a.sdi b.sdi r.1 in
    λ i. record { name = name i; receiver = receiver i; label = label i; sdi = sdi i }

source_takes : Takes same_source
source_takes a =
    and_from (bytes_eq a.name a.name) (a.receiver == a.receiver && (a.label == a.label && same_sdi a.sdi a.sdi)) ((bytes_eq-Decides a.name a.name).1 refl)
    (and_from (a.receiver == a.receiver) (a.label == a.label && same_sdi a.sdi a.sdi) (eq-eqb a.receiver a.receiver refl)
    (and_from (a.label == a.label) (same_sdi a.sdi a.sdi) (eq-eqb a.label a.label refl) (sdi_takes a.sdi)))

group_tells : Tells same_group
group_tells a b h =
    let p = and_parts (bytes_eq a.name b.name) (a.rate == b.rate) h in
    let name : a.name ≡ b.name = (bytes_eq-Decides a.name b.name).0 p.0 in
    let rate : a.rate ≡ b.rate = eqb-true a.rate b.rate p.1 in
    λ i. record { name = name i; rate = rate i }

group_takes : Takes same_group
group_takes a = and_from (bytes_eq a.name a.name) (a.rate == a.rate) ((bytes_eq-Decides a.name a.name).1 refl) (eq-eqb a.rate a.rate refl)

module _ (a b : TableRecord) where
  station_tells : same_station a b ≡ true → HaveOneStation a b
  unfolding same_station
  station_tells h =
      let p = and_parts (all_agree same_receiver a.receivers b.receivers) (all_agree same_source a.sources b.sources && all_agree same_group a.groups b.groups) h in
      let q = and_parts (all_agree same_source a.sources b.sources) (all_agree same_group a.groups b.groups) p.1 in
      (all_tell same_receiver receiver_tells a.receivers b.receivers p.0, all_tell same_source source_tells a.sources b.sources q.0, all_tell same_group group_tells a.groups b.groups q.1)

  station_takes : HaveOneStation a b → same_station a b ≡ true
  unfolding same_station
  station_takes h =
      and_from (all_agree same_receiver a.receivers b.receivers) (all_agree same_source a.sources b.sources && all_agree same_group a.groups b.groups)
      (subst (λ (xs : List ReceiverRow). all_agree same_receiver a.receivers xs ≡ true) h.0 (all_take same_receiver receiver_takes a.receivers))
      (and_from (all_agree same_source a.sources b.sources) (all_agree same_group a.groups b.groups)
      (subst (λ (xs : List SourceRow). all_agree same_source a.sources xs ≡ true) h.1 (all_take same_source source_takes a.sources))
      (subst (λ (xs : List GroupRow). all_agree same_group a.groups xs ≡ true) h.2 (all_take same_group group_takes a.groups)))

  pub same_station_is : (same_station a b ≡ true) ↔ HaveOneStation a b
  same_station_is = (station_tells, station_takes)
