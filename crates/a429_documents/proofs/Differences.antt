-- Tables of one station: `diff` has no row of what they have.
use Rattle.std.proofs.Common.{◌≡◌, ◌==◌, ℕ, zero, suc, Bool, true, List, [], ◌∷◌, ◌++◌, length, Option, Some, ap, ap₂, sym, refl, inl, inr, eq-eqb, ◌∙◌}
use Rattle.std.specs.Prelude.{◌&&◌, codes, is_some, option_and_then, position, slice_get, slice_index_or}
use Rattle.std.specs.List.{flat_map, list_all, zip}
use Rattle.std.specs.Option.{option_map_or}
use Rattle.std.specs.Str.{bytes_eq}
use Rattle.std.proofs.lemmas.Bool.{and_parts}
use Rattle.std.proofs.lemmas.List.Quantifiers.{position-Some}
use Rattle.std.proofs.lemmas.Option.{none-some, same_Some, slice_get-get_or}
use Rattle.std.proofs.lemmas.Slice.Eq.{bytes_eq-Decides}
use Rattle.a429_word.proofs.Lists.{clash, none_passes}
use Rattle.a429_word.specs.Texts.{octal}
use Rattle.a429_equipment.specs.SameStation.{all_agree, same_filters, same_group, same_receiver, same_sdi, same_source, same_station}
use Rattle.a429_equipment.specs.Sound.{HaveOwn, IsSound}
use Rattle.a429_equipment.specs.TableRecord.{TableRecord, receiver_name}
use Rattle.a429_equipment.specs.declared.rows.GroupRow.{GroupRow}
use Rattle.a429_equipment.specs.declared.rows.ReceiverRow.{ReceiverRow}
use Rattle.a429_equipment.specs.declared.rows.SourceRow.{SourceRow}
use Rattle.a429_equipment.proofs.Stations.{same_station_is}
use Rattle.a429_text.specs.Fields.{Field}
use Rattle.a429_documents.specs.Document.{sdi_text}
use Rattle.a429_documents.specs.Diff.{Subject, change_row, change_rows, filter_change, filter_count, group_rows, item_named, list_rows, lists_rows, lone_rows, no_change, number_named, number_text, of_both, of_group, of_name, receiver_rows, source_change, sources_rows, value_change, with_label, with_receiver}
use Rattle.a429_documents.proofs.Losses.{found_or_not}
use Rattle.a429_documents.proofs.NoRows.{none_both, none_if, none_row, of_none, value_none}

-- ---- lists that agree

agree_at : {X : Type 0} (agree : X → X → Bool) (xs ys : List X) → all_agree agree xs ys ≡ true → (i : ℕ) (x y : X) → slice_get xs i ≡ Some x → slice_get ys i ≡ Some y → agree x y ≡ true
agree_at {X} agree xs ys h = each xs ys (and_parts (length xs == length ys) (list_all (λ p. agree p.0 p.1) (zip xs ys)) h).1
  where
    each : (xs ys : List X) → list_all (λ p. agree p.0 p.1) (zip xs ys) ≡ true → (i : ℕ) (x y : X) → slice_get xs i ≡ Some x → slice_get ys i ≡ Some y → agree x y ≡ true
    each [] ys all i x y here there = absurd (none-some x here)
    each (v ∷ xs) [] all i x y here there = absurd (none-some y there)
    each (v ∷ xs) (w ∷ ys) all zero x y here there =
        ap₂ agree (sym (same_Some v x here)) (sym (same_Some w y there)) ∙ (and_parts (agree v w) (list_all (λ p. agree p.0 p.1) (zip xs ys)) all).0
    each (v ∷ xs) (w ∷ ys) all (suc i) x y here there = each xs ys (and_parts (agree v w) (list_all (λ p. agree p.0 p.1) (zip xs ys)) all).1 i x y here there

-- ---- names

pub named_at : {X : Type 0} (name : X → List ℕ) (xs : List X) → HaveOwn name xs → (i : ℕ) (x : X) → slice_get xs i ≡ Some x → (n : List ℕ) → name x ≡ n → number_named name xs n ≡ Some i
unfolding number_named
named_at {X} name xs own i x there n is =
    let test : X → Bool = λ (y : X). bytes_eq (name y) n in
    elim (found_or_not (position test xs)) [
      | inl none ↦ absurd (clash (sym (none_passes test xs none i x there) ∙ (bytes_eq-Decides (name x) n).1 is))
      | inr (j, found) ↦
          let facts = position-Some test xs j x found in
          let y : X = slice_index_or xs j x in
          let same : j ≡ i = own j i y x (slice_get-get_or xs j x facts.0) there ((bytes_eq-Decides (name y) n).0 facts.1 ∙ sym is) in
          found ∙ ap (λ (k : ℕ). Some k) same
    ]

pub named_is : {X : Type 0} (name : X → List ℕ) (xs : List X) (n : List ℕ) (i : ℕ) → number_named name xs n ≡ Some i → (x : X) × (slice_get xs i ≡ Some x) × (name x ≡ n)
unfolding number_named
named_is name [] n i found = absurd (none-some i found)
named_is {X} name (d ∷ xs) n i found =
    let facts = position-Some (λ (y : X). bytes_eq (name y) n) (d ∷ xs) i d found in
    let x : X = slice_index_or (d ∷ xs) i d in
    (x, slice_get-get_or (d ∷ xs) i d facts.0, (bytes_eq-Decides (name x) n).0 facts.1)

-- ---- a list compared with itself

module _ {X : Type 0} (name : X → List ℕ) (subject : X → Subject) (change : X → X → List ℕ) where
  pub none_itself : (xs : List X) → HaveOwn name xs → ((i : ℕ) (x : X) → slice_get xs i ≡ Some x → change x x ≡ []) → list_rows name subject change xs xs ≡ []
  none_itself xs own each =
      let there : (word : List ℕ) (i : ℕ) (x : X) → slice_get xs i ≡ Some x → lone_rows word name subject xs x ≡ [] =
      λ word i x here. none_if (is_some (number_named name xs (name x))) (change_row (subject x) word ∷ []) (ap is_some (named_at name xs own i x here (name x) refl)) in
      none_both (flat_map (lone_rows (codes "removed") name subject xs) xs) (flat_map (lone_rows (codes "added") name subject xs) xs ++ flat_map (of_both name subject change xs) xs)
      (of_none (lone_rows (codes "removed") name subject xs) xs (there (codes "removed")))
      (none_both (flat_map (lone_rows (codes "added") name subject xs) xs) (flat_map (of_both name subject change xs) xs)
      (of_none (lone_rows (codes "added") name subject xs) xs (there (codes "added")))
      (of_none (of_both name subject change xs) xs
      (λ i x here.
      let item : item_named name xs (name x) ≡ Some x =
      ap (λ (o : Option ℕ). option_and_then (λ (i : ℕ). slice_get xs i) o) (named_at name xs own i x here (name x) refl) ∙ here in
      ap (λ (o : Option X). option_map_or (λ y. change_rows (subject x) (change x y)) o []) item ∙ none_row (subject x) (change x x) (each i x here))))

-- ---- the tables

module _ (a b : TableRecord) (sound : IsSound a) where
  module _ (one : same_station a b ≡ true) where
    agrees : (all_agree same_receiver a.receivers b.receivers ≡ true) × (all_agree same_source a.sources b.sources ≡ true)
    unfolding same_station
    agrees =
        let p = and_parts (all_agree same_receiver a.receivers b.receivers) (all_agree same_source a.sources b.sources && all_agree same_group a.groups b.groups) one in
        (p.0, (and_parts (all_agree same_source a.sources b.sources) (all_agree same_group a.groups b.groups) p.1).0)

    same_receiver_rows : a.receivers ≡ b.receivers
    same_receiver_rows = ((same_station_is a b).0 one).0

    same_source_rows : a.sources ≡ b.sources
    same_source_rows = ((same_station_is a b).0 one).1

    no_receivers : receiver_rows a.receivers b.receivers ≡ []
    no_receivers =
        let itself : receiver_rows a.receivers a.receivers ≡ [] =
        none_itself (λ (r : ReceiverRow). r.name) (λ (r : ReceiverRow). of_name (codes "receiver") r.name) filter_change a.receivers sound.own_receivers
        (λ i r here.
        let agree : same_receiver r r ≡ true = agree_at same_receiver a.receivers b.receivers agrees.0 i r r here (ap (λ (rs : List ReceiverRow). slice_get rs i) (sym same_receiver_rows) ∙ here) in
        value_none (same_filters r.filters r.filters) (value_change (codes "filters") (number_text (filter_count r.filters)) (number_text (filter_count r.filters))) []
        (and_parts (bytes_eq r.name r.name) (same_filters r.filters r.filters) agree).1 refl) in
        ap (receiver_rows a.receivers) (sym same_receiver_rows) ∙ itself

    no_sources : sources_rows a b ≡ []
    no_sources =
        let said : List ReceiverRow → List SourceRow → List (List Field) =
        λ rs ss. list_rows (λ (s : SourceRow). s.name) (λ (s : SourceRow). of_name (codes "source") s.name) (source_change a.receivers rs) a.sources ss in
        let itself : said a.receivers a.sources ≡ [] =
        none_itself (λ (s : SourceRow). s.name) (λ (s : SourceRow). of_name (codes "source") s.name) (source_change a.receivers a.receivers) a.sources sound.own_names
        (λ i s here.
        let agree : same_source s s ≡ true = agree_at same_source a.sources b.sources agrees.1 i s s here (ap (λ (ss : List SourceRow). slice_get ss i) (sym same_source_rows) ∙ here) in
        let p = and_parts (bytes_eq s.name s.name) (s.receiver == s.receiver && (s.label == s.label && same_sdi s.sdi s.sdi)) agree in
        let q = and_parts (s.receiver == s.receiver) (s.label == s.label && same_sdi s.sdi s.sdi) p.1 in
        let name = receiver_name a.receivers s.receiver in
        let text : List ℕ = with_receiver name name [] in
        value_none (same_sdi s.sdi s.sdi) (value_change (codes "sdi") (sdi_text s.sdi) (sdi_text s.sdi)) (with_label s.label s.label text) (and_parts (s.label == s.label) (same_sdi s.sdi s.sdi) q.1).1
        (value_none (s.label == s.label) (value_change (codes "label") (octal s.label) (octal s.label)) text (eq-eqb s.label s.label refl)
        (value_none (bytes_eq name name) (value_change (codes "receiver") name name) [] ((bytes_eq-Decides name name).1 refl) refl))) in
        ap₂ said (sym same_receiver_rows) (sym same_source_rows) ∙ itself

    no_groups : group_rows a.groups b.groups ≡ []
    no_groups =
        let itself : group_rows a.groups a.groups ≡ [] =
        none_itself (λ (g : GroupRow). g.name) (λ (g : GroupRow). of_group g.name) no_change a.groups sound.own_groups (λ i g here. refl) in
        ap (group_rows a.groups) (sym ((same_station_is a b).0 one).2) ∙ itself

    pub no_lists : lists_rows a b ≡ []
    no_lists =
        none_both (receiver_rows a.receivers b.receivers) (sources_rows a b ++ group_rows a.groups b.groups) no_receivers
        (none_both (sources_rows a b) (group_rows a.groups b.groups) no_sources no_groups)
