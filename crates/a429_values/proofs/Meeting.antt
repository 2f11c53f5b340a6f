-- One more source of a meeting.
use Rattle.std.proofs.Common.{◌≡◌, ℕ, suc, ◌<◌, List, [], ◌∷◌, ◌++◌, length, map, true, false, refl, sym, ap, ◌∙◌, subst, arith, append_assoc, append-nil, zero-add, inl, inr, get_or, Some}
use Rattle.std.specs.Prelude.{filter, slice_get}
use Rattle.std.specs.List.{range_with_len}
use Rattle.std.proofs.lemmas.List.{map-append}
use Rattle.std.proofs.lemmas.List.Elements.{filter-append}
use Rattle.std.proofs.lemmas.Bool.{cases_eq}
use Rattle.a429_word.proofs.Lists.{range_next}
use Rattle.a429_equipment.specs.declared.loads.Load.{Load}
use Rattle.a429_equipment.specs.declared.rows.SourceRow.{SourceRow}
use Rattle.a429_equipment.specs.TableRecord.{TableRecord}
use Rattle.a429_equipment.specs.Agreement.{is_of, load_after, AgreesTo, AgreesToTheEnd}
use Rattle.a429_values.specs.declared.view.View.{View}
use Rattle.a429_values.specs.Views.{with_load, HasFound}
use Rattle.std.proofs.lemmas.Option.{slice_get-get_or}
use Rattle.a429_values.proofs.Counted.{is_of_inside}

-- the loads of the receiver's sources below n
abbrev pub loads_below : TableRecord → ℕ → List (ℕ × ℕ) → ℕ → List Load
loads_below t r A n = map (λ s. load_after s A) (filter (is_of t r) (range_with_len 0 n))

below_snoc : (t : TableRecord) (r n : ℕ) (A : List (ℕ × ℕ)) → loads_below t r A (suc n) ≡ loads_below t r A n ++ map (λ s. load_after s A) (filter (is_of t r) (n ∷ []))
below_snoc t r n A =
    ap (λ (ks : List ℕ). map (λ s. load_after s A) (filter (is_of t r) ks)) (range_next 0 n ∙ ap (λ (k : ℕ). range_with_len 0 n ++ k ∷ []) (zero-add n))
    ∙ ap (map (λ s. load_after s A)) (filter-append (is_of t r) (range_with_len 0 n) (n ∷ []))
    ∙ map-append (λ s. load_after s A) (filter (is_of t r) (range_with_len 0 n)) (filter (is_of t r) (n ∷ []))

pub below_this : (t : TableRecord) (r n : ℕ) (A : List (ℕ × ℕ)) (ls : List Load) → is_of t r n ≡ true → (ls ++ loads_below t r A n) ++ load_after n A ∷ [] ≡ ls ++ loads_below t r A (suc n)
below_this t r n A ls is = append_assoc ls (loads_below t r A n) (load_after n A ∷ []) ∙ ap (λ (xs : List Load). ls ++ xs) (sym (below_snoc t r n A ∙ rw is refl))

pub below_other : (t : TableRecord) (r n : ℕ) (A : List (ℕ × ℕ)) (ls : List Load) → is_of t r n ≡ false → ls ++ loads_below t r A n ≡ ls ++ loads_below t r A (suc n)
below_other t r n A ls is = ap (λ (xs : List Load). ls ++ xs) (sym (below_snoc t r n A ∙ rw is (append-nil (loads_below t r A n))))

-- the loads agree with what the receiver accepted, and the last cut is all of it if it has a source below n
abbrev pub MetBelow : TableRecord → ℕ → List (ℕ × ℕ) → List Load → ℕ → Type 0
MetBelow t r A loads n = (last : ℕ) × AgreesTo t r A loads last × ((s : ℕ) → s < n → is_of t r s ≡ true → last ≡ length A)

-- a meeting of the seat, whose view was v0, has come to the source n
pub record Turn (t : TableRecord) (v0 : View) (n : ℕ) (v : View) : Type 0 where
  pub view : v ≡ record v0 { loads = v0.loads ++ loads_below t v0.number v0.accepted n }
  pub agrees : MetBelow t v0.number v0.accepted v.loads n

pub turn_this : (t : TableRecord) (v0 v v' : View) (n number : ℕ) → v0.station ≡ t → v0.receives ≡ true → v0.transmits ≡ true → Turn t v0 n v → is_of t v0.number n ≡ true → HasFound v n number v' → Turn t v0 (suc n) v'
turn_this t v0 v v' n number st on sends turn is found =
    let A = v0.accepted in
    let f = found.agrees (ap (λ (u : View). u.receives) turn.view ∙ on) (ap (λ (u : View). u.transmits) turn.view ∙ sends) in
    let P : TableRecord → ℕ → List (ℕ × ℕ) → Type 0 = λ a b c. (last : ℕ) × AgreesTo a b c v'.loads last × (is_of a b n ≡ true → (last ≡ length c) × (found.load ≡ load_after n c)) in
    let st' : v.station ≡ t = ap (λ (u : View). u.station) turn.view ∙ st in
    let nu : v.number ≡ v0.number = ap (λ (u : View). u.number) turn.view in
    let es : v.accepted ≡ A = ap (λ (u : View). u.accepted) turn.view in
    let g = subst (λ (z : TableRecord × (ℕ × List (ℕ × ℕ))). P z.0 z.1.0 z.1.1) (λ i. (st' i, (nu i, es i))) f in
    let h = g.2 is in
    record {
      view = found.view ∙ ap (λ (u : View). with_load u found.load) turn.view ∙ ap (λ (l : Load). with_load (record v0 { loads = v0.loads ++ loads_below t v0.number A n }) l) h.1
          ∙ ap (λ (ls : List Load). record v0 { loads = ls }) (below_this t v0.number n A v0.loads is);
      agrees = (g.0, g.1, λ s lt own. h.0);
    }

pub turn_other : (t : TableRecord) (v0 v v' : View) (n : ℕ) → Turn t v0 n v → is_of t v0.number n ≡ false → v' ≡ v → Turn t v0 (suc n) v'
turn_other t v0 v v' n turn is same = record {
  view = same ∙ turn.view ∙ ap (λ (ls : List Load). record v0 { loads = ls }) (below_other t v0.number n v0.accepted v0.loads is);
  agrees =
      let h = turn.agrees in
      subst (λ (u : View). MetBelow t v0.number v0.accepted u.loads (suc n)) (sym same) (
        h.0,
        h.1,
        λ s lt own. elim (cases_eq s n) [
          | inl at ↦ absurd (let clash : false ≡ true = sym is ∙ (ap (is_of t v0.number) (sym at) ∙ own) in cc)
          | inr away ↦ h.2 s (omega (arith, lt, away)) own
        ],
      );
}

pub turn_last : (t : TableRecord) (v0 v : View) → Turn t v0 (length t.sources) v → AgreesToTheEnd t v0.number v0.accepted v.loads
turn_last t v0 v turn = let h = turn.agrees in (h.0, h.1, λ s own. h.2 s (is_of_inside t v0.number s own) own)

-- the row that is read at a place
pub row_here : (xs ys : List SourceRow) (i : ℕ) (d : SourceRow) → xs ≡ ys → i < length xs → slice_get ys i ≡ Some (get_or xs i d)
row_here xs ys i d same within = ap (λ (zs : List SourceRow). slice_get zs i) (sym same) ∙ slice_get-get_or xs i d within

-- the last turn, by what the caller knows of the seat
pub met_all : (t : TableRecord) (v0 v1 v : View) (n number : ℕ) → v1 ≡ v0 → v0.number ≡ number → Turn t v1 n v → n ≡ length t.sources → AgreesToTheEnd t number v0.accepted v.loads
met_all t v0 v1 v n number same is turn all =
    let last : AgreesToTheEnd t v1.number v1.accepted v.loads = turn_last t v1 v (subst (λ (k : ℕ). Turn t v1 k v) all turn) in
    subst (λ (k : ℕ). AgreesToTheEnd t k v0.accepted v.loads) is (subst (λ (u : View). AgreesToTheEnd t u.number u.accepted v.loads) same last)
