-- Each step of the table keeps its rule.
use Rattle.std.proofs.Common.{◌≡◌, ◌≢◌, ◌↔◌, ℕ, ◌+◌, ◌*◌, ◌<◌, ◌≤◌, eqb, List, [], ◌∷◌, ◌++◌, length, get_or, set, take, Some, None, Option, Bool, true, false, is_some, cond, refl, sym, ap, ◌∙◌, subst, ⊎_elim, arith, eq-eqb, ne_eqb, ◌||◌, zero-le, length-set, get_or-set_other, get_or-set_same, le_refl}
use Rattle.std.specs.Prelude.{slice_get}
use Rattle.std.proofs.Math.Bool.{or-false}
use mathlib.Core.Option.{some, none, some-ne-none}
use lib.Seq.{set-get_or, take-length}
use mathlib.Core.Logic.{dite}
use native.Mathlib.Decide.{ℕ_discrete}
use lib.ListN.{get_elem?}
use Rattle.std.specs.List.{list_any}
use Rattle.std.proofs.lemmas.List.Folds.{list_any-append}
use Rattle.std.proofs.lemmas.Option.{same_Some}
use Rattle.atomic_table.specs.Table.{State, Me, step, keeps, Allows, Splits, Joins}
use Rattle.atomic_table.proofs.Lists.{at_set}
use Rattle.a429_word.proofs.Lists.{all_push}
use Rattle.a429_word.specs.Bits.{number_from}
use Rattle.a429_equipment.specs.declared.loads.Load.{Load}
use Rattle.a429_equipment.specs.declared.rows.SourceRow.{SourceRow}
use Rattle.a429_equipment.specs.TableRecord.{TableRecord}
use Rattle.a429_equipment.specs.Agreement.{words_of, load_after, is_of, IsCutOfLoad, Agrees, AgreesTo}
use Rattle.a429_equipment.specs.Receiving.{IsAccepted, AreAccepted}
use Rattle.a429_values.specs.declared.view.View.{View}
use Rattle.a429_values.specs.Words.{IsCounted}
use Rattle.a429_values.specs.Views.{spent, desk, dealt, dealt_transmitter, receiver, transmitter, both_of, transmitting, receiving, with_accepted, with_load, found_by, seen, CanMeet}
use Rattle.a429_values.specs.Rule.{number_of, JustAt, IsDesk, IsReceiver, IsTransmitter, Fits, KeepsRule}
use Rattle.a429_values.proofs.Counted.{load_same, load_other, of_row, load_counted, is_of_row, is_of_yes, row_at}
use Rattle.a429_values.proofs.Cutting.{cuts_longer, cuts_within, none_above}
use Rattle.a429_values.proofs.Seating.{at_end, one_seat, just_set, just_more, just_new, just_gone, just_moved, just_none, reseat, reseated}
use Rattle.a429_equipment.proofs.Lasting.{agrees_more}

-- xs at r, and f elsewhere
abbrev put : ℕ → List (ℕ × ℕ) → (ℕ → List (ℕ × ℕ)) → ℕ → List (ℕ × ℕ)
put r xs f q = cond (eqb q r) xs (f q)

put_here : (r : ℕ) (xs : List (ℕ × ℕ)) (f : ℕ → List (ℕ × ℕ)) → put r xs f r ≡ xs
put_here r xs f = rw (eq-eqb r r refl) refl

put_else : (r : ℕ) (xs : List (ℕ × ℕ)) (f : ℕ → List (ℕ × ℕ)) (q : ℕ) → q ≢ r → put r xs f q ≡ f q
put_else r xs f q ne = rw (ne_eqb q r ne) refl

or_true : (b : Bool) → (b || true) ≡ true
or_true true = refl
or_true false = refl

none_of : (o : Option ℕ) → is_some o ≡ false → o ≡ None
none_of None e = refl
none_of (Some x) e = absurd (cc)

-- the numbers that were given out, and one more
given_more : (xs : List ℕ) (r i : ℕ) (seat : ℕ → Option ℕ) → ((q : ℕ) → list_any (λ y. eqb y q) xs ≡ is_some (seat q)) → (q : ℕ) → list_any (λ y. eqb y q) (xs ++ r ∷ []) ≡ is_some (reseat r i seat q)
given_more xs r i seat given = reseated (λ (q : ℕ) (o : Option ℕ). list_any (λ y. eqb y q) (xs ++ r ∷ []) ≡ is_some o) r i seat
    (list_any-append (λ y. eqb y r) xs (r ∷ []) ∙ rw (eq-eqb r r refl) (or_true (list_any (λ y. eqb y r) xs)))
    (λ q ne. list_any-append (λ y. eqb y q) xs (r ∷ []) ∙ rw (ne_eqb r q (λ is. ne (sym is))) (or-false (list_any (λ y. eqb y q) xs)) ∙ given q)

-- if a number that was given out goes to another seat, the same numbers are given out
still_given : (r i : ℕ) (seat : ℕ → Option ℕ) → is_some (seat r) ≡ true → (q : ℕ) → is_some (reseat r i seat q) ≡ is_some (seat q)
still_given r i seat is = reseated (λ (q : ℕ) (o : Option ℕ). is_some o ≡ is_some (seat q)) r i seat (sym is) (λ q ne. refl)

still_unused : (r i : ℕ) (seat : ℕ → Option ℕ) (acc : ℕ → List (ℕ × ℕ)) → ((q : ℕ) → seat q ≡ None → acc q ≡ []) → (q : ℕ) → reseat r i seat q ≡ None → acc q ≡ []
still_unused r i seat acc unused = reseated (λ (q : ℕ) (o : Option ℕ). o ≡ None → acc q ≡ []) r i seat (λ e. absurd (cc)) (λ q ne. unused q)

module _ (t : TableRecord) (seat sender : ℕ → Option ℕ) (acc : ℕ → List (ℕ × ℕ)) where
  -- what one receiver accepts changes nothing for the others
  agrees_put : (r : ℕ) (e : ℕ × ℕ) (q : ℕ) (ls : List Load) → Agrees t q (acc q) ls → Agrees t q (put r (acc r ++ e ∷ []) acc q) ls
  agrees_put r e q ls h = dite (ℕ_discrete q r)
      (λ is. let P : List (ℕ × ℕ) → Type 0 = λ xs. Agrees t q xs ls in
      subst P (sym (ap (put r (acc r ++ e ∷ []) acc) is ∙ (put_here r (acc r ++ e ∷ []) acc ∙ ap (λ (k : ℕ). acc k ++ e ∷ []) (sym is)))) (agrees_more t q (acc q) (e ∷ []) ls h))
      (λ ne. let P : List (ℕ × ℕ) → Type 0 = λ xs. Agrees t q xs ls in subst P (sym (put_else r (acc r ++ e ∷ []) acc q ne)) h)

  other_fits : (r : ℕ) (e : ℕ × ℕ) (u : View) → (u.receives ≡ true → u.number ≢ r) → Fits t seat sender acc u → Fits t seat sender (put r (acc r ++ e ∷ []) acc) u
  other_fits r e u ne f = record {
    station = f.station;
    apart = f.apart;
    given = f.given;
    sent = f.sent;
    receives = λ on. put_else r (acc r ++ e ∷ []) acc u.number (ne on) ∙ f.receives on;
    transmits = λ on q. agrees_put r e q u.loads (f.transmits on q);
  }

  my_fits : (v : View) (e : ℕ × ℕ) → v.receives ≡ true → Fits t seat sender acc v → Fits t seat sender (put v.number (acc v.number ++ e ∷ []) acc) (with_accepted v e)
  my_fits v e on f = record {
    station = f.station;
    apart = f.apart;
    given = f.given;
    sent = f.sent;
    receives = λ _. put_here v.number (acc v.number ++ e ∷ []) acc ∙ ap (λ (xs : List (ℕ × ℕ)). xs ++ e ∷ []) (f.receives on);
    transmits = λ sends q. agrees_put v.number e q v.loads (f.transmits sends q);
  }

  -- if a seat is given to a number, a view fits that is not a desk
  no_desk_fits : (seat' sender' : ℕ → Option ℕ) (u : View) → (u.deals ≡ true → ⊥) → Fits t seat sender acc u → Fits t seat' sender' acc u
  no_desk_fits seat' sender' u never f = record { station = f.station; apart = f.apart; given = λ desk. absurd (never desk); sent = λ desk. absurd (never desk); receives = f.receives; transmits = f.transmits }

  -- if a receiver that was given out goes to another seat, each view fits
  moved_fits : (r to : ℕ) (u : View) → is_some (seat r) ≡ true → Fits t seat sender acc u → Fits t (reseat r to seat) sender acc u
  moved_fits r to u is f = record { station = f.station; apart = f.apart; given = λ desk q. f.given desk q ∙ sym (still_given r to seat is q); sent = f.sent; receives = f.receives; transmits = f.transmits }

  -- one more load
  one_more : (q s : ℕ) (row : SourceRow) (ls : List Load) → slice_get t.sources s ≡ Some row → Agrees t q (acc q) ls → (b : Bool) → is_of t q s ≡ b
      → (last : ℕ) × AgreesTo t q (acc q) (ls ++ load_after s (acc row.receiver) ∷ []) last × (b ≡ true → (last ≡ length (acc q)) × (load_after s (acc row.receiver) ≡ load_after s (acc q)))
  one_more q s row ls there h true is =
      let es = acc q in
      let l : Load = load_after s (acc row.receiver) in
      let same : l ≡ load_after s es = ap (λ (r : ℕ). load_after s (acc r)) (is_of_row t q s row there is) in
      let cut : l ≡ load_after s (take (length es) es) = same ∙ ap (load_after s) (sym (take-length es)) in
      let P : Bool → Type 0 = λ c. IsCutOfLoad c es h.0 l (length es) in
      (length es, cuts_longer (is_of t q) es 0 ls h.0 l (length es) h.1 (subst P (sym is) (cuts_within (is_of t q) es 0 ls h.0 zero-le h.1, le_refl (length es), cut)), (λ _. (refl, same)))
  one_more q s row ls there h false is =
      let l : Load = load_after s (acc row.receiver) in
      let P : Bool → Type 0 = λ c. IsCutOfLoad c (acc q) h.0 l h.0 in
      (h.0, cuts_longer (is_of t q) (acc q) 0 ls h.0 l h.0 h.1 (subst P (sym is) refl), (λ on. absurd (cc)))

-- every other view fits as it did
each_set : (F : View → Type 0) (views : List View) (id : ℕ) (w : View) → ((j : ℕ) (u : View) → j ≢ id → get_elem? views j ≡ some u → F u) → F w → (j : ℕ) (u : View) → get_elem? (set views id w) j ≡ some u → F u
each_set F views id w others mine j u e = ⊎_elim (λ (x : (j ≡ id) × (w ≡ u)). subst F x.1 mine) (λ (x : (j ≢ id) × (get_elem? views j ≡ some u)). others j u x.0 x.1) (at_set views id j w u e)

-- every view fits as it did, and a new one fits
each_more : (F : View → Type 0) (views : List View) (w : View) → ((j : ℕ) (u : View) → get_elem? views j ≡ some u → F u) → F w → (j : ℕ) (u : View) → get_elem? (views ++ w ∷ []) j ≡ some u → F u
each_more F views w old new j u e = ⊎_elim (λ (x : get_elem? views j ≡ some u). old j u x) (λ (x : (j ≡ length views) × (w ≡ u)). subst F x.1 new) (at_end views w u j e)

pub opens : (t : TableRecord) (words : List ℕ) → length t.sources ≤ length words → ((s : ℕ) → get_or words s 0 ≡ 0) → KeepsRule t words (desk t ∷ [])
opens t words long zeros = record {
  seat = λ _. None;
  sender = λ _. None;
  accepted = λ _. [];
  desk_at = 0;
  long = long;
  known = λ s _ _. zeros s;
  valid = λ _. tt;
  unused = λ _ _. refl;
  each = each_more (Fits t (λ _. None) (λ _. None) (λ _. [])) [] (desk t) (λ j u e. absurd (some-ne-none u (sym e)))
      record { station = ((λ _. refl), (λ _. refl), (λ _. refl)); apart = λ _. (refl, refl); given = λ _ r. refl; sent = λ _ g. refl; receives = λ e. absurd (cc); transmits = λ e. absurd (cc) };
  one_desk = just_new [] IsDesk (desk t) refl (just_none IsDesk);
  receivers = λ r. just_more [] (IsReceiver r) None (desk t) (λ h. absurd (cc)) (just_none (IsReceiver r));
  transmitters = λ g. just_more [] (IsTransmitter g) None (desk t) (λ h. absurd (cc)) (just_none (IsTransmitter g));
}

module _ {S : Type 0} (t : TableRecord) where
  abbrev Rule : State S View → Type 0
  Rule s = KeepsRule t s.words s.views

  pub stores : (slots id : ℕ) (me : Me S View) (s n bits raw : ℕ) → me.0.receives ≡ true → IsAccepted t me.0.number (s, raw) → s < length t.sources → n ≡ length (words_of s me.0.accepted) + 1 → bits ≡ number_from 9 23 raw
      → Allows Rule slots id me s (λ _. n * 8388608 + bits) (λ _ w. (w.0 ≡ with_accepted me.0 (s, raw)) × (w.1 ≡ me.1))
  stores slots id me s n bits raw on own inside counts are state k homes here fits =
      let v : View = me.0 in
      let new : ℕ = n * 8388608 + bits in
      let r : ℕ = v.number in
      let f = k.each id v here in
      let at_me : k.seat r ≡ Some id = (k.receivers r id).1 (v, here, (on, refl)) in
      let es : List (ℕ × ℕ) = k.accepted r in
      let same : es ≡ v.accepted = f.receives on in
      let more : List (ℕ × ℕ) = es ++ (s, raw) ∷ [] in
      let now : ℕ → List (ℕ × ℕ) = put r more k.accepted in
      let at_r : now r ≡ more = put_here r more k.accepted in
      let long' : length (set state.words s new) ≡ length state.words = length-set state.words s new in
      let room : s < length state.words = omega (arith, k.long, inside) in
      let word : new ≡ number_of (load_after s more) = ap (λ (b : ℕ). n * 8388608 + b) are ∙ ap (λ (m : ℕ). m * 8388608 + number_from 9 23 raw) (counts ∙ ap (λ (xs : List (ℕ × ℕ)). length (words_of s xs) + 1) (sym same)) ∙ sym (ap number_of (load_same s raw es)) in (
        with_accepted v (s, raw),
        keeps,
        tt,
        record {
          seat = k.seat;
          sender = k.sender;
          accepted = now;
          desk_at = k.desk_at;
          long = omega (arith, k.long, long');
          valid = λ q. dite (ℕ_discrete q r)
              (λ is. subst (λ (p : ℕ × List (ℕ × ℕ)). AreAccepted t p.0 p.1) (λ i. (sym is i, sym (ap now is ∙ at_r) i)) (all_push (IsAccepted t r) es (s, raw) (k.valid r) own))
              (λ ne. subst (AreAccepted t q) (sym (put_else r more k.accepted q ne)) (k.valid q));
          known = λ x row there. dite (ℕ_discrete x s)
              (λ is.
              let mine = of_row t r s raw row own (ap (slice_get t.sources) (sym is) ∙ there) in
              ap (λ (y : ℕ). get_or (set state.words s new) y 0) is ∙ (get_or-set_same state.words s new 0 room ∙ (word ∙ (ap (λ (es : List (ℕ × ℕ)). number_of (load_after s es)) (sym (ap now mine.receiver ∙ at_r)) ∙ ap (λ (y : ℕ). number_of (load_after y (now row.receiver))) (sym is)))))
              (λ ne. get_or-set_other state.words s x new 0 ne ∙ (k.known x row there ∙ dite (ℕ_discrete row.receiver r)
              (λ is. ap (λ (y : ℕ). number_of (load_after x (k.accepted y))) is ∙ (ap number_of (sym (load_other x s raw es (λ e. ne (sym e)))) ∙ ap (λ (es : List (ℕ × ℕ)). number_of (load_after x es)) (sym (ap now is ∙ at_r))))
              (λ away. ap (λ (es : List (ℕ × ℕ)). number_of (load_after x es)) (sym (put_else r more k.accepted row.receiver away)))));
          unused = λ q e. put_else r more k.accepted q (λ is. let clash : None ≡ Some id = sym e ∙ (ap k.seat is ∙ at_me) in absurd (cc)) ∙ k.unused q e;
          each = each_set (Fits t k.seat k.sender now) state.views id (with_accepted v (s, raw))
              (λ j u ne e. other_fits t k.seat k.sender k.accepted r (s, raw) u (λ gets is. ne (one_seat state.views (IsReceiver r) (k.seat r) j id (k.receivers r) (u, e, (gets, is)) (v, here, (on, refl)))) (k.each j u e))
              (my_fits t k.seat k.sender k.accepted v (s, raw) on f);
          one_desk = just_set state.views IsDesk (Some k.desk_at) id v (with_accepted v (s, raw)) here ((λ h. h), (λ h. h)) k.one_desk;
          receivers = λ q. just_set state.views (IsReceiver q) (k.seat q) id v (with_accepted v (s, raw)) here ((λ h. h), (λ h. h)) (k.receivers q);
          transmitters = λ q. just_set state.views (IsTransmitter q) (k.sender q) id v (with_accepted v (s, raw)) here ((λ h. h), (λ h. h)) (k.transmitters q);
        },
        (refl, refl),
      )

  pub finds : (slots id : ℕ) (me : Me S View) (s : ℕ) → s < length t.sources → me.0.transmits ≡ true → Allows Rule slots id me s (λ n. n) (found_by (step slots s 0 0 none) me)
  finds slots id me s inside sends state k homes here fits =
      let v : View = me.0 in
      let w : ℕ = get_or state.words s 0 in
      let f = k.each id v here in
      let row = row_at t s inside in
      let l : Load = load_after s (k.accepted row.0.receiver) in
      let number : w ≡ number_of l = k.known s row.0 row.1 in
      let st : v.station ≡ t = f.station.2 sends in
      let more : (q : ℕ) → (last : ℕ) × AgreesTo t q (k.accepted q) (v.loads ++ l ∷ []) last × (is_of t q s ≡ true → (last ≡ length (k.accepted q)) × (l ≡ load_after s (k.accepted q))) =
      λ q. one_more t k.seat k.sender k.accepted q s row.0 v.loads row.1 (f.transmits sends q) (is_of t q s) refl in
      let P : List ℕ → Type 0 = λ ws. KeepsRule t ws (set state.views id (with_load v l)) in (
        with_load v l,
        keeps,
        tt,
        subst P (sym (set-get_or state.words s 0)) record {
          seat = k.seat;
          sender = k.sender;
          accepted = k.accepted;
          desk_at = k.desk_at;
          long = k.long;
          known = k.known;
          valid = k.valid;
          unused = k.unused;
          each = each_set (Fits t k.seat k.sender k.accepted) state.views id (with_load v l) (λ j u _ e. k.each j u e)
              record { station = f.station; apart = f.apart; given = f.given; sent = f.sent; receives = f.receives; transmits = λ _ q. let m = more q in (m.0, m.1) };
          one_desk = just_set state.views IsDesk (Some k.desk_at) id v (with_load v l) here ((λ h. h), (λ h. h)) k.one_desk;
          receivers = λ q. just_set state.views (IsReceiver q) (k.seat q) id v (with_load v l) here ((λ h. h), (λ h. h)) (k.receivers q);
          transmitters = λ q. just_set state.views (IsTransmitter q) (k.sender q) id v (with_load v l) here ((λ h. h), (λ h. h)) (k.transmitters q);
        },
        (
          record {
            load = l;
            view = refl;
            tells = λ x there.
                let same : row.0 ≡ x = same_Some row.0 x (sym row.1 ∙ (ap (λ (y : TableRecord). slice_get y.sources s) (sym st) ∙ there)) in
                record {
                  source = refl;
                  stands = number;
                  counted = subst (λ (y : SourceRow). IsCounted y.label l.count l.word) same (load_counted t row.0.receiver s row.0 (k.accepted row.0.receiver) row.1 (k.valid row.0.receiver));
                };
            no_less = let q = row.0.receiver in let h = f.transmits sends q in none_above (is_of t q) (k.accepted q) s 0 v.loads h.0 (is_of_yes t q s row.0 row.1 refl) h.1;
            agrees = λ on _. let g = f.receives on in
                let Q : TableRecord → List (ℕ × ℕ) → Type 0 = λ y es. (last : ℕ) × AgreesTo y v.number es (v.loads ++ l ∷ []) last × (is_of y v.number s ≡ true → (last ≡ length es) × (l ≡ load_after s es)) in
                subst (λ (y : TableRecord). Q y v.accepted) (sym st) (subst (Q t) g (more v.number));
          },
          refl,
        ),
      )

  pub looks : (slots id : ℕ) (me : Me S View) (s : ℕ) → Allows Rule slots id me s (λ n. n) (seen (step slots s 0 0 none) me)
  looks slots id me s state k homes here fits =
      let v : View = me.0 in
      let f = k.each id v here in
      let P : List ℕ → Type 0 = λ ws. KeepsRule t ws (set state.views id v) in (
        v,
        keeps,
        tt,
        subst P (sym (set-get_or state.words s 0)) record {
          seat = k.seat;
          sender = k.sender;
          accepted = k.accepted;
          desk_at = k.desk_at;
          long = k.long;
          known = k.known;
          valid = k.valid;
          unused = k.unused;
          each = each_set (Fits t k.seat k.sender k.accepted) state.views id v (λ j u _ e. k.each j u e) f;
          one_desk = just_set state.views IsDesk (Some k.desk_at) id v v here ((λ h. h), (λ h. h)) k.one_desk;
          receivers = λ q. just_set state.views (IsReceiver q) (k.seat q) id v v here ((λ h. h), (λ h. h)) (k.receivers q);
          transmitters = λ q. just_set state.views (IsTransmitter q) (k.sender q) id v v here ((λ h. h), (λ h. h)) (k.transmitters q);
        },
        (
          refl,
          λ on sends. let Q : TableRecord → List (ℕ × ℕ) → Type 0 = λ y es. Agrees y v.number es v.loads in
              subst (λ (y : TableRecord). Q y v.accepted) (sym (f.station.1 on)) (subst (Q t) (f.receives on) (f.transmits sends v.number)),
        ),
      )

  pub new_receiver : (id : ℕ) (v : View) (r : ℕ) → v.deals ≡ true → list_any (λ y. eqb y r) v.given ≡ false → Splits Rule id v (dealt v r) (receiver v.station r)
  new_receiver id v r on not_in state k here =
      let f = k.each id v here in
      let free : k.seat r ≡ None = none_of (k.seat r) (sym (f.given on r) ∙ not_in) in
      let views : List View = set state.views id (dealt v r) in
      let w : View = receiver v.station r in
      let now : ℕ → Option ℕ = reseat r (length views) k.seat in
      let old : (P : View → Type 0) (seat : Option ℕ) → P v ↔ P (dealt v r) → JustAt state.views P seat → JustAt views P seat = λ P seat. just_set state.views P seat id v (dealt v r) here in
      record {
        seat = now;
        sender = k.sender;
        accepted = k.accepted;
        desk_at = k.desk_at;
        long = k.long;
        known = k.known;
        valid = k.valid;
        unused = still_unused r (length views) k.seat k.accepted k.unused;
        each = each_more (Fits t now k.sender k.accepted) views w
            (each_set (Fits t now k.sender k.accepted) state.views id (dealt v r)
            (λ j u ne e. no_desk_fits t k.seat k.sender k.accepted now k.sender u (λ desk. ne (one_seat state.views IsDesk (Some k.desk_at) j id k.one_desk (u, e, desk) (v, here, on))) (k.each j u e))
            record { station = f.station; apart = f.apart; given = λ _. given_more v.given r (length views) k.seat (f.given on); sent = f.sent; receives = f.receives; transmits = f.transmits })
            record { station = ((λ e. absurd (cc)), (λ _. f.station.0 on), (λ e. absurd (cc))); apart = λ e. absurd (cc); given = λ e. absurd (cc); sent = λ e. absurd (cc); receives = λ _. k.unused r free; transmits = λ e. absurd (cc) };
        one_desk = just_more views IsDesk (Some k.desk_at) w (λ h. absurd (cc)) (old IsDesk (Some k.desk_at) ((λ h. h), (λ h. h)) k.one_desk);
        receivers = reseated (λ (q : ℕ) (o : Option ℕ). JustAt (views ++ w ∷ []) (IsReceiver q) o) r (length views) k.seat
            (just_new views (IsReceiver r) w (refl, refl) (old (IsReceiver r) None ((λ h. h), (λ h. h)) (subst (JustAt state.views (IsReceiver r)) free (k.receivers r))))
            (λ q ne. just_more views (IsReceiver q) (k.seat q) w (λ h. ne (sym h.1)) (old (IsReceiver q) (k.seat q) ((λ h. h), (λ h. h)) (k.receivers q)));
        transmitters = λ g. just_more views (IsTransmitter g) (k.sender g) w (λ h. absurd (cc)) (old (IsTransmitter g) (k.sender g) ((λ h. h), (λ h. h)) (k.transmitters g));
      }

  pub new_transmitter : (id : ℕ) (v : View) (g : ℕ) → v.deals ≡ true → list_any (λ y. eqb y g) v.sent ≡ false → Splits Rule id v (dealt_transmitter v g) (transmitter v.station g)
  new_transmitter id v g on not_in state k here =
      let f = k.each id v here in
      let free : k.sender g ≡ None = none_of (k.sender g) (sym (f.sent on g) ∙ not_in) in
      let views : List View = set state.views id (dealt_transmitter v g) in
      let w : View = transmitter v.station g in
      let now : ℕ → Option ℕ = reseat g (length views) k.sender in
      let old : (P : View → Type 0) (seat : Option ℕ) → P v ↔ P (dealt_transmitter v g) → JustAt state.views P seat → JustAt views P seat = λ P seat. just_set state.views P seat id v (dealt_transmitter v g) here in
      record {
        seat = k.seat;
        sender = now;
        accepted = k.accepted;
        desk_at = k.desk_at;
        long = k.long;
        known = k.known;
        valid = k.valid;
        unused = k.unused;
        each = each_more (Fits t k.seat now k.accepted) views w
            (each_set (Fits t k.seat now k.accepted) state.views id (dealt_transmitter v g)
            (λ j u ne e. no_desk_fits t k.seat k.sender k.accepted k.seat now u (λ desk. ne (one_seat state.views IsDesk (Some k.desk_at) j id k.one_desk (u, e, desk) (v, here, on))) (k.each j u e))
            record { station = f.station; apart = f.apart; given = f.given; sent = λ _. given_more v.sent g (length views) k.sender (f.sent on); receives = f.receives; transmits = f.transmits })
            record { station = ((λ e. absurd (cc)), (λ e. absurd (cc)), (λ _. f.station.0 on)); apart = λ e. absurd (cc); given = λ e. absurd (cc); sent = λ e. absurd (cc); receives = λ e. absurd (cc); transmits = λ _ q. (0, refl) };
        one_desk = just_more views IsDesk (Some k.desk_at) w (λ h. absurd (cc)) (old IsDesk (Some k.desk_at) ((λ h. h), (λ h. h)) k.one_desk);
        receivers = λ r. just_more views (IsReceiver r) (k.seat r) w (λ h. absurd (cc)) (old (IsReceiver r) (k.seat r) ((λ h. h), (λ h. h)) (k.receivers r));
        transmitters = reseated (λ (q : ℕ) (o : Option ℕ). JustAt (views ++ w ∷ []) (IsTransmitter q) o) g (length views) k.sender
            (just_new views (IsTransmitter g) w (refl, refl) (old (IsTransmitter g) None ((λ h. h), (λ h. h)) (subst (JustAt state.views (IsTransmitter g)) free (k.transmitters g))))
            (λ q ne. just_more views (IsTransmitter q) (k.sender q) w (λ h. ne (sym h.1)) (old (IsTransmitter q) (k.sender q) ((λ h. h), (λ h. h)) (k.transmitters q)));
      }

  pub meets : (id : ℕ) (v : View) (other : ℕ) (w : View) → CanMeet v w → Joins Rule id v other w (both_of v w) spent
  meets id v other w (v_transmits, v_receives_none, w_receives, w_transmits_none) state k here away there =
      let f = k.each id v here in
      let b : View = both_of v w in
      let at_other : get_elem? state.views other ≡ some w = ⊎_elim (λ (x : (other ≡ id) × (b ≡ w)). absurd (away x.0)) (λ (x : (other ≢ id) × (get_elem? state.views other ≡ some w)). x.1) (at_set state.views id other b w there) in
      let g = k.each other w at_other in
      let seat_w : k.seat w.number ≡ Some other = (k.receivers w.number other).1 (w, at_other, (w_receives, refl)) in
      let given : is_some (k.seat w.number) ≡ true = ap is_some seat_w in
      let now : ℕ → Option ℕ = reseat w.number id k.seat in
      let views : List View = set (set state.views id b) other spent in
      let then : (P : View → Type 0) (seat : Option ℕ) → P v ↔ P b → P w ↔ P spent → JustAt state.views P seat → JustAt views P seat =
      λ P seat mine its just. just_set (set state.views id b) P seat other w spent there its (just_set state.views P seat id v b here mine just) in
      record {
        seat = now;
        sender = k.sender;
        accepted = k.accepted;
        desk_at = k.desk_at;
        long = k.long;
        known = k.known;
        valid = k.valid;
        unused = still_unused w.number id k.seat k.accepted k.unused;
        each = each_set (Fits t now k.sender k.accepted) (set state.views id b) other spent
            (λ j u _ e. each_set (Fits t now k.sender k.accepted) state.views id b (λ i x _ h. moved_fits t k.seat k.sender k.accepted w.number id x given (k.each i x h))
            record {
              station = (f.station.0, (λ _. f.station.2 v_transmits), f.station.2);
              apart = λ desk. let clash : true ≡ false = sym v_transmits ∙ (f.apart desk).1 in absurd (cc);
              given = (moved_fits t k.seat k.sender k.accepted w.number id v given f).given;
              sent = f.sent;
              receives = λ _. g.receives w_receives;
              transmits = f.transmits;
            } j u e)
            record { station = ((λ e. absurd (cc)), (λ e. absurd (cc)), (λ e. absurd (cc))); apart = λ e. absurd (cc); given = λ e. absurd (cc); sent = λ e. absurd (cc); receives = λ e. absurd (cc); transmits = λ e. absurd (cc) };
        one_desk = then IsDesk (Some k.desk_at) ((λ h. h), (λ h. h)) ((λ h. let clash : true ≡ false = sym w_receives ∙ (g.apart h).0 in absurd (cc)), (λ h. absurd (cc))) k.one_desk;
        receivers = reseated (λ (q : ℕ) (o : Option ℕ). JustAt views (IsReceiver q) o) w.number id k.seat
            (just_moved state.views (IsReceiver w.number) id other v b spent here away (w_receives, refl) (λ h. absurd (cc)) (subst (JustAt state.views (IsReceiver w.number)) seat_w (k.receivers w.number)))
            (λ q ne. then (IsReceiver q) (k.seat q) ((λ h. let clash : true ≡ false = sym h.0 ∙ v_receives_none in absurd (cc)), (λ h. absurd (ne (sym h.1)))) ((λ h. absurd (ne (sym h.1))), (λ h. absurd (cc))) (k.receivers q));
        transmitters = λ q. then (IsTransmitter q) (k.sender q) ((λ h. h), (λ h. h)) ((λ h. let clash : true ≡ false = sym h.0 ∙ w_transmits_none in absurd (cc)), (λ h. absurd (cc))) (k.transmitters q);
      }

  pub parts : (id : ℕ) (v : View) → v.receives ≡ true → Splits Rule id v (transmitting v) (receiving v)
  parts id v on state k here =
      let f = k.each id v here in
      let views : List View = set state.views id (transmitting v) in
      let w : View = receiving v in
      let seat_v : k.seat v.number ≡ Some id = (k.receivers v.number id).1 (v, here, (on, refl)) in
      let given : is_some (k.seat v.number) ≡ true = ap is_some seat_v in
      let now : ℕ → Option ℕ = reseat v.number (length views) k.seat in
      let no_desk : v.deals ≡ true → ⊥ = λ desk. let clash : true ≡ false = sym on ∙ (f.apart desk).0 in absurd (cc) in
      let old : (P : View → Type 0) (seat : Option ℕ) → P v ↔ P (transmitting v) → JustAt state.views P seat → JustAt views P seat = λ P seat. just_set state.views P seat id v (transmitting v) here in
      record {
        seat = now;
        sender = k.sender;
        accepted = k.accepted;
        desk_at = k.desk_at;
        long = k.long;
        known = k.known;
        valid = k.valid;
        unused = still_unused v.number (length views) k.seat k.accepted k.unused;
        each = each_more (Fits t now k.sender k.accepted) views w
            (each_set (Fits t now k.sender k.accepted) state.views id (transmitting v)
            (λ j u _ e. moved_fits t k.seat k.sender k.accepted v.number (length views) u given (k.each j u e))
            record { station = (f.station.0, (λ e. absurd (cc)), f.station.2); apart = λ desk. absurd (no_desk desk); given = λ desk. absurd (no_desk desk); sent = f.sent; receives = λ e. absurd (cc); transmits = f.transmits })
            record { station = ((λ e. absurd (cc)), (λ _. f.station.1 on), (λ e. absurd (cc))); apart = λ e. absurd (cc); given = λ e. absurd (cc); sent = λ e. absurd (cc); receives = λ _. f.receives on; transmits = λ e. absurd (cc) };
        one_desk = just_more views IsDesk (Some k.desk_at) w (λ h. absurd (cc)) (old IsDesk (Some k.desk_at) ((λ h. h), (λ h. h)) k.one_desk);
        receivers = reseated (λ (q : ℕ) (o : Option ℕ). JustAt (views ++ w ∷ []) (IsReceiver q) o) v.number (length views) k.seat
            (just_new views (IsReceiver v.number) w (on, refl) (just_gone state.views (IsReceiver v.number) id (transmitting v) (λ h. absurd (cc)) (subst (JustAt state.views (IsReceiver v.number)) seat_v (k.receivers v.number))))
            (λ q ne. just_more views (IsReceiver q) (k.seat q) w (λ h. ne (sym h.1)) (old (IsReceiver q) (k.seat q) ((λ h. absurd (ne (sym h.1))), (λ h. absurd (cc))) (k.receivers q)));
        transmitters = λ q. just_more views (IsTransmitter q) (k.sender q) w (λ h. absurd (cc)) (old (IsTransmitter q) (k.sender q) ((λ h. h), (λ h. h)) (k.transmitters q));
      }
