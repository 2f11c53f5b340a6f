-- A receiver when it is given out, and after one more word.
use Rattle.std.proofs.Common.{◌≡◌, ℕ, zero, suc, ◌+◌, ◌-◌, ◌*◌, ◌^◌, ◌%◌, ◌<◌, ◌≤◌, List, [], ◌∷◌, ◌++◌, length, get_or, set, refl, sym, ap, ◌∙◌, subst, arith, length-set, get_or-set_other, get_or-set_same, lit<, inl, inr}
use Rattle.std.specs.Prelude.{replicate, map, Ok}
use Rattle.std.proofs.lemmas.Bool.{cases_eq, lt-ltb}
use Rattle.std.proofs.lemmas.Nat.{one_shl}
use Rattle.std.proofs.Math.Nat.{pow-le-pow_right}
use Rattle.std.proofs.lemmas.Grind.{get_or_default_zero}
use Rattle.std.proofs.lemmas.List.{length_push, map-append}
use Rattle.atomic_table.specs.Seated.{TableId}
use Rattle.a429_word.proofs.Lists.{all_push}
use Rattle.a429_equipment.specs.TableRecord.{TableRecord}
use Rattle.a429_equipment.specs.Arrivals.{sorted}
use Rattle.a429_equipment.specs.Agreement.{words_of}
use Rattle.a429_equipment.specs.Receiving.{IsAccepted, AreAccepted, IsReceived, accepted_after, with_word}
use Rattle.a429_values.specs.declared.view.View.{View}
use Rattle.a429_values.specs.Views.{receiver, with_accepted}
use Rattle.a429_values.specs.Ends.{Place, IsReceiving, view_in}
use Rattle.a429_equipment.proofs.Receiving.{in_pieces, words_same, words_other}

abbrev zeros : ℕ → List ℕ
zeros n = replicate n 0

pub zero_at : (n s : ℕ) → get_or (zeros n) s 0 ≡ 0
zero_at zero s = refl
zero_at (suc n) zero = refl
zero_at (suc n) (suc s) = zero_at n s

pub limit_fits : (C : ℕ) → C ≤ 41 → 1 * 2 ^ C % 18446744073709551616 - 1 < 2 ^ 41
limit_fits C h =
    let p : 2 ^ C ≤ 2 ^ 41 = pow-le-pow_right (lit< tt) h in
    omega (arith, p, one_shl C 64 (omega (arith, h)))

pub new_receiving : (p : Place) (number limit : ℕ) (counts : List ℕ) (at : TableId) (views : List View) → limit < 2 ^ 41 → at ≡ p.hub → views ≡ receiver p.station number ∷ [] → number < length p.station.receivers → length counts ≡ length p.station.sources
    → ((s : ℕ) → get_or counts s 0 ≡ 0) → IsReceiving p number limit counts at views
new_receiving p number limit counts at views small here is inside sized zeros =
    let now : view_in views ≡ receiver p.station number = ap view_in is in
    record {
      here = here;
      one = is ∙ ap (λ (x : View). x ∷ []) (sym now);
      receives = ap (λ (x : View). x.receives) now;
      no_transmitter = ap (λ (x : View). x.transmits) now;
      numbered = ap (λ (x : View). x.number) now;
      station = ap (λ (x : View). x.station) now;
      inside = inside;
      sized = sized;
      counted = λ s lt. zeros s ∙ sym (ap (λ (x : View). length (words_of s x.accepted)) now);
      small = small;
      valid = subst (λ (x : View). AreAccepted p.station number x.accepted) (sym now) tt;
      received = subst (λ (x : View). IsReceived limit p.station number x.accepted) (sym now) refl;
    }

received_more : (limit : ℕ) (t : TableRecord) (r s raw : ℕ) (A : List (ℕ × ℕ)) → IsReceived limit t r A → sorted t r raw ≡ Ok s → length (words_of s A) < limit → IsReceived limit t r (A ++ (s, raw) ∷ [])
received_more limit t r s raw A h is room =
    ap (accepted_after limit t r []) (map-append (λ (e : ℕ × ℕ). e.1) A ((s, raw) ∷ []))
    ∙ in_pieces t limit r [] (map (λ (e : ℕ × ℕ). e.1) A) (raw ∷ [])
    ∙ ap (λ (B : List (ℕ × ℕ)). with_word limit B raw (sorted t r raw)) h
    ∙ ap (with_word limit A raw) is
    ∙ rw (lt-ltb (length (words_of s A)) limit room) refl

pub receiving_after : (p : Place) (number limit : ℕ) (counts : List ℕ) (at : TableId) (views : List View) (s raw n m : ℕ) (at' : TableId) (views' : List View) → IsReceiving p number limit counts at views
    → s < length p.station.sources → m ≡ get_or counts s m → n ≡ m + 1 → IsAccepted p.station number (s, raw) → sorted p.station number raw ≡ Ok s → m < limit → at' ≡ at → views' ≡ with_accepted (view_in views) (s, raw) ∷ [] → IsReceiving p number limit (set counts s n) at' views'
receiving_after p number limit counts at views s raw n m at' views' h inside read plus own for_s below same is =
    let v : View = with_accepted (view_in views) (s, raw) in
    let now : view_in views' ≡ v = ap view_in is in
    let room : s < length counts = omega (arith, h.sized, inside) in
    let more : n ≡ get_or counts s 0 + 1 = plus ∙ ap (λ (k : ℕ). k + 1) (read ∙ get_or_default_zero counts s m room) in
    let under : length (words_of s (view_in views).accepted) < limit = omega (arith, below, read ∙ get_or_default_zero counts s m room, h.counted s inside) in
    let longer : length (words_of s (view_in views).accepted) + 1 ≡ length (words_of s v.accepted) = sym (ap (λ (ws : List ℕ). length ws) (words_same s raw (view_in views).accepted) ∙ length_push (words_of s (view_in views).accepted) raw) in
    record {
      here = same ∙ h.here;
      one = is ∙ ap (λ (x : View). x ∷ []) (sym now);
      receives = ap (λ (x : View). x.receives) now ∙ h.receives;
      no_transmitter = ap (λ (x : View). x.transmits) now ∙ h.no_transmitter;
      numbered = ap (λ (x : View). x.number) now ∙ h.numbered;
      station = ap (λ (x : View). x.station) now ∙ h.station;
      inside = h.inside;
      sized = length-set counts s n ∙ h.sized;
      counted = λ x lt. elim (cases_eq x s) [
        | inl e ↦ ap (λ (y : ℕ). get_or (set counts s n) y 0) e ∙ get_or-set_same counts s n 0 room ∙ more ∙ ap (λ (c : ℕ). c + 1) (h.counted s inside) ∙ longer ∙ ap (λ (u : View). length (words_of s u.accepted)) (sym now)
            ∙ ap (λ (y : ℕ). length (words_of y (view_in views').accepted)) (sym e)
        | inr ne ↦ get_or-set_other counts s x n 0 ne ∙ h.counted x lt ∙ sym (ap (λ (ws : List ℕ). length ws) (words_other x s raw (view_in views).accepted (λ e. ne (sym e)))) ∙ ap (λ (u : View). length (words_of x u.accepted)) (sym now)
      ];
      valid = subst (λ (u : View). AreAccepted p.station number u.accepted) (sym now) (all_push (IsAccepted p.station number) (view_in views).accepted (s, raw) h.valid own);
      small = h.small;
      received = subst (λ (u : View). IsReceived limit p.station number u.accepted) (sym now) (received_more limit p.station number s raw (view_in views).accepted h.received for_s under);
    }

-- the seat that a receiver's badge was
pub taken_out : (views now : List View) (v : View) → now ≡ views → now ≡ v ∷ [] → v ≡ view_in views
taken_out views now v same is = ap view_in (sym is ∙ same)
