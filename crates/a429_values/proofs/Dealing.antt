-- A desk that gives out a receiver or a transmitter.
use Rattle.std.proofs.Common.{◌≡◌, ℕ, ◌-◌, ◌*◌, ◌^◌, ◌%◌, ◌≤◌, List, [], ◌∷◌, ◌++◌, Bool, true, false, ap, ◌∙◌, arith}
use Rattle.std.specs.Prelude.{if◌then◌else◌}
use Rattle.std.proofs.lemmas.Nat.{one_shl}
use Rattle.atomic_table.specs.Seated.{TableId}
use Rattle.a429_equipment.specs.declared.loads.Load.{Load}
use Rattle.a429_equipment.specs.TableRecord.{TableRecord}
use Rattle.a429_values.specs.declared.view.View.{View}
use Rattle.a429_values.specs.Ends.{Dealing, Place, ReceiverEnd, TransmitterEnd, view_in}
use Rattle.a429_values.specs.Views.{receiver}

-- the number was added
pub added : (b : Bool) (xs ys : List ℕ) (n : ℕ) → ys ≡ (if b then xs ++ n ∷ [] else xs) → b ≡ true → ys ≡ xs ++ n ∷ []
added b xs ys n is done = is ∙ ap (λ (c : Bool). if c then xs ++ n ∷ [] else xs) done

-- no number was added
pub kept : (b : Bool) (xs ys : List ℕ) (n : ℕ) → ys ≡ (if b then xs ++ n ∷ [] else xs) → b ≡ false → ys ≡ xs
kept b xs ys n is failed = is ∙ ap (λ (c : Bool). if c then xs ++ n ∷ [] else xs) failed

pub same_dealing : (z z' : TableId) (t t' : TableRecord) (xs xs' ys ys' : List ℕ) → z ≡ z' → t ≡ t' → xs ≡ xs' → ys ≡ ys'
    → ◌≡◌ {A = Dealing} (record { at = record { hub = z; station = t }; receivers = xs; transmitters = ys }) (record { at = record { hub = z'; station = t' }; receivers = xs'; transmitters = ys' })
same_dealing z z' t t' xs xs' ys ys' hub station receivers transmitters =
    ap (λ (h : TableId). record { at = record { hub = h; station = t }; receivers = xs; transmitters = ys }) hub
    ∙ ap (λ (u : TableRecord). record { at = record { hub = z'; station = u }; receivers = xs; transmitters = ys }) station
    ∙ ap (λ (ns : List ℕ). record { at = record { hub = z'; station = t' }; receivers = ns; transmitters = ys }) receivers
    ∙ ap (λ (ns : List ℕ). record { at = record { hub = z'; station = t' }; receivers = xs'; transmitters = ns }) transmitters

-- a receiver that was given out
pub new_end : (C : ℕ) (p q : Place) (number : ℕ) (views : List View) → C ≤ 41 → p ≡ q → views ≡ receiver p.station number ∷ []
    → ◌≡◌ {A = ReceiverEnd} (record { at = p; number = number; limit = 1 * 2 ^ C % 18446744073709551616 - 1; accepted = (view_in views).accepted }) (record { at = q; number = number; limit = 2 ^ C - 1; accepted = [] })
new_end C p q number views few at is =
    ap (λ (x : Place). record { at = x; number = number; limit = 1 * 2 ^ C % 18446744073709551616 - 1; accepted = (view_in views).accepted }) at
    ∙ ap (λ (vs : List View). record { at = q; number = number; limit = 1 * 2 ^ C % 18446744073709551616 - 1; accepted = (view_in vs).accepted }) is
    ∙ ap (λ (k : ℕ). record { at = q; number = number; limit = k - 1; accepted = [] }) (one_shl C 64 (omega (arith, few)))

-- a transmitter that was given out
pub new_sender : (p q : Place) (number : ℕ) (loads : List Load) → p ≡ q → loads ≡ []
    → ◌≡◌ {A = TransmitterEnd} (record { at = p; number = number; loads = loads }) (record { at = q; number = number; loads = [] })
new_sender p q number loads at none = ap (λ (x : Place). record { at = x; number = number; loads = loads }) at ∙ ap (λ (ls : List Load). record { at = q; number = number; loads = ls }) none
