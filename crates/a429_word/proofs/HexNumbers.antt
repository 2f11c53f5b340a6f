-- Data in hexadecimal.
use Rattle.std.proofs.Common.{◌≡◌, ℕ, ◌-◌, ◌≤◌, false, List, [], ◌∷◌, length, refl, arith}
use Rattle.std.specs.Prelude.{◌==◌}
use Rattle.a429_word.specs.Hexadecimal.{hex_number, raw_word}
use borrow.Rule.Slice.PartMut.{put_mid}

abbrev pub zeros : List ℕ
zeros = 48 ∷ 48 ∷ 48 ∷ 48 ∷ 48 ∷ 48 ∷ 48 ∷ 48 ∷ []

-- the digits, after zeros to make eight
pub hex_number_is : (text : List ℕ) → false ≡ (length text == 0) → length text ≤ 5
    → raw_word (put_mid (8 - length text) (8 - (8 - length text)) zeros text) ≡ hex_number text
unfolding raw_word
hex_number_is [] some most = cc
hex_number_is (a ∷ []) some most = refl
hex_number_is (a ∷ b ∷ []) some most = refl
hex_number_is (a ∷ b ∷ c ∷ []) some most = refl
hex_number_is (a ∷ b ∷ c ∷ d ∷ []) some most = refl
hex_number_is (a ∷ b ∷ c ∷ d ∷ e ∷ []) some most = refl
hex_number_is (a ∷ b ∷ c ∷ d ∷ e ∷ f ∷ fs) some most = absurd (omega arith)
