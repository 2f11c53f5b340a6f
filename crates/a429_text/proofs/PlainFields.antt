-- A field without a control character is shown as it is.
use Rattle.std.proofs.Common.{◌≡◌, ◌∙◌, ap, refl, false, ℕ, List, [], ◌∷◌, ◌++◌}
use Rattle.std.specs.Prelude.{◌==◌, ◌||◌, if◌then◌else◌, nat_lt}
use Rattle.std.specs.List.{list_any}
use Rattle.std.proofs.lemmas.Bool.{or_parts}
use Rattle.a429_text.specs.Aligned.{is_control, shown, shown_byte}

byte_as_it_is : (byte : ℕ) → is_control byte ≡ false → shown_byte byte ≡ byte ∷ []
byte_as_it_is byte plain =
    let parts = or_parts (nat_lt byte 32) (byte == 127) plain in
    rw (parts.0, parts.1) refl

pub shown_as_it_is : (field : List ℕ) → list_any is_control field ≡ false → shown field ≡ field
shown_as_it_is [] plain = refl
shown_as_it_is (byte ∷ field) plain =
    let parts = or_parts (is_control byte) (list_any is_control field) plain in
    ap (λ (shown_here : List ℕ). shown_here ++ shown field) (byte_as_it_is byte parts.0) ∙ ap (λ (rest : List ℕ). byte ∷ rest) (shown_as_it_is field parts.1)
