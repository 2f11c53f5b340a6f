-- What is answered about a digit that was looked up.
use Rattle.std.proofs.Common.{◌≡◌, ◌∙◌, ◌-◌, ℕ, Bool, cond, Option, Some, ap, sym}
use Rattle.std.specs.Char.{is_ascii_digit}
use Rattle.a429_import.specs.ImportFields.{digit_of}

pub digit_is : (o : Option ℕ) (byte : ℕ) (is_digit : Bool) → o ≡ Some byte → is_digit ≡ is_ascii_digit byte → cond is_digit (byte - 48) 0 ≡ digit_of o
digit_is o byte is_digit there is = ap (λ b. cond b (byte - 48) 0) is ∙ sym (ap digit_of there)
