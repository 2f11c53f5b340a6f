-- Two names of a table are two names in the header of C.
use Rattle.std.proofs.Common.{◌≡◌, ℕ, ◌+◌, ◌==◌, List, [], ◌∷◌, ◌∙◌, ap, ap₂, sym, refl, arith, map}
use Rattle.std.specs.Prelude.{IsTrue, if◌then◌else◌, nat_lt}
use Rattle.std.specs.List.{list_all}
use Rattle.std.proofs.lemmas.Bool.{and_parts}
use Rattle.std.proofs.lemmas.Bool.Decides.{nat_tests}
use Rattle.a429_equipment.specs.NameForm.{is_name, is_name_byte}
use Rattle.a429_documents.specs.SlotNames.{SlotNamesDiffer, array_byte, macro_byte}

-- a byte of a name, by that of its macro and by that of its array
macro_back : ℕ → ℕ
macro_back b = if b == 95 then 45 else if b == 117 then 95 else if nat_lt b 65 then b else b + 32

array_back : ℕ → ℕ
array_back b = if b == 95 then 45 else if b == 85 then 95 else b

macro_is : (b : ℕ) → IsTrue (is_name_byte b) → macro_back (macro_byte b) ≡ b
unfolding macro_back
macro_is b is = grind (arith, nat_tests)

array_is : (b : ℕ) → IsTrue (is_name_byte b) → array_back (array_byte b) ≡ b
unfolding array_back
array_is b is = grind (arith, nat_tests)

-- a list, by what each element becomes
all_back : (f g : ℕ → ℕ) → ((b : ℕ) → IsTrue (is_name_byte b) → g (f b) ≡ b) → (bs : List ℕ) → IsTrue (list_all is_name_byte bs) → map g (map f bs) ≡ bs
all_back f g back [] all = refl
all_back f g back (b ∷ bs) all =
    let parts = and_parts (is_name_byte b) (list_all is_name_byte bs) all in
    ap₂ (λ (x : ℕ) (xs : List ℕ). x ∷ xs) (back b parts.0) (all_back f g back bs parts.1)

bytes_of_name : (a : List ℕ) → IsTrue (is_name a) → IsTrue (list_all is_name_byte a)
unfolding is_name
bytes_of_name a is = (and_parts _ (list_all is_name_byte a) is).1

apart : (f g : ℕ → ℕ) → ((b : ℕ) → IsTrue (is_name_byte b) → g (f b) ≡ b) → (a b : List ℕ) → IsTrue (is_name a) → IsTrue (is_name b) → map f a ≡ map f b → a ≡ b
apart f g back a b one other same =
    sym (all_back f g back a (bytes_of_name a one)) ∙ ap (map g) same ∙ all_back f g back b (bytes_of_name b other)

pub slot_names_differ : SlotNamesDiffer
slot_names_differ a b one other = (apart macro_byte macro_back macro_is a b one other, apart array_byte array_back array_is a b one other)
