-- The fields of an interface control document have no blanks round them.
use Rattle.std.proofs.Common.{◌≡◌, ℕ, zero, suc, ◌+◌, ◌-◌, ◌<◌, ◌^◌, ◌%◌, Bool, true, false, List, [], ◌∷◌, ◌++◌, ap₂, arith, inl, inr, length, ne_eqb, refl, eqb-true}
use Rattle.std.specs.Prelude.{◌==◌, ◌||◌, ◌&&◌, if◌then◌else◌, nat_le, slice_index_or}
use Rattle.std.specs.Fmt.{decimal}
use Rattle.std.specs.List.{AllByRecursion, list_all}
use Rattle.std.proofs.lemmas.Bool.{and_parts, leb-true}
use Rattle.std.proofs.lemmas.Fmt.{decimal_by_steps}
use Rattle.a429_word.specs.Texts.{octal}
use Rattle.a429_word.proofs.Lists.{or_parts}
use Rattle.a429_equipment.specs.NameForm.{is_name, is_name_byte}
use Rattle.a429_import.specs.ImportWords.{back_blank, blank_from, blank_to, byte_before_end, front_blank, has_no_blank, is_blank, trimmed}
use Rattle.a429_import.proofs.Trimmed.{field_stays}

-- a byte is of no blank
abbrev IsOfNone : ℕ → Type 0
IsOfNone b = (is_blank b ≡ false) × (b < 128)

no_blank_from : (a b c : ℕ) → IsOfNone a → blank_from a b c ≡ 0
no_blank_from a b c none = rw (none.0, ne_eqb a 194 (λ same. omega (arith, same, none.1)), ne_eqb a 226 (λ same. omega (arith, same, none.1))) refl

no_blank_to : (a b c : ℕ) → IsOfNone a → IsOfNone b → IsOfNone c → blank_to a b c ≡ 0
no_blank_to a b c first second third =
    rw (third.0, ne_eqb b 194 (λ same. omega (arith, same, second.1)), ne_eqb a 226 (λ same. omega (arith, same, first.1))) refl

-- bytes that are seen: ASCII, above the space
abbrev pub AreVisible : List ℕ → Type 0
AreVisible field = AllByRecursion (λ b. (32 < b) × (b < 128)) field

seen : (b : ℕ) → 32 < b → b < 128 → IsOfNone b
seen b above below = (
  rw (ne_eqb b 32 (λ same. omega (arith, same, above)), ne_eqb b 9 (λ same. omega (arith, same, above)), ne_eqb b 10 (λ same. omega (arith, same, above)), ne_eqb b 13 (λ same. omega (arith, same, above))) refl,
  below,
)

seen_at : (field : List ℕ) → AreVisible field → (i : ℕ) → IsOfNone (slice_index_or field i 0)
seen_at [] h i = (refl, omega arith)
seen_at (b ∷ field) h zero = seen b h.0.0 h.0.1
seen_at (b ∷ field) h (suc i) = seen_at field h.1 i

seen_before : (field : List ℕ) → AreVisible field → (count : ℕ) → IsOfNone (byte_before_end field count)
seen_before field h count = by (nat_le count (length field))
  where
    by : (b : Bool) → IsOfNone (if b then slice_index_or field (length field - count) 0 else 0)
    by true = seen_at field h (length field - count)
    by false = (refl, omega arith)

no_blank : (field : List ℕ) → AreVisible field → has_no_blank field ≡ true
no_blank field h =
    let front : front_blank field ≡ 0 = no_blank_from (slice_index_or field 0 0) (slice_index_or field 1 0) (slice_index_or field 2 0) (seen_at field h 0) in
    let back : back_blank field ≡ 0 =
    no_blank_to (byte_before_end field 3) (byte_before_end field 2) (byte_before_end field 1) (seen_before field h 3) (seen_before field h 2) (seen_before field h 1) in
    ap₂ (λ (m n : ℕ). (m == 0) && (n == 0)) front back

pub visible_stays : (field : List ℕ) → AreVisible field → trimmed field ≡ field
visible_stays field h = field_stays field (no_blank field h)

-- ---- numbers, labels and names

one_more : (ds : List ℕ) (d : ℕ) → AreVisible ds → 32 < d → d < 128 → AreVisible (ds ++ d ∷ [])
one_more [] d h above below = ((above, below), tt)
one_more (b ∷ ds) d h above below = (h.0, one_more ds d h.1 above below)

pub number_stays : (n : ℕ) → n < 2 ^ 32 → trimmed (decimal n) ≡ decimal n
number_stays n small =
    visible_stays (decimal n) (decimal_by_steps (λ m ds. AreVisible ds) (λ m few. ((omega arith, omega (arith, few)), tt)) (λ m ds many h. one_more ds (48 + m % 10) h (omega arith) (omega arith)) n (omega (arith, small)))

pub label_stays : (label : ℕ) → label < 256 → trimmed (octal label) ≡ octal label
label_stays label small = visible_stays (octal label) ((omega arith, omega (arith, small)), ((omega arith, omega arith), ((omega arith, omega arith), tt)))

name_byte : (b : ℕ) → is_name_byte b ≡ true → (32 < b) × (b < 128)
name_byte b h = elim (or_parts ((nat_le 97 b && nat_le b 122) || (nat_le 48 b && nat_le b 57)) (b == 45 || b == 95) h) [
  | inl either ↦ elim (or_parts (nat_le 97 b && nat_le b 122) (nat_le 48 b && nat_le b 57) either) [
    | inl letter ↦ let parts = and_parts (nat_le 97 b) (nat_le b 122) letter in (omega (arith, leb-true 97 b parts.0), omega (arith, leb-true b 122 parts.1))
    | inr digit ↦ let parts = and_parts (nat_le 48 b) (nat_le b 57) digit in (omega (arith, leb-true 48 b parts.0), omega (arith, leb-true b 57 parts.1))
  ]
  | inr either ↦ elim (or_parts (b == 45) (b == 95) either) [
    | inl dash ↦ (omega (arith, eqb-true b 45 dash), omega (arith, eqb-true b 45 dash))
    | inr line ↦ (omega (arith, eqb-true b 95 line), omega (arith, eqb-true b 95 line))
  ]
]

pub name_bytes : (bytes : List ℕ) → list_all is_name_byte bytes ≡ true → AreVisible bytes
name_bytes [] h = tt
name_bytes (b ∷ bytes) h = let parts = and_parts (is_name_byte b) (list_all is_name_byte bytes) h in (name_byte b parts.0, name_bytes bytes parts.1)

pub name_stays : (name : List ℕ) → is_name name ≡ true → trimmed name ≡ name
unfolding is_name
name_stays name h = visible_stays name (name_bytes name (and_parts (nat_le 1 (length name) && nat_le (length name) 16) (list_all is_name_byte name) h).1)
