-- Texts FROM=TO, each of which gives a name another name (profile: names in other files).
use Rattle.std.specs.Prelude.{◌≡◌, ℕ, Bool, true, false, ◌&&◌, ◌||◌, not, ◌==◌, List, [], ◌∷◌, Option, None, Some, codes, if◌then◌else◌, is_some, length, unwrap_or}
use Rattle.std.specs.List.{list_any}
use Rattle.std.specs.Path.{rsplit_once}
use Rattle.std.specs.Str.{bytes_eq}

-- the byte between FROM and TO: '='
abbrev pub rename_mark : ℕ
rename_mark = 61

-- FROM and TO: the parts before and after the last '=', if there is one
abbrev pub halves : List ℕ → Option (List ℕ × List ℕ)
halves text = rsplit_once rename_mark text

-- both have a byte
abbrev pub are_names : Option (List ℕ × List ℕ) → Bool
are_names None = false
are_names (Some p) = not (length p.0 == 0) && not (length p.1 == 0)

-- it has the form FROM=TO
abbrev pub is_rename : List ℕ → Bool
is_rename text = are_names (halves text)

-- TO, if this name is FROM
abbrev pub to_of : List ℕ → Option (List ℕ × List ℕ) → Option (List ℕ)
to_of name None = None
to_of name (Some p) = if bytes_eq p.0 name then Some p.1 else None

-- the other name that a text gives this name
abbrev pub taken_as : List ℕ → List ℕ → Option (List ℕ)
taken_as name text = to_of name (halves text)

-- the other name that these texts give a name: by the first one that gives it one; if none does, the name itself
abbrev pub renamed : List (List ℕ) → List ℕ → List ℕ
renamed [] name = name
renamed (text ∷ texts) name = unwrap_or (taken_as name text) (renamed texts name)

-- one of these texts has the same FROM
abbrev pub is_from_again : List (List ℕ) → Option (List ℕ × List ℕ) → Bool
is_from_again texts None = false
is_from_again texts (Some p) = list_any (λ text. is_some (taken_as p.0 text)) texts

-- two of them have the same FROM
abbrev pub has_one_from_twice : List (List ℕ) → Bool
has_one_from_twice [] = false
has_one_from_twice (text ∷ texts) = is_from_again texts (halves text) || has_one_from_twice texts

-- ---- examples

-- texts, and names by them
pub record RenamesNames : Type 0 where
  pub channel : renamed (codes "3=adc" ∷ codes "4=irs" ∷ []) (codes "4") ≡ codes "irs"
  pub other : renamed (codes "3=adc" ∷ codes "4=irs" ∷ []) (codes "5") ≡ codes "5"
  pub heading : renamed (codes "Min (ms)=min_ms" ∷ []) (codes "Min (ms)") ≡ codes "min_ms"
  -- the last '=' counts
  pub marks : renamed (codes "a=b=c" ∷ []) (codes "a=b") ≡ codes "c"
  -- the first text counts
  pub first : renamed (codes "3=adc" ∷ codes "3=irs" ∷ []) (codes "3") ≡ codes "adc"
  -- the whole name, and each letter as it is
  pub part : renamed (codes "3=adc" ∷ []) (codes "33") ≡ codes "33"
  pub small : renamed (codes "A=adc" ∷ []) (codes "a") ≡ codes "a"
  -- the other name is given no third one
  pub once : renamed (codes "3=4" ∷ codes "4=irs" ∷ []) (codes "3") ≡ codes "4"

-- texts of the form, and others
pub record HasForm : Type 0 where
  pub plain : is_rename (codes "3=adc") ≡ true
  pub marks : is_rename (codes "==c") ≡ true
  pub no_mark : is_rename (codes "adc") ≡ false
  pub no_from : is_rename (codes "=adc") ≡ false
  pub no_to : is_rename (codes "a=b=") ≡ false
  pub nothing : is_rename [] ≡ false

-- the same FROM twice, and FROMs that differ
pub record RepeatsFrom : Type 0 where
  pub twice : has_one_from_twice (codes "3=adc" ∷ codes "4=irs" ∷ codes "3=irs" ∷ []) ≡ true
  pub equal : has_one_from_twice (codes "3=adc" ∷ codes "3=adc" ∷ []) ≡ true
  pub one_to : has_one_from_twice (codes "3=adc" ∷ codes "4=adc" ∷ []) ≡ false
  pub other : has_one_from_twice (codes "3=adc" ∷ codes "3=4=adc" ∷ []) ≡ false
  pub nothing : has_one_from_twice [] ≡ false
