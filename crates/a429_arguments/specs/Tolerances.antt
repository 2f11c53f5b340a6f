-- The texts of `--tolerance`, which say how far recorded times may be wrong (profile: docs/FORMATS.md, Output of `judge`): US is for all groups, and
-- GROUP=US for the group of this name.
use Rattle.std.specs.Prelude.{◌≡◌, ℕ, Bool, true, false, ◌&&◌, ◌||◌, not, ◌==◌, List, [], ◌∷◌, Option, None, Some, codes, if◌then◌else◌, is_some, length, option_map}
use Rattle.std.specs.List.{list_all}
use Rattle.std.specs.Option.{option_or}
use Rattle.std.specs.Str.{bytes_eq}
use Rattle.clap.specs.Words.{Text}
use Rattle.a429_arguments.specs.CommandLine.{most_tolerance, number_up_to}
use Rattle.a429_text.specs.Renames.{halves, has_one_from_twice}

-- GROUP of a text GROUP=US: the part before the last '='; a text US has none
abbrev pub tolerance_group : Text → Option Text
tolerance_group text = option_map (λ p. p.0) (halves text)

-- the microseconds of US: a whole number up to the most
abbrev pub microseconds_of : Text → Option ℕ
microseconds_of text = number_up_to most_tolerance text

-- ---- the number for a group

-- the number that a text gives the group of this name alone, or all groups, by its two parts if it is GROUP=US
abbrev pub number_by : Option Text → Text → Option (Text × Text) → Option ℕ
number_by (Some name) text (Some p) = if bytes_eq p.0 name then microseconds_of p.1 else None
number_by None text None = microseconds_of text
number_by _ text _ = None

abbrev pub number_for : Option Text → Text → Option ℕ
number_for group text = number_by group text (halves text)

-- that of the first text that gives one
abbrev pub first_number : Option Text → List Text → Option ℕ
first_number group [] = None
first_number group (text ∷ texts) = option_or (number_for group text) (first_number group texts)

-- the number that these texts give the group of this name: its own one, and if there is none that of all groups
abbrev pub tolerance_for : List Text → Text → Option ℕ
tolerance_for texts name = option_or (first_number (Some name) texts) (first_number None texts)

-- ---- which texts can be given

-- a text is GROUP=US with a byte in GROUP, by these two parts, or US
abbrev pub is_tolerance_by : Text → Option (Text × Text) → Bool
is_tolerance_by text None = is_some (microseconds_of text)
is_tolerance_by text (Some p) = not (length p.0 == 0) && is_some (microseconds_of p.1)

abbrev pub is_tolerance : Text → Bool
is_tolerance text = is_tolerance_by text (halves text)

-- two of the texts are for all groups, or one is and another one was before them
abbrev pub is_general_again : Bool → List Text → Bool
is_general_again seen [] = false
is_general_again seen (text ∷ texts) = if is_some (tolerance_group text) then is_general_again seen texts else (seen || is_general_again true texts)

-- texts can be given together: each is US or GROUP=US, and no two are for one group, or for all groups
abbrev pub are_tolerances : List Text → Bool
are_tolerances texts = list_all is_tolerance texts && (not (has_one_from_twice texts) && not (is_general_again false texts))

-- ---- examples

-- texts, and the numbers of groups by them
pub record TolerancesAreFor : Type 0 where
  pub own : tolerance_for (codes "500" ∷ codes "engine=2000" ∷ []) (codes "engine") ≡ Some 2000
  pub general : tolerance_for (codes "500" ∷ codes "engine=2000" ∷ []) (codes "air") ≡ Some 500
  -- the order of the two does not count
  pub order : tolerance_for (codes "engine=2000" ∷ codes "500" ∷ []) (codes "engine") ≡ Some 2000
  pub other : tolerance_for (codes "engine=2000" ∷ []) (codes "air") ≡ None
  pub nothing : tolerance_for [] (codes "air") ≡ None
  pub zero : tolerance_for (codes "500" ∷ codes "engine=0" ∷ []) (codes "engine") ≡ Some 0
  -- the last '=' counts
  pub marks : tolerance_for (codes "a=b=500" ∷ []) (codes "a=b") ≡ Some 500
  -- the whole name, and each letter as it is
  pub part : tolerance_for (codes "engine=500" ∷ []) (codes "engine-2") ≡ None
  pub small : tolerance_for (codes "A=500" ∷ []) (codes "a") ≡ None
  -- a text without a number gives none
  pub no_number : tolerance_for (codes "engine=x" ∷ codes "500" ∷ []) (codes "engine") ≡ Some 500
  pub high : tolerance_for (codes "30000001" ∷ []) (codes "engine") ≡ None

-- the groups of texts
pub record NamesGroup : Type 0 where
  pub own : tolerance_group (codes "engine=2000") ≡ Some (codes "engine")
  pub marks : tolerance_group (codes "a=b=500") ≡ Some (codes "a=b")
  pub general : tolerance_group (codes "500") ≡ None

-- texts of the form, and others
pub record HasToleranceForm : Type 0 where
  pub general : is_tolerance (codes "500") ≡ true
  pub own : is_tolerance (codes "engine=2000") ≡ true
  pub marks : is_tolerance (codes "a=b=0") ≡ true
  pub most : is_tolerance (codes "30000000") ≡ true
  pub high : is_tolerance (codes "engine=30000001") ≡ false
  pub no_number : is_tolerance (codes "engine=") ≡ false
  pub no_group : is_tolerance (codes "=500") ≡ false
  pub part : is_tolerance (codes "1.5") ≡ false
  pub name : is_tolerance (codes "engine") ≡ false
  pub nothing : is_tolerance [] ≡ false

-- texts that can be given together, and others
pub record FitTogether : Type 0 where
  pub each : are_tolerances (codes "500" ∷ codes "engine=0" ∷ codes "air=2000" ∷ []) ≡ true
  pub own_again : are_tolerances (codes "engine=500" ∷ codes "air=0" ∷ codes "engine=2000" ∷ []) ≡ false
  pub equal : are_tolerances (codes "engine=500" ∷ codes "engine=500" ∷ []) ≡ false
  pub general_again : are_tolerances (codes "500" ∷ codes "engine=0" ∷ codes "2000" ∷ []) ≡ false
  pub one_wrong : are_tolerances (codes "500" ∷ codes "engine=x" ∷ []) ≡ false
  pub nothing : are_tolerances [] ≡ true
