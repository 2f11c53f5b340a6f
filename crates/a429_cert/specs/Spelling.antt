-- How the lines of a plan text are spelled (profile: docs/FORMATS.md, Plan text).
use Rattle.std.specs.Prelude.{ℕ, ◌^◌, ◌<◌, ◌≡◌, List, ◌++◌, codes, length, ◌||◌, ◌==◌, Bool, false, Option, Some, None, is_some, IfSome, if◌then◌else◌}
use Rattle.std.specs.List.{AllByRecursion}
use Rattle.std.specs.Fmt.{decimal}

abbrev pub when : {A : Type 0} → Bool → A → Option A
when b x = if b then Some x else None

-- whether a text of this version says each group's bit rate and each output's hold (profile: plan text, versions 1 and
-- 2)
abbrev pub says_more : ℕ → Bool
says_more version = version == 2

-- what only such a text says, as a text of this version says it
abbrev pub said_in : {A : Type 0} → ℕ → A → Option A
said_in version x = when (says_more version) x

-- what a group's first line says
pub record Heading : Type 0 where
  pub name : List ℕ
  -- in bit/s; none if the text leaves it out
  pub rate : Option ℕ
  pub frame : ℕ
  pub buses : ℕ

-- what the line of an output says
pub record Listing : Type 0 where
  pub source : List ℕ
  pub period : ℕ
  pub bus : ℕ
  pub offset : ℕ
  -- a number, or that there is no limit; none if the text leaves it out
  pub hold : Option (Option ℕ)

-- what a group's last line says
pub record Bounding : Type 0 where
  pub demand : ℕ
  pub full_buses : ℕ
  pub frame : ℕ

abbrev pub version_text : ℕ → List ℕ
version_text version = codes "plan " ++ (decimal version ++ codes "\n")

abbrev pub rate_text : ℕ → List ℕ
rate_text rate = codes "rate " ++ (decimal rate ++ codes "\n")

-- the bit rate, if it is said, before the rest of a line
abbrev pub rate_before : Option ℕ → List ℕ → List ℕ
rate_before None rest = rest
rate_before (Some rate) rest = codes " rate " ++ (decimal rate ++ rest)

-- a number, or that there is no limit
abbrev pub limit_text : Option ℕ → List ℕ
limit_text None = codes "none"
limit_text (Some limit) = decimal limit

-- the hold, if it is said, before the rest of a line
abbrev pub hold_before : Option (Option ℕ) → List ℕ → List ℕ
hold_before None rest = rest
hold_before (Some hold) rest = codes " hold " ++ (limit_text hold ++ rest)

abbrev pub group_text : Heading → List ℕ
group_text h =
    codes "group " ++ (h.name ++ rate_before h.rate (codes " frame " ++ (decimal h.frame
    ++ (codes " buses " ++ (decimal h.buses ++ codes "\n")))))

abbrev pub output_text : Listing → List ℕ
output_text l =
    codes "output " ++ (l.source ++ (codes " period " ++ (decimal l.period ++ (codes " bus " ++ (decimal l.bus
    ++ (codes " offset " ++ (decimal l.offset ++ hold_before l.hold (codes "\n"))))))))

abbrev pub bound_text : Bounding → List ℕ
bound_text b = codes "bound " ++ (decimal b.demand ++ (codes " > " ++ (decimal b.full_buses ++ (codes " * " ++ (decimal b.frame ++ codes "\n")))))

-- a space or a line feed
abbrev pub is_break : ℕ → Bool
is_break b = (b == 32) || (b == 10)

-- one byte or more, and neither a space nor a line feed among them
pub record IsWord (w : List ℕ) : Type 0 where
  pub some_byte : 0 < length w
  pub unbroken : AllByRecursion (λ b. is_break b ≡ false) w

-- at most ten digits
abbrev pub IsShort : ℕ → Type 0
IsShort n = n < 10 ^ 10

-- at most ten digits, if it is a number
abbrev pub IsShortLimit : Option ℕ → Type 0
IsShortLimit limit = IfSome limit IsShort

-- it is said if and only if a text of this version says more, and P is true of it
pub record IsPart {A : Type 0} (version : ℕ) (P : A → Type 0) (said : Option A) : Type 0 where
  pub there : is_some said ≡ says_more version
  pub holds : IfSome said P

pub record FitsHeading (version : ℕ) (h : Heading) : Type 0 where
  pub name : IsWord h.name
  pub rate : IsPart version IsShort h.rate
  pub frame : IsShort h.frame
  pub buses : IsShort h.buses

pub record FitsListing (version : ℕ) (l : Listing) : Type 0 where
  pub source : IsWord l.source
  pub period : IsShort l.period
  pub bus : IsShort l.bus
  pub offset : IsShort l.offset
  pub hold : IsPart version IsShortLimit l.hold

pub record FitsBounding (b : Bounding) : Type 0 where
  pub demand : IsShort b.demand
  pub full_buses : IsShort b.full_buses
  pub frame : IsShort b.frame
