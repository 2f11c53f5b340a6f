-- A table of TOML that is built key by key, from the last key to the first (TOML).
use Rattle.std.specs.Prelude.{◌≡◌, ℕ, List, codes, Option, Result, OnOk, true}
use Rattle.toml.specs.Data.{Data, Members, is_before, member}
use Rattle.a429_import.specs.ImportTables.{with_filters, with_hold}

-- if the call succeeds and the key comes before the others, the table has this key added at its front
abbrev pub Puts : {T E : Type 0} → Result T E → Members → Members → List ℕ → Data → Type 0
Puts result old new key value = OnOk result (is_before key old ≡ true → new ≡ member key value old)

-- the same for the filters of a receiver, if there are any
abbrev pub PutsFilters : {T E : Type 0} → Result T E → Members → Members → List (List ℕ) → Type 0
PutsFilters result old new words = OnOk result (is_before (codes "filters") old ≡ true → new ≡ with_filters words old)

-- the same for a hold, if there is one
abbrev pub PutsHold : {T E : Type 0} → Result T E → Members → Members → Option ℕ → Type 0
PutsHold result old new hold = OnOk result (is_before (codes "hold") old ≡ true → new ≡ with_hold hold old)
