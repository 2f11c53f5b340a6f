-- What a call writes at the end of a text or of a list (vocabulary of contracts).
use Rattle.std.specs.Prelude.{◌≡◌, ◌++◌, ℕ, List, Result, String, OnOk, string_bytes}

-- if the call succeeds, these bytes are added at the end of the text
abbrev pub Writes : {A T E : Type 0} → Result T E → String A → String A → List ℕ → Type 0
Writes result old new bytes = OnOk result (string_bytes new ≡ string_bytes old ++ bytes)

-- the same of bytes of which this is known
abbrev pub WritesSuch : {A T E : Type 0} → Result T E → String A → String A → (List ℕ → Type 0) → Type 0
WritesSuch result old new IsSuch = OnOk result ((bytes : List ℕ) × IsSuch bytes × (string_bytes new ≡ string_bytes old ++ bytes))

-- if the call succeeds, these items are added at the end of the list
abbrev pub Gains : {X T E : Type 0} → Result T E → List X → List X → List X → Type 0
Gains result old new items = OnOk result (new ≡ old ++ items)
