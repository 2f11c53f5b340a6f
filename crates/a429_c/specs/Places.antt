-- What a call finds in the memory of a program in C (vocabulary of contracts).
use Rattle.std.specs.Prelude.{◌≡◌, ℕ, Result}
use Rattle.a429_c.specs.Calls.{text_after, text_in}
use Rattle.a429_c.specs.Openings.{PublicationMemory}
use Rattle.a429_c.specs.declared.statuses.Status.{Status}
use Rattle.a429_c.specs.declared.station.StationHandle.{StationHandle}

abbrev pub found_in : StationHandle → ℕ → PublicationMemory
found_in station number = record { held = station.handle.held; number = number; refusal_text = text_in station.refusal_text }

-- the text of a refusal is kept, or that of an earlier one stays
abbrev pub KeepsText : {X : Type 0} → Result X Status → StationHandle → StationHandle → Type 0
KeepsText outcome before after = text_in after.refusal_text ≡ text_after outcome (text_in before.refusal_text)
