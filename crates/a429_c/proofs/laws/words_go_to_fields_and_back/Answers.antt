use Rattle.std.proofs.Common.{ap}
use Rattle.std.specs.Prelude.{Ok}
use Rattle.a429_word.specs.Bits.{bit}
use Rattle.a429_c.proofs.laws.words_go_to_fields_and_back.Goals as goal

pub returns-clause-fields : goal.returns-clause-fields
returns-clause-fields c label sdi value ssm word h = rw h.0 (ap Ok (λ i. record { value = h.3 i; label = h.1 i; sdi = h.2 i; ssm = h.4 i; parity = bit 32 word }))

pub returns-clause-words : goal.returns-clause-words
returns-clause-words c v w v_small w_small odd h = c.fields_determine_word.ensures w v w_small v_small h.0 odd h.1 h.2 h.3 h.4
