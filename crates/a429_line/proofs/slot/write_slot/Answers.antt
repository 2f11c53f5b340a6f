use Rattle.std.proofs.Common.{◌∙◌, sym, ap, subst, ◌++◌, ◌∷◌, [], List, Some, append-nil}
use Rattle.std.specs.Prelude.{IsTrue}
use Rattle.a429_word.specs.Bits.{has_odd_parity}
use Rattle.a429_line.specs.Reports.{reports}
use Rattle.a429_line.specs.Slots.{slot}
use Rattle.a429_line.specs.declared.found.Symbol.{Symbol}
use Rattle.a429_line.specs.declared.found.Symbol.TheVariants.{Null}
use Rattle.a429_line.proofs.Slots.{slot_reported, word_slot, empty_slot}
use Rattle.a429_line.proofs.slot.write_slot.Goals as goal

pub returns-in-Some-clause-slot : goal.returns-in-Some-clause-slot
unfolding slot
returns-in-Some-clause-slot c =
    ap (λ (bits : List Symbol). Null ∷ Null ∷ Null ∷ Null ∷ bits) (append-nil c.write_bits.new.symbols ∙ c.write_bits.ensures)
    ∙ ap slot (sym (c.in-Some.is ∙ ap Some (sym c.raw.ensures.raw)))

pub returns-in-Some-clause-read : goal.returns-in-Some-clause-read
returns-in-Some-clause-read c x =
    slot_reported _ c.args.word x (returns-in-Some-clause-slot c) (rw c.in-Some.is (rw (← c.raw.ensures.raw) (word_slot x c.raw.result c.raw.type_inv (subst (λ n. IsTrue (has_odd_parity n)) (sym c.raw.ensures.raw) c.raw.ensures.odd))))

pub returns-in_default-clause-slot : goal.returns-in_default-clause-slot
unfolding slot
returns-in_default-clause-slot c = ap slot (sym c.in_default.is)

pub returns-in_default-clause-read : goal.returns-in_default-clause-read
returns-in_default-clause-read c x = slot_reported _ c.args.word x (returns-in_default-clause-slot c) (rw c.in_default.is (empty_slot x ∙ sym (append-nil (reports (x ++ Null ∷ [])))))
