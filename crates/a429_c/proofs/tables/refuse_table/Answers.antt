use Rattle.std.proofs.Common.{rules, ◌∙◌, refl, ap, inl, inr}
use Rattle.a429_console.specs.declared.refusals.CommandRefusal.TheVariants.{Memory}
use Rattle.a429_c.specs.Calls.{kept_text}
use Rattle.a429_c.specs.declared.tables.TableRefusal.TheVariants.{Call, Table}
use Rattle.a429_c.proofs.tables.refuse_table.Goals as goal

pub returns-in-Call : goal.returns-in-Call
returns-in-Call c = rw c.in-Call.is (Call c.in-Call.status, refl, (c.refuse.ensures.status, c.refuse.ensures.refusal_text))

pub returns-in-Ok : goal.returns-in-Ok
returns-in-Ok c = rw c.in-Table.is (Table c.in-Table.refusal, inl refl, (c.table_code.ensures, c.keep.ensures ∙ ap kept_text (c.deref.ensures.value ∙ search rules)))

pub returns : goal.returns
returns c = rw c.in-Table.is (Table Memory, inr refl, (c.refuse-in-Err.ensures.status, c.refuse-in-Err.ensures.refusal_text))
