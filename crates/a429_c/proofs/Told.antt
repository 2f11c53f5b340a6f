-- What is put for a refusal of a table is a refusal of it too.
use Rattle.std.proofs.Common.{ℕ, List, inl, inr, subst, sym}
use Rattle.std.specs.Prelude.{Option}
use Rattle.a429_console.specs.declared.refusals.CommandRefusal.{CommandRefusal}
use Rattle.a429_c.specs.Openings.{IsNoOpening, IsPutFor}
use Rattle.a429_c.specs.declared.tables.TableRefusal.{TableRefusal}
use Rattle.a429_c.specs.declared.tables.TableRefusal.TheVariants.{Call, Table}

pub put_opening : (table : List ℕ) (plan : Option (List ℕ)) (first : ℕ) (why put : TableRefusal) → IsNoOpening table plan first why → IsPutFor why put → IsNoOpening table plan first put
put_opening table plan first (Call status) put is same = subst (IsNoOpening table plan first) (sym same) is
put_opening table plan first (Table refusal) (Table told) is (inl same) = subst (λ (r : CommandRefusal). IsNoOpening table plan first (Table r)) (sym same) is
put_opening table plan first (Table refusal) (Table told) is (inr memory) = subst (λ (r : CommandRefusal). IsNoOpening table plan first (Table r)) (sym memory) (is.0, tt)
put_opening table plan first (Table refusal) (Call status) is same = absurd same
