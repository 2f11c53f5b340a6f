use Rattle.std.proofs.Common.{◌≡◌, ℕ, [], ◌∷◌, ◌++◌, None, Option, List, IsSome, take, refl, sym, ap, ◌∙◌, subst, arith, inl, inr}
use Rattle.std.specs.Prelude.{unwrap_or}
use Rattle.std.proofs.lemmas.Bool.{cases_lt}
use Rattle.std.proofs.lemmas.List.{get_or_read}
use Rattle.a429_pack.specs.declared.entry.Entry.{Entry}
use Rattle.a429_pack.specs.declared.demands.Demand.{Demand}
use Rattle.a429_pack.specs.Demands.{demand_at, exponent_of}
use Rattle.a429_pack.specs.Entries.{entry_of, entries_from}
use Rattle.a429_pack.proofs.Entries.{entries_more}
use Rattle.a429_pack.proofs.packing.entries.Goals as goal

abbrev entry : ℕ → ℕ → Option ℕ → ℕ → Entry
entry exponent label sdi input = record { exponent = exponent; label = label; sdi = sdi; input = input }

pub loop-input-preserved : goal.loop-input-preserved
loop-input-preserved c =
    let ds : List Demand = c.args.demands.now in
    let i : ℕ = c.loop-input.input in
    let d : Demand = c.index-demands-input.result in
    let exponent : c.digits.result ≡ exponent_of d = c.digits.ensures.value ∙ sym (ap (λ p. unwrap_or p 0) c.in-Some.is) in
    let value : entry c.digits.result c.value.result c.sdi_number.result i ≡ entry_of i d =
    ap (λ x. entry x c.value.result c.sdi_number.result i) exponent
    ∙ ap (λ x. entry (exponent_of d) x c.sdi_number.result i) c.value.ensures
    ∙ ap (λ x. entry (exponent_of d) d.label x i) c.sdi_number.ensures in
    let there : demand_at ds i ≡ d = sym (get_or_read ds i d c.loop-input-test.true c.index-demands-input.is (record { period = None; label = 0; sdi = None })) in
    record {
      items = c.in_ok-push.ensures.items
          ∙ ap (λ es. es ++ entry c.digits.result c.value.result c.sdi_number.result i ∷ []) c.loop-input.invariant.items
          ∙ ap (λ e. entries_from 0 (take i ds) ++ e ∷ []) (value ∙ ap (entry_of i) c.index-demands-input.is)
          ∙ sym (entries_more ds i d c.loop-input-test.true);
      fit = λ k below. elim (cases_lt k i) [
        | inl before ↦ c.loop-input.invariant.fit k before
        | inr last ↦
            let same : k ≡ i = omega arith in
            subst (λ (p : Option ℕ). IsSome p) (sym (ap (λ n. (demand_at ds n).period) same ∙ ap (λ x. x.period) there ∙ c.in-Some.is)) refl
      ];
    }
