use Rattle.std.proofs.Common.{◌≡◌, ◌∙◌, ℕ, List, [], ◌∷◌, ◌+◌, true, suc, length, not, cond, refl, ap, sym, arith, rules}
use Rattle.std.specs.Prelude.{None}
use Rattle.std.specs.List.{list_all, prefix_len}
use Rattle.std.proofs.lemmas.Bool.{and_parts}
use Rattle.std.proofs.lemmas.Bool.Decides.{nat_tests}
use Rattle.a429_line.specs.LineBytes.{is_line_byte, first_bad_byte}
use Rattle.a429_line.proofs.line_bytes.first_bad_byte.Goals as goal

all_passed : (bs : List ℕ) → list_all is_line_byte bs ≡ true → prefix_len (λ b. not (not (is_line_byte b))) bs ≡ length bs
all_passed [] h = refl
all_passed (b ∷ bs) h =
    let parts = and_parts (is_line_byte b) (list_all is_line_byte bs) h in
    ap (λ t. cond (not (not t)) (1 + prefix_len (λ b. not (not (is_line_byte b))) bs) 0) parts.0 ∙ (ap (λ n. 1 + n) (all_passed bs parts.1) ∙ one_more (length bs))
  where
    one_more : (n : ℕ) → 1 + n ≡ suc n
    one_more n = omega arith

none_bad : (bs : List ℕ) → list_all is_line_byte bs ≡ true → first_bad_byte bs ≡ None
unfolding first_bad_byte
none_bad bs h = let e = all_passed bs h in grind (arith, nat_tests)

pub returns-then-are_line_bytes : goal.returns-then-are_line_bytes
returns-then-are_line_bytes c = let h : list_all is_line_byte c.args.bytes.now ≡ true = search rules in sym (none_bad c.args.bytes.now h)
