-- Each step on what is shown keeps its rule.
use Rattle.std.proofs.Common.{◌≡◌, ◌≢◌, ℕ, List, [], ◌∷◌, ◌++◌, set, true, refl, sym, ap, ◌∙◌, subst, ⊎_elim}
use mathlib.Core.Option.{some, some-ne-none}
use lib.ListN.{get_elem?}
use Rattle.crossbeam_utils.specs.Register.{Admits, TurnsAt, Forks, Merges}
use Rattle.atomic_table.proofs.Lists.{at_set, at_snoc}
use Rattle.logbook.specs.Pages.{Book}
use Rattle.a429_board.specs.declared.rule.Shown.{Shown}
use Rattle.a429_board.specs.declared.rule.BookView.{BookView}
use Rattle.a429_board.specs.Showing.{Keeps, named, newcomer, knower, learns}

F : Book → BookView → Type 0
F b v = v.knows ≡ true → v.book ≡ named b

off : (b : Book) → F b newcomer
unfolding F
off b e = absurd (cc)

each_set : (b : Book) (views : List BookView) (seat : ℕ) (w : BookView) → ((j : ℕ) (u : BookView) → get_elem? views j ≡ some u → F b u) → F b w → (j : ℕ) (u : BookView) → get_elem? (set views seat w) j ≡ some u → F b u
each_set b views seat w others mine j u e =
    ⊎_elim (λ (x : (j ≡ seat) × (w ≡ u)). subst (F b) x.1 mine) (λ (x : (j ≢ seat) × (get_elem? views j ≡ some u)). others j u x.1) (at_set views seat j w u e)

each_snoc : (b : Book) (views : List BookView) (w : BookView) → ((j : ℕ) (u : BookView) → get_elem? views j ≡ some u → F b u) → F b w → (j : ℕ) (u : BookView) → get_elem? (views ++ w ∷ []) j ≡ some u → F b u
each_snoc b views w old new j u e = ⊎_elim (old j u) (λ (same : w ≡ u). subst (F b) same new) (at_snoc views w u j e)

pub starts : (x : Shown) → Keeps x (newcomer ∷ [])
unfolding F
starts x = each_snoc x.front.book [] newcomer (λ j u e. absurd (some-ne-none u (sym e))) (off x.front.book)

pub admits : Admits Keeps newcomer
unfolding F
admits x views h = each_snoc x.front.book views newcomer h (off x.front.book)

-- a step to a plan of the same book
pub turns : (seat : ℕ) (v : BookView) (x y : Shown) → y.front.book ≡ x.front.book → TurnsAt Keeps seat v x y learns
unfolding F
turns seat v x y same views h at =
    let now : (j : ℕ) (u : BookView) → get_elem? views j ≡ some u → F y.front.book u = λ j u e on. h j u e on ∙ ap named (sym same) in
    (knower y.front.book, each_set y.front.book views seat (knower y.front.book) now (λ _. refl), (refl, now seat v at))

pub forks : (seat : ℕ) (v : BookView) → Forks Keeps seat v v v
unfolding F
forks seat v x views h at = each_snoc x.front.book (set views seat v) v (each_set x.front.book views seat v h (h seat v at)) (h seat v at)

pub merges : (seat : ℕ) (v : BookView) (other : ℕ) (w : BookView) → Merges Keeps seat v other w w newcomer
unfolding F
merges seat v other w x views h at apart there =
    let known = ⊎_elim (λ (t : (other ≡ seat) × (w ≡ w)). absurd (apart t.0)) (λ (t : (other ≢ seat) × (get_elem? views other ≡ some w)). h other w t.1) (at_set views seat other w w there) in
    each_set x.front.book (set views seat w) other newcomer (each_set x.front.book views seat w h known) (off x.front.book)

-- one name, one book
pub one_book : (a b : Book) → named a ≡ named b → a ≡ b
one_book a b e i = record { number = (e i).number; log_name = (e i).log_name; cells_name = (e i).cells_name }
