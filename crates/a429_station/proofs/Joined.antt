-- What joined threads did, place by place.
use Rattle.std.specs.Prelude.{◌≡◌, ℕ, suc, List, [], ◌∷◌, length, map}
use Rattle.std.specs.List.{AllZip, slice_index_or}
use Rattle.std.proofs.Common.{arith, refl, subst}
use Rattle.std.specs.PromisedHandle.{KeepsAt, KeepsEach}
use Rattle.core.specs.declared.thread.PromisedHandle.{PromisedHandle}
use Rattle.core.specs.declared.thread.Promise as Promise

module _ {T P W : Type 0} (g : Promise.Ghosts P T) (worker : P → W) (did : W → T → Type 0) (means : (p : P) (r : T) → g.kept_by p r → did (worker p) r) where
  kept_first : (h : PromisedHandle T P) (hs : List (PromisedHandle T P)) (r : T) → KeepsAt g (h ∷ hs) 0 r → did (worker h.promise) r
  kept_first h hs r k = means h.promise r (subst (λ x. g.kept_by x.promise r) k.handle_is k.kept)

  kept_later : (h : PromisedHandle T P) (hs : List (PromisedHandle T P)) (i : ℕ) (r : T) → KeepsAt g (h ∷ hs) (suc i) r → KeepsAt g hs i r
  kept_later h hs i r k = record { handle = k.handle; handle_is = k.handle_is; kept = k.kept }

  pub each_zipped : (hs : List (PromisedHandle T P)) (rs : List T) → length rs ≡ length hs → KeepsEach g (length hs) hs rs → AllZip did (map (λ h. worker h.promise) hs) rs
  each_zipped [] [] same each = tt
  each_zipped [] (r ∷ rs) same each = absurd (omega (arith, same))
  each_zipped (h ∷ hs) [] same each = absurd (omega (arith, same))
  each_zipped (h ∷ hs) (r ∷ rs) same each =
      (kept_first h hs r (each 0 r (omega arith)).1, each_zipped hs rs (omega (arith, same)) (λ i d low. (refl, kept_later h hs i (slice_index_or rs i d) (each (suc i) d (omega (arith, low))).1)))
