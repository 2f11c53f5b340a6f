use Rattle.std.proofs.Common.{List, [], arith, length, map, string_bytes, subst, ℕ, ◌++◌, ◌+◌, ◌∷◌, ◌≡◌}
use Rattle.std.proofs.lemmas.List.{length-append, length-map, map-append}
use Rattle.std.specs.declared.alloc.Global.{Global}
use Rattle.a429_arguments.specs.GivenWords.{AreFrom}
use Rattle.a429_arguments.proofs.given.given_words.Goals as goal

-- a word that is read after others
are_from-push : (gives : ℕ → List ℕ → Type 0) (k : ℕ) (words : List (List ℕ)) (word : List ℕ) → AreFrom gives k words → gives (k + length words) word → AreFrom gives k (words ++ word ∷ [])
are_from-push gives k [] word are given = (subst (λ (n : ℕ). gives n word) (omega arith) given, tt)
are_from-push gives k (w ∷ words) word are given = (are.0, are_from-push gives (k + 1) words word are.1 (subst (λ (n : ℕ). gives n word) (omega arith) given))

pub loop-place-preserved : goal.loop-place-preserved
loop-place-preserved g c =
    let gives = g.A.Arguments.gives c.args.arguments.now in
    let before = c.loop-place.words.items in
    let word = c.in-Some.word in
    let at : c.loop-place.place ≡ length before + 1 = c.loop-place.invariant.place_is in
    let place : c.loop-place.place ≡ 1 + length (map (string_bytes {Z = Global}) before) = rw length-map (omega (arith, at)) in
    let given : gives c.loop-place.place (string_bytes word) = rw c.in-Some.is at c.in_ok-word.ensures.given in
    record {
      place_is = rw (c.in_ok-push_word-in-Some.ensures.pushed, length-append) (omega (arith, at));
      given = rw (c.in_ok-push_word-in-Some.ensures.pushed, map-append)
          (are_from-push gives 1 (map string_bytes before) (string_bytes word) c.loop-place.invariant.given (subst (λ (n : ℕ). gives n (string_bytes word)) place given));
    }
