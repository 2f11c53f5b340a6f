-- Bytes that are put out one after another, or kept back in between.
use Rattle.std.proofs.Common.{◌≡◌, ◌∙◌, ℕ, List, [], ◌++◌, refl, sym, ap, append_assoc, append-nil}
use Rattle.std.specs.Prelude.{Option, Some, None}
use Rattle.std.specs.Io.KnownBytes.{Appends, append_known}

-- nothing is lost where bytes go out
pub Appends-then : (a b c : Option (List ℕ)) (xs ys : List ℕ) → Appends a b xs → Appends b c ys → Appends a c (xs ++ ys)
Appends-then None b c xs ys first later = tt
Appends-then (Some a) None None xs ys first later = first
Appends-then (Some a) None (Some c) xs ys first later = absurd first
Appends-then (Some a) (Some b) None xs ys first later = later
Appends-then (Some a) (Some b) (Some c) xs ys first later = rw (later, first, append_assoc) refl

pub Appends-text : (known : Option (List ℕ)) (text line : List ℕ) → Appends (append_known known text) (append_known known (text ++ line)) line
Appends-text None text line = tt
Appends-text (Some bs) text line = sym (append_assoc bs text line)

pub Appends-same : (known : Option (List ℕ)) → Appends known known []
Appends-same None = tt
Appends-same (Some bs) = sym (append-nil bs)

pub Appends-out : (old new : Option (List ℕ)) (text : List ℕ) → Appends old new text → Appends (append_known old text) (append_known new []) []
Appends-out None new text out = tt
Appends-out (Some a) None text out = out
Appends-out (Some a) (Some b) text out = rw out refl

-- what was kept back goes out with what was there, and then the end
pub Appends-ended : (old mid new : Option (List ℕ)) (text bytes end : List ℕ) → Appends (append_known old []) (append_known mid text) bytes → Appends mid new (text ++ end) → Appends old new (bytes ++ end)
Appends-ended None mid new text bytes end kept out = tt
Appends-ended (Some a) None new text bytes end kept out = absurd kept
Appends-ended (Some a) (Some b) None text bytes end kept out = absurd out
Appends-ended (Some a) (Some b) (Some c) text bytes end kept out =
    let before : b ++ text ≡ a ++ bytes = kept ∙ ap (λ (xs : List ℕ). xs ++ bytes) (append-nil a) in
    out ∙ (sym (append_assoc b text end) ∙ (ap (λ (xs : List ℕ). xs ++ end) before ∙ append_assoc a bytes end))
