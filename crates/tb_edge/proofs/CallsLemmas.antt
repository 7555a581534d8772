-- One more piece of a text, read or written.
use Rattle.std.proofs.Common.{◌≡◌, ℕ, suc, ◌+◌, ◌-◌, ◌<◌, ◌≤◌, List, ◌∷◌, ◌++◌, Vec, Global, length, get_or, take, drop, sym, ◌∙◌, ap, subst, arith, take-append-drop, drop-cons, length-append}
use Rattle.std.specs.List.{flat_map}
use Rattle.std.proofs.KnownBytes.{Appends-trans, Consumes-trans}
use Rattle.std.proofs.Math.Seq.{take-append-add}
use Rattle.std.proofs.lemmas.List.{length-take-le, length-drop, take_all, take-append-le}
use Rattle.std.proofs.lemmas.List.Concat.{flat_map-append}
use Rattle.std.proofs.lemmas.List.Folds.{length-flat_map-take}
use Rattle.std.specs.Io.KnownBytes.{Appends, Consumes}
use Rattle.std.specs.declared.option.Option.{Option}
use Rattle.tb_edge.specs.Calls.{LostAtMost, GrewByPart}

abbrev pub Piece : Type 0
Piece = Vec ℕ Global

abbrev pub joined : List Piece → List ℕ
joined pieces = flat_map (λ piece. piece.items) pieces

-- the first n elements, and then the next m
pub take-add : (xs : List ℕ) (n m : ℕ) → n ≤ length xs → take (n + m) xs ≡ take n xs ++ take m (drop n xs)
take-add xs n m within =
    let long : length (take n xs) ≡ n = length-take-le n xs within in
    ap (λ k. take (k + m) xs) (sym long) ∙ ap (take (length (take n xs) + m)) (sym (take-append-drop n xs))
    ∙ take-append-add (take n xs) (drop n xs) m

-- a sink held the first bytes, and took some of the rest
pub Appends-take : (old mid new : Option (List ℕ)) (bytes : List ℕ) (at n : ℕ) → at ≤ length bytes
    → Appends old mid (take at bytes) → Appends mid new (take n (take (length bytes - at) (drop at bytes)))
    → Appends old new (take (at + n) bytes)
Appends-take old mid new bytes at n within first next =
    let short : length (drop at bytes) ≤ length bytes - at = rw length-drop (omega arith) in
    let rest : take (length bytes - at) (drop at bytes) ≡ drop at bytes = take_all _ _ short in
    let whole = Appends-trans old mid new (take at bytes) (take n (drop at bytes)) first
    (subst (λ (xs : List ℕ). Appends mid new (take n xs)) rest next) in
    subst (Appends old new) (sym (take-add bytes at n within)) whole

-- a source that had lost some bytes lost some more
pub LostAtMost-trans : (old mid new : Option (List ℕ)) (bytes : List ℕ) (most more : ℕ) → Consumes old mid bytes
    → LostAtMost more mid new → length bytes + more ≤ most → LostAtMost most old new
LostAtMost-trans old mid new bytes most more taken (rest, few, lost) within =
    (bytes ++ rest, rw length-append (omega arith), Consumes-trans old mid new bytes rest taken lost)

-- the pieces before one, and the first bytes of it, are the first bytes of all pieces
pieces-take : (pieces : List Piece) (at n : ℕ) (piece : Piece) → at < length pieces → piece ≡ get_or pieces at piece → n ≤ length piece.items
    → take (length (joined (take at pieces)) + n) (joined pieces) ≡ joined (take at pieces) ++ take n piece.items
pieces-take pieces at n piece within is few =
    let front = joined (take at pieces) in
    let back = joined (drop (suc at) pieces) in
    let cut : joined pieces ≡ front ++ (piece.items ++ back) =
    ap joined (sym (take-append-drop at pieces)) ∙ flat_map-append (λ p. p.items) (take at pieces) (drop at pieces)
    ∙ ap (λ l. front ++ joined l) (drop-cons pieces at piece within ∙ ap (λ p. p ∷ drop (suc at) pieces) (sym is)) in
    ap (take (length front + n)) cut ∙ take-append-add front (piece.items ++ back) n ∙ ap (λ l. front ++ l) (take-append-le n piece.items back few)

-- a sink took some pieces and a part of the next one
pub GrewByPart-pieces : (old mid new : Option (List ℕ)) (pieces : List Piece) (at : ℕ) (piece : Piece) → at < length pieces → piece ≡ get_or pieces at piece
    → Appends old mid (joined (take at pieces)) → GrewByPart mid new piece.items → GrewByPart old new (joined pieces)
GrewByPart-pieces old mid new pieces at piece within is first (n, few, next) =
    let front = joined (take at pieces) in
    let short : length front + length piece.items ≤ length (joined pieces) =
    subst (λ p. length front + length p.items ≤ length (joined pieces)) (sym is) (length-flat_map-take (λ p. p.items) pieces at piece within) in
    (length front + n, omega arith, subst (Appends old new) (sym (pieces-take pieces at n piece within is (omega arith))) (Appends-trans old mid new front (take n piece.items) first next))
