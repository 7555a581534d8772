-- Bytes that are cut at their backslashes give what they stand for.
use Rattle.std.proofs.Common.{◌≡◌, ℕ, zero, suc, ◌+◌, ◌*◌, ◌-◌, ◌<◌, ◌≤◌, min, Bool, true, false, ◌==◌, List, [], ◌∷◌, ◌++◌, length, take, drop, get_or, Option, Some, None, refl, sym, ap, ◌∙◌, subst, nat_le, arith, eqb-true, append_assoc, append-nil, take-append-drop}
use Rattle.std.specs.List.{list_all}
use Rattle.std.specs.Option.{option_map}
use Rattle.std.proofs.lemmas.Bool.{and_parts, not-true, leb-true, leb-false}
use Rattle.std.proofs.lemmas.List.{drop_more, take_all}
use Rattle.memchr.specs.Find.{Nowhere, NoneBefore, Passes, is_byte}
use Rattle.tb_tree.proofs.lists.Prefixes.{is_other, others-prefix}
use Rattle.tb_tree.specs.Escapes.{Escape, number_from, escape_of, unescaped, unescaped_behind}

-- what the bytes give behind those that an escape has taken
pub unescaped_behind-drop : (k : ℕ) (bytes : List ℕ) → unescaped_behind k bytes ≡ unescaped (drop k bytes)
unescaped_behind-drop zero bytes = refl
unescaped_behind-drop (suc k) [] = refl
unescaped_behind-drop (suc k) (b ∷ bytes) = unescaped_behind-drop k bytes

map-map : (f g : List ℕ → List ℕ) (o : Option (List ℕ)) → option_map f (option_map g o) ≡ option_map (λ x. f (g x)) o
map-map f g None = refl
map-map f g (Some x) = refl

-- other bytes than the backslash give themselves
pub unescaped-plain : (run rest : List ℕ) → list_all (is_other 92) run ≡ true → unescaped (run ++ rest) ≡ option_map (λ given. run ++ given) (unescaped rest)
unescaped-plain [] rest all = same (unescaped rest)
  where
    same : (o : Option (List ℕ)) → o ≡ option_map (λ given. given) o
    same None = refl
    same (Some x) = refl
unescaped-plain (b ∷ run) rest all =
    let parts = and_parts (is_other 92 b) (list_all (is_other 92) run) all in
    rw (not-true (b == 92) parts.0, unescaped-plain run rest parts.1) (map-map (λ given. b ∷ given) (λ given. run ++ given) (unescaped rest))

-- at the first backslash
pub cut-backslash : (bytes : List ℕ) (at : ℕ) → NoneBefore (Passes (is_byte 92) bytes) 0 (length bytes) at → Passes (is_byte 92) bytes at
    → unescaped bytes ≡ option_map (λ given. take at bytes ++ given) (unescaped (92 ∷ drop (at + 1) bytes))
cut-backslash bytes at none here =
    let whole : bytes ≡ take at bytes ++ 92 ∷ drop (at + 1) bytes =
    sym (take-append-drop at bytes) ∙ ap (λ l. take at bytes ++ l) (drop_more bytes at 0 none.high ∙ ap (λ b. b ∷ drop (at + 1) bytes) (eqb-true (get_or bytes at 0) 92 here)) in
    ap unescaped whole ∙ unescaped-plain (take at bytes) (92 ∷ drop (at + 1) bytes) (others-prefix 92 bytes at (omega (arith, none.high)) none.before)

-- where no escape follows, there is nothing that the bytes give
pub unescaped-none : (out bytes : List ℕ) (at : ℕ) → NoneBefore (Passes (is_byte 92) bytes) 0 (length bytes) at → Passes (is_byte 92) bytes at → escape_of (drop (at + 1) bytes) ≡ None
    → option_map (λ given. out ++ given) (unescaped bytes) ≡ None
unescaped-none out bytes at none here wrong = rw (cut-backslash bytes at none here, wrong) refl

-- an escape gives its bytes, and the rest goes on behind it
pub unescaped-escape : (out bytes : List ℕ) (at : ℕ) (e : Escape) → NoneBefore (Passes (is_byte 92) bytes) 0 (length bytes) at → Passes (is_byte 92) bytes at
    → escape_of (drop (at + 1) bytes) ≡ Some e
    → option_map (λ given. out ++ given) (unescaped bytes) ≡ option_map (λ given. ((out ++ take at bytes) ++ e.gives) ++ given) (unescaped (drop e.takes (drop (at + 1) bytes)))
unescaped-escape out bytes at e none here is =
    rw (cut-backslash bytes at none here, is, unescaped_behind-drop e.takes (drop (at + 1) bytes)) (grouped (unescaped (drop e.takes (drop (at + 1) bytes))))
  where
    grouped : (o : Option (List ℕ)) → option_map (λ given. out ++ given) (option_map (λ given. take at bytes ++ given) (option_map (λ given. e.gives ++ given) o)) ≡ option_map (λ given. ((out ++ take at bytes) ++ e.gives) ++ given) o
    grouped None = refl
    grouped (Some given) = ap Some (sym (append_assoc (out ++ take at bytes) e.gives given ∙ append_assoc out (take at bytes) (e.gives ++ given)))

-- without a backslash
pub unescaped-all : (bytes : List ℕ) → Nowhere (Passes (is_byte 92) bytes) 0 (length bytes) → unescaped bytes ≡ Some bytes
unescaped-all bytes none =
    let all = others-prefix 92 bytes (length bytes) (omega arith) none in
    ap unescaped (sym (append-nil bytes)) ∙ unescaped-plain bytes [] (subst (λ l. list_all (is_other 92) l ≡ true) (take_all (length bytes) bytes (omega arith)) all) ∙ ap Some (append-nil bytes)

-- a number past all scalars stays so
number-grows : (n : ℕ) (ds : List ℕ) → n ≤ number_from n ds
number-grows n [] = omega arith
number-grows n (d ∷ ds) = omega (arith, number-grows (n * 10 + (d - 48)) ds)

pub number-capped : (n most : ℕ) (ds : List ℕ) → min (number_from (min n most) ds) most ≡ min (number_from n ds) most
number-capped n most ds = by_case (nat_le n most) refl
  where
    by_case : (b : Bool) → nat_le n most ≡ b → min (number_from (min n most) ds) most ≡ min (number_from n ds) most
    by_case true e =
        let small : min n most ≡ n = omega (arith, leb-true n most e) in
        rw small refl
    by_case false e =
        let large : min n most ≡ most = omega (arith, leb-false n most e) in
        rw large (omega (arith, number-grows most ds, number-grows n ds, leb-false n most e))

-- one digit more, at the i-th place
pub number-step : (n m i all most : ℕ) (ds : List ℕ) → i < length ds → m ≡ min (n * 10 + (get_or ds i 0 - 48)) most → min (number_from n (drop i ds)) most ≡ all → min (number_from m (drop (i + 1) ds)) most ≡ all
number-step n m i all most ds within is before =
    ap (λ k. min (number_from k (drop (i + 1) ds)) most) is ∙ number-capped (n * 10 + (get_or ds i 0 - 48)) most (drop (i + 1) ds)
    ∙ ap (λ l. min (number_from n l) most) (sym (drop_more ds i 0 within)) ∙ before

-- what was given, where it was joined to something
pub joined-none : (out : List ℕ) (o : Option (List ℕ)) → None ≡ option_map (λ given. out ++ given) o → o ≡ None
joined-none out None e = refl
joined-none out (Some given) e = absurd (let d : ◌≡◌ {A = Option (List ℕ)} None (Some (out ++ given)) = e in cc)

pub joined-some : (out whole : List ℕ) (o : Option (List ℕ)) → Some whole ≡ option_map (λ given. out ++ given) o → (given : List ℕ) × (o ≡ Some given) × (whole ≡ out ++ given)
joined-some out whole None e = absurd (let d : ◌≡◌ {A = Option (List ℕ)} (Some whole) None = e in cc)
joined-some out whole (Some given) e = (given, refl, let d : ◌≡◌ {A = Option (List ℕ)} (Some whole) (Some (out ++ given)) = e in cc)
