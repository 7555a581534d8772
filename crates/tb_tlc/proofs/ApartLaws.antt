-- Nodes of a document: no two of them have one number, and what is below one is of the same document.
use Rattle.std.proofs.Common.{◌≡◌, option_to_list, ℕ, zero, suc, ◌+◌, ◌==◌, ◌<◌, ◌≤◌, Bool, true, false, not, cond, List, [], ◌∷◌, ◌++◌, map, filter, refl, sym, ap, ◌∙◌, arith, Option, Some, None}
use Rattle.std.specs.List.{list_any, range_with_len, AllByRecursion, Contains}
use Rattle.std.proofs.lemmas.Bool.{eq-eqb, eqb-true, eqb-false, ne_eqb, or_parts}
use Rattle.std.proofs.lemmas.List.Elements.{All-from_recursion, recursion_from_All, All-contains_itself, All-contains, Contains-append_left, Contains-append_right}
use Rattle.tb_tree.specs.Plain.{Plain, elem, attr, text, Plains, no_kids, kid, kids_of, one}
use Rattle.tb_tree.specs.Numbers.{Numbered, counts, all_numbered}
use Rattle.tb_tree.proofs.PlaceLaws.{numbers-range}
use Rattle.tb_tree.proofs.lists.Alls.{all-append, all-weaker}
use Rattle.tb_tree.proofs.lists.Parts.{first-same}
use Rattle.tb_query.specs.Groups.{is_same_node}
use Rattle.tb_query.specs.Lists.{each_once}
use Rattle.tb_query.specs.Nodes.{From, nowhere, document_node, node_at, nodes_from, last_numbers, chain}
use Rattle.tb_query.specs.Tuples.{from_root, from_node}
use Rattle.tb_pattern.specs.Witness.{choices}
use Rattle.tb_query.specs.declared.path.Step.{Step}
use Rattle.tb_query.proofs.OnceLaws.{IsApart, apart-filter}
use Rattle.tb_query.proofs.AlikeLaws.{each-filter}

-- Numbers without a gap are apart.
apart-first : (u : Numbered) (us : List Numbered) (n : ℕ) → u.number < n → AllByRecursion (λ w. n ≤ w.number) us → list_any (is_same_node u) us ≡ false
apart-first u [] n less past = refl
apart-first u (w ∷ us) n less past =
    let differ : (u.number == w.number) ≡ false = ne_eqb u.number w.number (let p = past.0 in omega (arith, less, p)) in
    rw differ (apart-first u us n less past.1)

record Counted (us : List Numbered) (n : ℕ) : Type 0 where
  apart : IsApart is_same_node us
  past : AllByRecursion (λ w. n ≤ w.number) us

counted : (us : List Numbered) (n m : ℕ) → map (λ u. u.number) us ≡ range_with_len n m → Counted us n
counted [] n m are = record { apart = tt; past = tt }
counted (u ∷ us) n zero are = absurd (let e : ◌≡◌ {A = List ℕ} (u.number ∷ map (λ u. u.number) us) [] = are in cc)
counted (u ∷ us) n (suc m) are =
    let first : u.number ≡ n = first-same u.number n (map (λ u. u.number) us) (range_with_len (n + 1) m) are in
    let others : map (λ u. u.number) us ≡ range_with_len (n + 1) m = ap (rest_of) are in
    let behind = counted us (n + 1) m others in
    record {
      apart = (apart-first u us (n + 1) (omega (arith, first)) behind.past, behind.apart);
      past = (omega (arith, first), all-weaker (λ w. n + 1 ≤ w.number) (λ w. n ≤ w.number) us (λ w p. omega (arith, p)) behind.past);
    }
  where
    rest_of : List ℕ → List ℕ
    rest_of [] = []
    rest_of (x ∷ xs) = xs

pub apart-numbered : (n : ℕ) (ks : Plains) → IsApart is_same_node (all_numbered n ks)
apart-numbered n ks = (counted (all_numbered n ks) n (counts ks) (numbers-range n ks)).apart

-- Items that are apart are each once.
none-dropped : {A : Type 0} (test : A → Bool) (xs : List A) → list_any test xs ≡ false → filter (λ x. not (test x)) xs ≡ xs
none-dropped test [] none = refl
none-dropped test (x ∷ xs) none =
    let parts = or_parts (test x) (list_any test xs) none in
    by (test x) parts.0 (none-dropped test xs parts.1)
  where
    by : (b : Bool) → b ≡ false → filter (λ x. not (test x)) xs ≡ xs → cond (not b) (x ∷ filter (λ x. not (test x)) xs) (filter (λ x. not (test x)) xs) ≡ x ∷ xs
    by true is others = absurd (let e : ◌≡◌ {A = Bool} true false = is in cc)
    by false is others = ap (λ t. x ∷ t) others

pub once-of_apart : {A : Type 0} (same : A → A → Bool) (xs : List A) → IsApart same xs → each_once same xs ≡ xs
once-of_apart same [] apart = refl
once-of_apart same (x ∷ xs) apart =
    ap (λ t. x ∷ filter (λ y. not (same x y)) t) (once-of_apart same xs apart.1) ∙ ap (λ t. x ∷ t) (none-dropped (same x) xs apart.0)

-- The nodes of a path are apart.
pub path-apart : (steps : List Step) (from : From) → IsApart is_same_node (nodes_from steps from)
path-apart [] nowhere = tt
path-apart (s ∷ steps) nowhere = tt
path-apart [] (document_node root) = tt
path-apart [] (node_at u) = (refl, tt)
path-apart (s ∷ steps) (document_node root) =
    apart-filter is_same_node (λ u. list_any (λ n. n == u.number) (last_numbers (choices (chain (s ∷ steps)) 0 (one root)))) (all_numbered 1 (one root)) (apart-numbered 1 (one root))
path-apart (s ∷ steps) (node_at u) =
    apart-filter is_same_node (λ w. list_any (λ n. n == w.number) (last_numbers (choices (chain (s ∷ steps)) u.number (kids_of u.node)))) (all_numbered (u.number + 1) (kids_of u.node)) (apart-numbered (u.number + 1) (kids_of u.node))

-- each node of a path once
pub path-once : (steps : List Step) (from : From) → each_once is_same_node (nodes_from steps from) ≡ nodes_from steps from
path-once steps from = once-of_apart is_same_node (nodes_from steps from) (path-apart steps from)

pub path-nowhere : (steps : List Step) → nodes_from steps nowhere ≡ []
path-nowhere [] = refl
path-nowhere (s ∷ steps) = refl

-- Where items are apart, one that is the same is that one.
same-first : {A : Type 0} (same : A → A → Bool) (x : A) (xs : List A) → list_any (same x) xs ≡ false → AllByRecursion (λ y. same x y ≡ true → x ≡ y) xs
same-first same x [] none = tt
same-first same x (y ∷ ys) none =
    let parts = or_parts (same x y) (list_any (same x) ys) none in
    ((λ is. absurd (let e : ◌≡◌ {A = Bool} true false = sym is ∙ parts.0 in cc)), same-first same x ys parts.1)

pub apart-tells : {A : Type 0} (same : A → A → Bool) → ((x y : A) → same x y ≡ same y x) → (xs : List A) → IsApart same xs
    → AllByRecursion (λ x. AllByRecursion (λ y. same x y ≡ true → x ≡ y) xs) xs
apart-tells same turned [] apart = tt
apart-tells {A} same turned (x ∷ xs) apart =
    ((λ is. refl, same-first same x xs apart.0), behind xs (same-first same x xs apart.0) (apart-tells same turned xs apart.1))
  where
    behind : (ys : List A) → AllByRecursion (λ y. same x y ≡ true → x ≡ y) ys → AllByRecursion (λ y. AllByRecursion (λ z. same y z ≡ true → y ≡ z) xs) ys
        → AllByRecursion (λ y. AllByRecursion (λ z. same y z ≡ true → y ≡ z) (x ∷ xs)) ys
    behind [] first others = tt
    behind (y ∷ ys) first others =
        (((λ is. sym (first.0 (turned x y ∙ is))), others.0), behind ys first.1 others.1)

-- What is below a node of some is of them.
all-themselves : {A : Type 0} (xs : List A) → AllByRecursion (Contains xs) xs
all-themselves xs = recursion_from_All (Contains xs) xs (All-contains_itself xs)

abbrev AllBelow : List Numbered → List Numbered → Type 0
AllBelow whole us = AllByRecursion (λ u. AllByRecursion (Contains whole) (all_numbered (u.number + 1) (kids_of u.node))) us

wider : (some whole us : List Numbered) → ((w : Numbered) → Contains some w → Contains whole w) → AllBelow some us → AllBelow whole us
wider some whole us within all =
    all-weaker (λ u. AllByRecursion (Contains some) (all_numbered (u.number + 1) (kids_of u.node))) (λ u. AllByRecursion (Contains whole) (all_numbered (u.number + 1) (kids_of u.node))) us
    (λ u below. all-weaker (Contains some) (Contains whole) (all_numbered (u.number + 1) (kids_of u.node)) within below) all

below-too : (n : ℕ) (ks : Plains) → AllBelow (all_numbered n ks) (all_numbered n ks)
below-too n no_kids = tt
below-too n (kid (elem name kids) rest) =
    let inside = all_numbered (n + 1) kids in
    let behind = all_numbered (n + 1 + counts kids) rest in
    let u : Numbered = record { number = n; node = elem name kids } in
    let left = λ (w : Numbered) (has : Contains inside w). Contains-append_right (u ∷ []) (inside ++ behind) w (Contains-append_left inside behind w has) in
    let right = λ (w : Numbered) (has : Contains behind w). Contains-append_right (u ∷ []) (inside ++ behind) w (Contains-append_right inside behind w has) in (
      all-weaker (Contains inside) (Contains (u ∷ (inside ++ behind))) inside left (all-themselves inside),
      all-append (λ v. AllByRecursion (Contains (u ∷ (inside ++ behind))) (all_numbered (v.number + 1) (kids_of v.node))) inside behind
          (wider inside (u ∷ (inside ++ behind)) inside left (below-too (n + 1) kids))
          (wider behind (u ∷ (inside ++ behind)) behind right (below-too (n + 1 + counts kids) rest)),
    )
below-too n (kid (attr name value) rest) =
    let u : Numbered = record { number = n; node = attr name value } in
    let behind = all_numbered (n + 1) rest in
    (tt, wider behind (u ∷ behind) behind (λ w has. Contains-append_right (u ∷ []) behind w has) (below-too (n + 1) rest))
below-too n (kid (text value) rest) =
    let u : Numbered = record { number = n; node = text value } in
    let behind = all_numbered (n + 1) rest in
    (tt, wider behind (u ∷ behind) behind (λ w has. Contains-append_right (u ∷ []) behind w has) (below-too (n + 1) rest))

-- the nodes of the document with this root; none where there is no document
abbrev pub nodes_of_root : Option Plain → List Numbered
nodes_of_root None = []
nodes_of_root (Some root) = all_numbered 1 (one root)

-- a node of the document
abbrev pub IsOf : Option Plain → Numbered → Type 0
IsOf root u = Contains (nodes_of_root root) u

-- Paths stay in their document.
pub path-of_root : (steps : List Step) (root : Option Plain) → AllByRecursion (IsOf root) (nodes_from steps (from_root root))
path-of_root [] None = tt
path-of_root (s ∷ steps) None = tt
path-of_root [] (Some root) = tt
path-of_root (s ∷ steps) (Some root) =
    each-filter (IsOf (Some root)) (λ u. list_any (λ n. n == u.number) (last_numbers (choices (chain (s ∷ steps)) 0 (one root)))) (all_numbered 1 (one root)) (all-themselves (all_numbered 1 (one root)))

below-one : (root : Option Plain) (u : Numbered) → IsOf root u → AllByRecursion (IsOf root) (all_numbered (u.number + 1) (kids_of u.node))
below-one None u is = absurd (let less = is.1 in omega (arith, less))
below-one (Some root) u is =
    let P : Numbered → Type 0 = λ w. AllByRecursion (Contains (all_numbered 1 (one root))) (all_numbered (w.number + 1) (kids_of w.node)) in
    All-contains P (all_numbered 1 (one root)) u (All-from_recursion P (all_numbered 1 (one root)) (below-too 1 (one root))) is

pub path-of_node : (steps : List Step) (root : Option Plain) (u : Numbered) → IsOf root u → AllByRecursion (IsOf root) (nodes_from steps (node_at u))
path-of_node [] root u is = (is, tt)
path-of_node (s ∷ steps) root u is =
    each-filter (IsOf root) (λ w. list_any (λ n. n == w.number) (last_numbers (choices (chain (s ∷ steps)) u.number (kids_of u.node)))) (all_numbered (u.number + 1) (kids_of u.node)) (below-one root u is)

pub path-of_maybe : (steps : List Step) (root : Option Plain) (o : Option Numbered) → AllByRecursion (IsOf root) (option_to_list o) → AllByRecursion (IsOf root) (nodes_from steps (from_node o))
path-of_maybe [] root None all = tt
path-of_maybe (s ∷ steps) root None all = tt
path-of_maybe steps root (Some u) all = path-of_node steps root u all.0

turned-number : (m n : ℕ) → (m == n) ≡ (n == m)
turned-number m n = by (m == n) refl
  where
    by : (b : Bool) → (m == n) ≡ b → b ≡ (n == m)
    by true is = sym (eq-eqb n m (sym (eqb-true m n is)))
    by false is = sym (ne_eqb n m (λ same. eqb-false m n is (sym same)))

-- nodes of one document with one number are one node
pub number-tells : (root : Option Plain) (u w : Numbered) → IsOf root u → IsOf root w → is_same_node u w ≡ true → u ≡ w
number-tells None u w of also is = absurd (let less = of.1 in omega (arith, less))
number-tells (Some root) u w of also is =
    let whole = all_numbered 1 (one root) in
    let all = apart-tells is_same_node (λ x y. turned-number x.number y.number) whole (apart-numbered 1 (one root)) in
    let P : Numbered → Type 0 = λ x. AllByRecursion (λ y. is_same_node x y ≡ true → x ≡ y) whole in
    let Q : Numbered → Type 0 = λ y. is_same_node u y ≡ true → u ≡ y in
    All-contains Q whole w (All-from_recursion Q whole (All-contains P whole u (All-from_recursion P whole all) of)) also is
