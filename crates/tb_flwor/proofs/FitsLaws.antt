-- The actions of a part of a query beside its tokens and its variables' events, and that parts that stand
-- one after the other fit together.
use Rattle.std.proofs.Common.{◌≡◌, ℕ, ◌+◌, ◌≤◌, List, [], ◌∷◌, ◌++◌, map, length, refl, sym, ap, ap₂, ◌∙◌, arith, append_assoc, length-append}
use Rattle.std.specs.List.{AllByRecursion}
use Rattle.std.proofs.lemmas.List.{map-append}
use Rattle.tb_tree.proofs.lists.Alls.{all-append}
use Rattle.tb_token.specs.grammar.Sentences.{Tree, leaf, nothing, pair, first, second}
use Rattle.tb_token.specs.tokens.Lexemes.{place_in}
use Rattle.tb_query.specs.Actions.{Action, binds, takes, makes, size_of_actions}
use Rattle.tb_query.specs.Plannable.{HasStep, IsNamed, IsDifferent}
use Rattle.tb_query.specs.declared.path.Start.{Start}
use Rattle.tb_query.specs.declared.path.Start.TheVariants.{Document, Var}
use Rattle.tb_flwor.specs.Events as event
use Rattle.tb_flwor.specs.Events.{Event}
use Rattle.tb_flwor.specs.Returned.{tokens_of}
use Rattle.tb_flwor.specs.Value.{BoundNames}

-- how many tokens a tree has
abbrev pub size : Tree → ℕ
size (leaf t) = 1
size nothing = 0
size (pair v w) = size v + size w
size (first v) = size v
size (second v) = size v

pub size-is : (v : Tree) → length (tokens_of v) ≡ size v
size-is (leaf t) = refl
size-is nothing = refl
size-is (pair v w) = length-append (tokens_of v) (tokens_of w) ∙ ap₂ (λ m n. m + n) (size-is v) (size-is w)
size-is (first v) = size-is v
size-is (second v) = size-is v

-- an event by the number of its variable
pub data Said : Type 0 where
  bound : ℕ → Said
  own : ℕ → Said
  used : ℕ → Said

abbrev pub said_from : (ℕ → Said) → Start → List Said
said_from f (Document name) = []
said_from f (Var var) = f var ∷ []

-- what actions say of variables
abbrev pub said : List Action → List Said
said [] = []
said (binds var path ∷ xs) = bound var ∷ (said_from own path.start ++ said xs)
said (takes path ∷ xs) = said_from used path.start ++ said xs
said (makes name attributes ∷ xs) = said xs

-- what an event says, where these names are bound
abbrev pub numbered : BoundNames → Event → Said
numbered names (event.binds t) = bound (place_in t.bytes names)
numbered names (event.owns t) = own (place_in t.bytes names)
numbered names (event.uses t) = used (place_in t.bytes names)

said-append : (xs ys : List Action) → said (xs ++ ys) ≡ said xs ++ said ys
said-append [] ys = refl
said-append (binds var path ∷ xs) ys =
    ap (λ s. bound var ∷ (said_from own path.start ++ s)) (said-append xs ys) ∙ ap (λ s. bound var ∷ s) (sym (append_assoc (said_from own path.start) (said xs) (said ys)))
said-append (takes path ∷ xs) ys = ap (λ s. said_from used path.start ++ s) (said-append xs ys) ∙ sym (append_assoc (said_from used path.start) (said xs) (said ys))
said-append (makes name attributes ∷ xs) ys = said-append xs ys

pub size-append : (xs ys : List Action) → size_of_actions (xs ++ ys) ≡ size_of_actions xs + size_of_actions ys
size-append [] ys = omega arith
size-append (binds var path ∷ xs) ys = let e = size-append xs ys in omega (arith, e)
size-append (takes path ∷ xs) ys = let e = size-append xs ys in omega (arith, e)
size-append (makes name attributes ∷ xs) ys = let e = size-append xs ys in omega (arith, e)

-- The actions have n tokens or fewer, and say of variables what the events do.
pub record Fits (names : BoundNames) (es : List Event) (n : ℕ) (xs : List Action) : Type 0 where
  pub long : AllByRecursion HasStep xs
  pub named : AllByRecursion IsNamed xs
  pub different : AllByRecursion IsDifferent xs
  pub few : size_of_actions xs ≤ n
  pub same : said xs ≡ map (numbered names) es

pub fits-none : (names : BoundNames) (n : ℕ) → Fits names [] n []
fits-none names n = record { long = tt; named = tt; different = tt; few = omega arith; same = refl }

pub fits-append : {names : BoundNames} {es fs : List Event} {m n : ℕ} {xs ys : List Action}
    → Fits names es m xs → Fits names fs n ys → Fits names (es ++ fs) (m + n) (xs ++ ys)
fits-append {names = names} {es = es} {fs = fs} {m = m} {n = n} {xs = xs} {ys = ys} f g = record {
  long = all-append HasStep xs ys f.long g.long;
  named = all-append IsNamed xs ys f.named g.named;
  different = all-append IsDifferent xs ys f.different g.different;
  few = let e = size-append xs ys in omega (arith, e, f.few, g.few);
  same = said-append xs ys ∙ ap₂ (λ s t. s ++ t) f.same g.same ∙ sym (map-append (numbered names) es fs);
}

pub fits-more : {names : BoundNames} {es : List Event} {m n : ℕ} {xs : List Action} → m ≤ n → Fits names es m xs → Fits names es n xs
fits-more {m = m} {n = n} le f = record {
  long = f.long;
  named = f.named;
  different = f.different;
  few = let l = f.few in omega (arith, l, le);
  same = f.same;
}
