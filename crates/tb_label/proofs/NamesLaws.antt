-- The lists of names, by number and by name.
use Rattle.std.proofs.Common.{◌≡◌, ℕ, zero, suc, ◌+◌, ◌<◌, Bool, true, false, ◌==◌, List, [], ◌∷◌, ◌++◌, length, get_or, take, map, set, Option, Some, None, Vec, Global, refl, sym, ap, ap₂, ◌∙◌, subst, arith, ⊎_elim, append-nil, eqb-true, length-take}
use Rattle.std.specs.Option.{option_map_or}
use Rattle.std.specs.Str.{bytes_eq}
use Rattle.std.proofs.lemmas.Bool.{false≢true, eq-eqb, ne_eqb, eqb-false}
use Rattle.std.proofs.lemmas.List.{take_more, get_or-take, map-set, get_or-map, get_or-set_same, get_or-set_other, length-map}
use Rattle.std.proofs.lemmas.Slice.Eq.{bytes_eq-Decides}
use Rattle.tb_span.specs.declared.item.Item.{Item}
use Rattle.tb_tree.specs.NameTables.{AreApart, IsNumber, IsMore, same, one_more, place_of}
use Rattle.tb_tree.proofs.NameLaws.{place-stands, place-none, stood}
use Rattle.tb_label.specs.Lists.{one_if}

-- an item of the name with the number n is seen by that name alone
seen_case : (table : List (List ℕ)) (n : ℕ) (q : List ℕ) (old new : ℕ → List Item) (item : Item) (found : Option ℕ) (same : Bool) → AreApart table → n < length table
    → ((k : ℕ) → new k ≡ old k ++ one_if (k == n) item) → place_of q table ≡ found → bytes_eq q (get_or table n []) ≡ same
    → option_map_or new found [] ≡ option_map_or old found [] ++ one_if same item
seen_case table n q old new item None true apart less grows is alike = absurd (place-none table q is n (less, sym ((bytes_eq-Decides q (get_or table n [])).0 alike)))
seen_case table n q old new item None false apart less grows is alike = refl
seen_case table n q old new item (Some k) true apart less grows is alike =
    let there = place-stands table q k is in
    let number : k ≡ n = apart k n there.0 less (there.1 ∙ (bytes_eq-Decides q (get_or table n [])).0 alike) in
    grows k ∙ ap (λ b. old k ++ one_if b item) (eq-eqb k n number)
seen_case table n q old new item (Some k) false apart less grows is alike =
    let there = place-stands table q k is in
    let other : (k == n) ≡ false = ne_eqb k n (λ e. false≢true (sym alike ∙ (bytes_eq-Decides q (get_or table n [])).1 (sym there.1 ∙ ap (λ m. get_or table m []) e))) in
    grows k ∙ ap (λ b. old k ++ one_if b item) other

pub names-seen : (table : List (List ℕ)) (n : ℕ) (q : List ℕ) (old new : ℕ → List Item) (item : Item) → AreApart table → n < length table
    → ((k : ℕ) → new k ≡ old k ++ one_if (k == n) item)
    → option_map_or new (place_of q table) [] ≡ option_map_or old (place_of q table) [] ++ one_if (bytes_eq q (get_or table n [])) item
names-seen table n q old new item apart less grows = seen_case table n q old new item (place_of q table) (bytes_eq q (get_or table n [])) apart less grows refl refl

-- no list has an item
pub none-seen : (o : Option ℕ) (lists : ℕ → List Item) → ((k : ℕ) → lists k ≡ []) → option_map_or lists o [] ≡ []
none-seen None lists empty = refl
none-seen (Some k) lists empty = empty k

-- a list grows by an item
pub pushed-at : (lists : List (Vec Item Global)) (n : ℕ) (list new : Vec Item Global) (item : Item) → n < length lists → list ≡ get_or lists n list → new.items ≡ list.items ++ item ∷ []
    → (k : ℕ) → get_or (map (λ (v : Vec Item Global). v.items) (set lists n new)) k [] ≡ get_or (map (λ (v : Vec Item Global). v.items) lists) k [] ++ one_if (k == n) item
pushed-at lists n list new item less is more k = by_case (k == n) refl
  where
    written : map (λ (v : Vec Item Global). v.items) (set lists n new) ≡ set (map (λ (v : Vec Item Global). v.items) lists) n new.items
    written = map-set (λ (v : Vec Item Global). v.items) lists n new

    by_case : (here : Bool) → (k == n) ≡ here → get_or (map (λ (v : Vec Item Global). v.items) (set lists n new)) k [] ≡ get_or (map (λ (v : Vec Item Global). v.items) lists) k [] ++ one_if (k == n) item
    by_case true e =
        let same : k ≡ n = eqb-true k n e in
        let old : get_or (map (λ (v : Vec Item Global). v.items) lists) k [] ≡ list.items =
        ap (λ j. get_or (map (λ (v : Vec Item Global). v.items) lists) j []) same ∙ get_or-map (λ (v : Vec Item Global). v.items) lists n list [] less ∙ ap (λ (v : Vec Item Global). v.items) (sym is) in
        ap (λ l. get_or l k []) written ∙ ap (λ j. get_or (set (map (λ (v : Vec Item Global). v.items) lists) n new.items) j []) same
        ∙ get_or-set_same (map (λ (v : Vec Item Global). v.items) lists) n new.items [] (omega (arith, less, length-map lists (λ (v : Vec Item Global). v.items)))
        ∙ more ∙ ap₂ (λ x b. x ++ one_if b item) (sym old) (sym e)
    by_case false e =
        ap (λ l. get_or l k []) written
        ∙ get_or-set_other (map (λ (v : Vec Item Global). v.items) lists) n k new.items [] (eqb-false k n e)
        ∙ sym (append-nil _) ∙ ap (λ b. get_or (map (λ (v : Vec Item Global). v.items) lists) k [] ++ one_if b item) (sym e)

-- the next of different names is none of those before it, so it is one more
fresh : (names : List (List ℕ)) (i : ℕ) (k : ℕ) → AreApart names → i < length names → IsNumber (take i names) (get_or names i []) k → ⊥
fresh names i k apart less at =
    let before : k < i = omega (arith, at.0, length-take i names) in
    omega (arith, before, apart k i (omega (arith, before, less)) less (sym (get_or-take i names k [] before) ∙ at.1))

pub names-next : (names table new : List (List ℕ)) (i number : ℕ) → AreApart names → i < length names → table ≡ take i names → IsMore table new → IsNumber new (get_or names i []) number
    → new ≡ take (i + 1) names
names-next names table new i number apart less is (same e) at =
    absurd (fresh names i number apart less (subst (λ l. IsNumber l (get_or names i []) number) (e ∙ is) at))
names-next names table new i number apart less is (one_more name e) at =
    let grown : new ≡ take i names ++ name ∷ [] = e ∙ ap (λ l. l ++ name ∷ []) is in
    let last : name ≡ get_or names i [] =
    last_is (subst (λ l. IsNumber l (get_or names i []) number) grown at) in
    grown ∙ ap (λ x. take i names ++ x ∷ []) last ∙ sym (take_more names i [] less)
  where
    last_is : IsNumber (take i names ++ name ∷ []) (get_or names i []) number → name ≡ get_or names i []
    last_is at =
        ⊎_elim (λ old. absurd (fresh names i number apart less (subst (λ q. IsNumber (take i names) q number) at.1 old))) (λ new. sym new.1 ∙ at.1) (stood (take i names) name number at.0)

-- an empty list more
pub empty-more : (lists : List (Vec Item Global)) (list : Vec Item Global) → list.items ≡ [] → ((k : ℕ) → get_or (map (λ (v : Vec Item Global). v.items) lists) k [] ≡ [])
    → (k : ℕ) → get_or (map (λ (v : Vec Item Global). v.items) (lists ++ list ∷ [])) k [] ≡ []
empty-more [] list none all zero = none
empty-more [] list none all (suc k) = refl
empty-more (v ∷ lists) list none all zero = all zero
empty-more (v ∷ lists) list none all (suc k) = empty-more lists list none (λ j. all (suc j)) k
