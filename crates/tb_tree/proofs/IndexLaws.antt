-- An index of names.
use Rattle.std.proofs.Common.{◌≡◌, ◌⊎◌, inl, inr, ℕ, ◌<◌, Bool, true, false, cond, List, [], ◌∷◌, ◌++◌, length, get_or, Option, Result, Ok, Err, Less, Equal, Greater, Some, None, refl, sym, ap, ◌∙◌, subst, arith, ⊎_elim}
use Rattle.std.specs.Prelude.{OnErr}
use Rattle.std.specs.Str.{bytes_eq}
use Rattle.std.specs.Map.{lookup}
use Rattle.std.specs.declared.cmp.Ordering.{Ordering}
use Rattle.std.specs.Ordering.{nat_cmp, is_eq}
use Rattle.std.specs.BTreeMap.{BTreeMap, is_at, get, Updates}
use Rattle.std.specs.Cmp.Lexicographic.{slice_cmp}
use Rattle.std.proofs.lemmas.Bool.{false≢true}
use Rattle.std.proofs.lemmas.Map.Lookups.{exact_unsigned}
use Rattle.std.proofs.lemmas.Slice.Eq.{bytes_eq-Decides}
use Rattle.tb_tree.specs.declared.name_index.NameIndex.{NameIndex}
use Rattle.tb_tree.specs.NameTables.{IsIndex, IsKnown, IsNumber, first_in, other_in, hash_of}
use Rattle.tb_tree.proofs.NameLaws.{known-found, number-more, stands-last, stood, apart-more}

-- What an index tells of a name.
none-is-some : (x : Option ℕ) (n : ℕ) → x ≡ None → x ≡ Some n → ⊥
none-is-some x n none some = (let d : ◌≡◌ {A = Option ℕ} None (Some n) = sym none ∙ some in cc)

pub unknown-first : (names : List (List ℕ)) (index : NameIndex) (name : List ℕ) → IsIndex names index → first_in index (hash_of name) ≡ None → IsKnown names name None
unknown-first names index name i none n at =
    ⊎_elim (λ first. none-is-some _ n none (ap (λ q. first_in index (hash_of q)) (sym at.1) ∙ first))
    (λ other. none-is-some _ n (i.behind name none) (ap (other_in index) (sym at.1) ∙ other)) (i.found n at.0)

pub known-other : (names : List (List ℕ)) (index : NameIndex) (name : List ℕ) (m : ℕ) → IsIndex names index → first_in index (hash_of name) ≡ Some m → (IsNumber names name m → ⊥)
    → IsKnown names name (other_in index name)
known-other names index name m i first apart = by (other_in index name) refl
  where
    by : (number : Option ℕ) → other_in index name ≡ number → IsKnown names name number
    by (Some n) is = known-found names name n i.apart (i.others_stand name n is)
    by None is = λ n at.
        ⊎_elim
        (λ here. apart (subst (IsNumber names name) (let d : ◌≡◌ {A = Option ℕ} (Some n) (Some m) = sym here ∙ ap (λ q. first_in index (hash_of q)) at.1 ∙ first in cc) at))
        (λ other. none-is-some _ n is (ap (other_in index) (sym at.1) ∙ other)) (i.found n at.0)

-- a number that isn't the key keeps its value
pub other-key : (old new : BTreeMap ℕ ℕ) (key : ℕ) (w : Option ℕ) → Updates nat_cmp old new key w → (n : ℕ) → (n ≡ key → ⊥) → get nat_cmp new n ≡ get nat_cmp old n
other-key old new key w u n apart = u.0 n ∙ ap (λ b. cond b w (get nat_cmp old n)) (by (nat_cmp key n) refl)
  where
    by : (o : Ordering) → nat_cmp key n ≡ o → is_eq o ≡ false
    by Less is = refl
    by Equal is = absurd (apart (sym (exact_unsigned key n is)))
    by Greater is = refl

-- An index with a new name.
pub first-more : (names : List (List ℕ)) (old new : NameIndex) (name : List ℕ) (number : ℕ) → IsIndex names old → IsKnown names name None → number ≡ length names
    → first_in old (hash_of name) ≡ None → first_in new (hash_of name) ≡ Some number → ((hash : ℕ) → (hash ≡ hash_of name → ⊥) → first_in new hash ≡ first_in old hash)
    → new.others ≡ old.others → IsIndex (names ++ name ∷ []) new
first-more names old new name number i unknown next none here there kept = record {
  apart = apart-more names name i.apart unknown;
  found = λ n less. found n (stood names name n less);
  others_stand = λ q n is. number-more names (name ∷ []) q n (i.others_stand q n (sym (other q) ∙ is));
  behind = λ q is. other q ∙ i.behind q (sym (there (hash_of q) (λ same. none-is-some _ number is (ap (first_in new) same ∙ here))) ∙ is);
}
  where
    other : (q : List ℕ) → other_in new q ≡ other_in old q
    other q = ap (λ o. other_in (record { first = new.first; others = o }) q) kept

    found : (n : ℕ) → (IsNumber names (get_or (names ++ name ∷ []) n []) n) ⊎ ((n ≡ length names) × (get_or (names ++ name ∷ []) n [] ≡ name))
        → (first_in new (hash_of (get_or (names ++ name ∷ []) n [])) ≡ Some n) ⊎ (other_in new (get_or (names ++ name ∷ []) n []) ≡ Some n)
    found n (inr last) = inl (ap (λ q. first_in new (hash_of q)) last.1 ∙ here ∙ ap Some (next ∙ sym last.0))
    found n (inl at) =
        let q = get_or (names ++ name ∷ []) n [] in
        ⊎_elim
        (λ first.
        let is : first_in old (hash_of q) ≡ Some n = ap (λ p. first_in old (hash_of p)) (sym at.1) ∙ first in
        inl (there (hash_of q) (λ same. none-is-some _ n none (ap (first_in old) (sym same) ∙ is)) ∙ is))
        (λ o. inr (other q ∙ ap (other_in old) (sym at.1) ∙ o)) (i.found n at.0)

pub other-more : (names : List (List ℕ)) (old new : NameIndex) (name : List ℕ) (number : ℕ) → IsIndex names old → IsKnown names name None → number ≡ length names
    → (first_in old (hash_of name) ≡ None → ⊥) → ((q : List ℕ) → other_in new q ≡ cond (bytes_eq name q) (Some number) (other_in old q))
    → new.first ≡ old.first → IsIndex (names ++ name ∷ []) new
other-more names old new name number i unknown next some writes kept = record {
  apart = apart-more names name i.apart unknown;
  found = λ n less. found n (stood names name n less);
  others_stand = λ q n is. stands q n (bytes_eq name q) refl (sym (writes q) ∙ is);
  behind = λ q none. behind q (bytes_eq name q) refl (sym (first (hash_of q)) ∙ none);
}
  where
    first : (hash : ℕ) → first_in new hash ≡ first_in old hash
    first hash = ap (λ f. first_in (record { first = f; others = new.others }) hash) kept

    found : (n : ℕ) → (IsNumber names (get_or (names ++ name ∷ []) n []) n) ⊎ ((n ≡ length names) × (get_or (names ++ name ∷ []) n [] ≡ name))
        → (first_in new (hash_of (get_or (names ++ name ∷ []) n [])) ≡ Some n) ⊎ (other_in new (get_or (names ++ name ∷ []) n []) ≡ Some n)
    found n (inr last) =
        inr (ap (other_in new) last.1 ∙ writes name ∙ ap (λ b. cond b (Some number) (other_in old name)) ((bytes_eq-Decides name name).1 refl) ∙ ap Some (next ∙ sym last.0))
    found n (inl at) =
        let q = get_or (names ++ name ∷ []) n [] in
        ⊎_elim (λ f. inl (first (hash_of q) ∙ ap (λ p. first_in old (hash_of p)) (sym at.1) ∙ f))
        (λ o. inr (writes q ∙ ap (λ b. cond b (Some number) (other_in old q)) (differ q n at (bytes_eq name q) refl) ∙ ap (other_in old) (sym at.1) ∙ o)) (i.found n at.0)
      where
        differ : (q : List ℕ) (n : ℕ) → IsNumber names q n → (b : Bool) → bytes_eq name q ≡ b → b ≡ false
        differ q n at true is = absurd (unknown n (at.0, at.1 ∙ sym ((bytes_eq-Decides name q).0 is)))
        differ q n at false is = refl

    stands : (q : List ℕ) (n : ℕ) (b : Bool) → bytes_eq name q ≡ b → cond b (Some number) (other_in old q) ≡ Some n → IsNumber (names ++ name ∷ []) q n
    stands q n true same is =
        subst (λ p. IsNumber (names ++ name ∷ []) p n) ((bytes_eq-Decides name q).0 same)
        (stands-last names name n (let d : ◌≡◌ {A = Option ℕ} (Some number) (Some n) = is in sym (let e : number ≡ n = cc in e) ∙ next))
    stands q n false same is = number-more names (name ∷ []) q n (i.others_stand q n is)

    behind : (q : List ℕ) (b : Bool) → bytes_eq name q ≡ b → first_in old (hash_of q) ≡ None → other_in new q ≡ None
    behind q true same none = absurd (some (ap (λ p. first_in old (hash_of p)) ((bytes_eq-Decides name q).0 same) ∙ none))
    behind q false same none = writes q ∙ ap (λ b. cond b (Some number) (other_in old q)) same ∙ i.behind q none

-- The same entries are the same index.
pub index-kept : (names : List (List ℕ)) (old new : NameIndex) → IsIndex names old → new.first.entries ≡ old.first.entries → new.others.entries ≡ old.others.entries → IsIndex names new
index-kept names old new i firsts others = record {
  apart = i.apart;
  found = λ n less. ⊎_elim (λ f. inl (first _ ∙ f)) (λ o. inr (other _ ∙ o)) (i.found n less);
  others_stand = λ q n is. i.others_stand q n (sym (other q) ∙ is);
  behind = λ q none. other q ∙ i.behind q (sym (first _) ∙ none);
}
  where
    first : (hash : ℕ) → first_in new hash ≡ first_in old hash
    first hash = ap (λ es. lookup (is_at (nat_cmp hash)) es) firsts

    other : (q : List ℕ) → other_in new q ≡ other_in old q
    other q = ap (λ es. lookup (is_at (λ key. slice_cmp nat_cmp q key.items)) es) others

pub on-err : {T E P : Type 0} (result : Result T E) → P → OnErr result P
on-err (Ok value) p = tt
on-err (Err fault) p = p
