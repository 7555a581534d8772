-- Names and their numbers.
use Rattle.std.proofs.Common.{◌≡◌, ◌⊎◌, inl, inr, ℕ, zero, suc, ◌+◌, ◌<◌, ◌≤◌, Bool, true, false, cond, ◌-◌, List, [], ◌∷◌, ◌++◌, length, take, get_or, replicate, Option, Some, None, refl, sym, ap, ◌∙◌, subst, arith, ⊎_elim, length-append}
use Rattle.std.specs.Option.{option_map}
use Rattle.std.specs.Str.{bytes_eq}
use Rattle.std.proofs.lemmas.Bool.{cases_lt, false≢true}
use Rattle.std.proofs.lemmas.List.{get_or_append_left, get_or_push, take_at, get_or-append_right, get_or-replicate}
use Rattle.std.proofs.lemmas.Slice.Eq.{bytes_eq-Decides}
use Rattle.tb_tree.specs.NameTables.{AreApart, IsKnown, IsMore, same, one_more, IsNumber, place_of}

pub more-length : (old new : List (List ℕ)) → IsMore old new → (length old ≤ length new) × (length new ≤ length old + 1)
more-length old new (same e) = (omega (arith, ap length e), omega (arith, ap length e))
more-length old new (one_more name e) = (omega (arith, ap length e, length-append old (name ∷ [])), omega (arith, ap length e, length-append old (name ∷ [])))

-- The number of a name is its own.
pub known-found : (names : List (List ℕ)) (name : List ℕ) (n : ℕ) → AreApart names → IsNumber names name n → IsKnown names name (Some n)
known-found names name n apart at = (at, λ k other. apart k n other.0 at.0 (other.1 ∙ sym at.1))

-- Different names with a new one at their end.
pub number-more : (names more : List (List ℕ)) (name : List ℕ) (n : ℕ) → IsNumber names name n → IsNumber (names ++ more) name n
number-more names more name n at = (omega (arith, at.0, length-append names more), get_or_append_left names more [] n at.0 ∙ at.1)

pub stands-last : (names : List (List ℕ)) (name : List ℕ) (n : ℕ) → n ≡ length names → IsNumber (names ++ name ∷ []) name n
stands-last names name n is = (omega (arith, is, length-append names (name ∷ [])), get_or_push names name [] n (sym is))

-- what stands in names with one at their end, stands there already or is that one
pub stood : (names : List (List ℕ)) (name : List ℕ) (n : ℕ) → n < length (names ++ name ∷ [])
    → (IsNumber names (get_or (names ++ name ∷ []) n []) n) ⊎ ((n ≡ length names) × (get_or (names ++ name ∷ []) n [] ≡ name))
stood names name n less = ⊎_elim (λ (old : n < length names). inl (old, sym (get_or_append_left names (name ∷ []) [] n old))) (λ (past : length names ≤ n). inr (last past)) (cases_lt n (length names))
  where
    last : length names ≤ n → (n ≡ length names) × (get_or (names ++ name ∷ []) n [] ≡ name)
    last past =
        let is : n ≡ length names = omega (arith, less, past, length-append names (name ∷ [])) in
        (is, get_or_push names name [] n (sym is))

pub apart-more : (names : List (List ℕ)) (name : List ℕ) → AreApart names → IsKnown names name None → AreApart (names ++ name ∷ [])
apart-more names name apart new m n less more e = by (stood names name m less) (stood names name n more)
  where
    by : (IsNumber names (get_or (names ++ name ∷ []) m []) m) ⊎ ((m ≡ length names) × (get_or (names ++ name ∷ []) m [] ≡ name))
        → (IsNumber names (get_or (names ++ name ∷ []) n []) n) ⊎ ((n ≡ length names) × (get_or (names ++ name ∷ []) n [] ≡ name)) → m ≡ n
    by (inl a) (inl b) = apart m n a.0 b.0 (a.1 ∙ e ∙ sym b.1)
    by (inl a) (inr b) = absurd (new m (a.0, a.1 ∙ e ∙ b.1))
    by (inr a) (inl b) = absurd (new n (b.0, b.1 ∙ sym e ∙ a.1))
    by (inr a) (inr b) = a.0 ∙ sym b.0

-- The first place of a name has it, and where there is none it stands nowhere.
pub place-stands : (names : List (List ℕ)) (name : List ℕ) (n : ℕ) → place_of name names ≡ Some n → IsNumber names name n
place-stands [] name n e = (let d : ◌≡◌ {A = Option ℕ} None (Some n) = e in cc)
place-stands (first ∷ rest) name n e = by (place-stands rest name) (bytes_eq name first) refl e
  where
    behind : (place : Option ℕ) → ((k : ℕ) → place ≡ Some k → IsNumber rest name k) → option_map (λ k. k + 1) place ≡ Some n → IsNumber (first ∷ rest) name n
    behind None stands e = (let d : ◌≡◌ {A = Option ℕ} None (Some n) = e in cc)
    behind (Some k) stands e =
        let at = stands k refl in
        let is : suc k ≡ n = let d : ◌≡◌ {A = Option ℕ} (Some (k + 1)) (Some n) = e in let m : k + 1 ≡ n = cc in omega (arith, m) in
        subst (IsNumber (first ∷ rest) name) is (omega (arith, at.0), at.1)

    by : ((k : ℕ) → place_of name rest ≡ Some k → IsNumber rest name k) → (here : Bool) → bytes_eq name first ≡ here → cond here (Some 0) (option_map (λ k. k + 1) (place_of name rest)) ≡ Some n
        → IsNumber (first ∷ rest) name n
    by stands true is e =
        let at : zero ≡ n = let d : ◌≡◌ {A = Option ℕ} (Some 0) (Some n) = e in cc in
        subst (IsNumber (first ∷ rest) name) at (omega arith, sym ((bytes_eq-Decides name first).0 is))
    by stands false is e = behind (place_of name rest) stands e

pub place-none : (names : List (List ℕ)) (name : List ℕ) → place_of name names ≡ None → IsKnown names name None
place-none [] name e n at = omega (arith, at.0)
place-none (first ∷ rest) name e n at = by (place-none rest name) (bytes_eq name first) refl e n at
  where
    behind : (place : Option ℕ) → (place ≡ None → IsKnown rest name None) → option_map (λ k. k + 1) place ≡ None → IsKnown rest name None
    behind None unknown e = unknown refl
    behind (Some k) unknown e = (let d : ◌≡◌ {A = Option ℕ} (Some (k + 1)) None = e in cc)

    by : (place_of name rest ≡ None → IsKnown rest name None) → (here : Bool) → bytes_eq name first ≡ here → cond here (Some 0) (option_map (λ k. k + 1) (place_of name rest)) ≡ None
        → (n : ℕ) → IsNumber (first ∷ rest) name n → ⊥
    by unknown true is e n at = (let d : ◌≡◌ {A = Option ℕ} (Some 0) None = e in cc)
    by unknown false is e zero at = false≢true (sym is ∙ (bytes_eq-Decides name first).1 (sym at.1))
    by unknown false is e (suc n) at = behind (place_of name rest) unknown e n (omega (arith, at.0), at.1)

-- what is known of a name is its first place
pub known-place : (names : List (List ℕ)) (name : List ℕ) (number : Option ℕ) → IsKnown names name number → number ≡ place_of name names
known-place names name number known = by number (place_of name names) known refl
  where
    by : (number place : Option ℕ) → IsKnown names name number → place_of name names ≡ place → number ≡ place
    by None None known is = refl
    by None (Some k) known is = absurd (known k (place-stands names name k is))
    by (Some n) None known is = absurd (place-none names name is n known.0)
    by (Some n) (Some k) known is = ap Some (sym (known.1 k (place-stands names name k is)))

-- what was pushed is taken off again
pub popped : (prefix new less : List (List ℕ)) (name : List ℕ) (len : ℕ) → new ≡ prefix ++ name ∷ [] → len ≡ length new → less ≡ take (len - 1) new → less ≡ prefix
popped prefix new less name len is long rest =
    rest ∙ ap (take (len - 1)) is ∙ take_at prefix (name ∷ []) (len - 1) (omega (arith, long, ap length is, length-append prefix (name ∷ [])))

-- What a number means, however many names come, stands in the table.
pub known-number : (names : List (List ℕ)) (n : ℕ) (name : List ℕ) → ((more : List (List ℕ)) → get_or (names ++ more) n [] ≡ name) → IsNumber names name n
known-number names n name all = ⊎_elim (λ (less : n < length names). within less) (λ (past : length names ≤ n). absurd (outside past)) (cases_lt n (length names))
  where
    within : n < length names → IsNumber names name n
    within less = (less, sym (get_or_append_left names [] [] n less) ∙ all [])

    outside : length names ≤ n → ⊥
    outside past =
        let more = replicate (n - length names + 1) (0 ∷ name) in
        let there : get_or (names ++ more) n [] ≡ 0 ∷ name =
        get_or-append_right names more (length names) n [] refl past ∙ get_or-replicate (n - length names + 1) (n - length names) (0 ∷ name) [] (omega arith) in
        omega (arith, ap length (sym there ∙ all more))
