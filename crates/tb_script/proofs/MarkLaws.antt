-- The numbers of marks, once a name is told.
use Rattle.std.proofs.Common.{◌≡◌, ℕ, suc, ◌+◌, Bool, true, false, cond, List, [], ◌∷◌, ◌++◌, Option, Some, None, length, refl, sym, ap, ap₂, ◌∙◌, arith, length-append}
use Rattle.std.specs.Option.{option_map}
use Rattle.std.specs.BTreeMap.{UpdatesBy}
use Rattle.std.specs.Cmp.Lexicographic.{slice_cmp, nat_list_eq_equiv, bytes_decides}
use Rattle.std.specs.Ordering.{nat_cmp}
use Rattle.std.specs.Str.{bytes_eq}
use Rattle.std.proofs.lemmas.Bool.{false≢true}
use Rattle.tb_tree.specs.NameTables.{place_of}
use Rattle.tb_tree.proofs.TextMaps.{Key, by_key, updated}
use Rattle.tb_script.specs.Tallies.{Tells, get_at}
use Rattle.tb_script.specs.declared.marks.Marks.{Marks}
use Rattle.tb_tree.proofs.lists.Options.{option_map-none}

-- a name that stands nowhere in a list doesn't stand first, and nowhere in the rest
pub nowhere : (name first : List ℕ) (rest : List (List ℕ)) → place_of name (first ∷ rest) ≡ None → (bytes_eq name first ≡ false) × (place_of name rest ≡ None)
nowhere name first rest e = by (bytes_eq name first) refl e
  where
    by : (t : Bool) → bytes_eq name first ≡ t → cond t (Some 0) (option_map (λ n. n + 1) (place_of name rest)) ≡ None → (bytes_eq name first ≡ false) × (place_of name rest ≡ None)
    by true is e = absurd (let d : ◌≡◌ {A = Option ℕ} (Some 0) None = e in cc)
    by false is e = (is, option_map-none (λ n. n + 1) (place_of name rest) e)

-- a new name takes the next place
place_of-new : (name q : List ℕ) (names : List (List ℕ)) → place_of name names ≡ None
    → place_of q (names ++ name ∷ []) ≡ cond (bytes_eq name q) (Some (length names)) (place_of q names)
place_of-new name q [] e = ap (λ t. cond t (Some 0) None) (nat_list_eq_equiv.symm q name)
place_of-new name q (first ∷ rest) e =
    let apart = nowhere name first rest e in
    by (bytes_eq name q) (bytes_eq q first) refl refl apart.0 (place_of-new name q rest apart.1)
  where
    by : (t s : Bool) → bytes_eq name q ≡ t → bytes_eq q first ≡ s → bytes_eq name first ≡ false
        → place_of q (rest ++ name ∷ []) ≡ cond (bytes_eq name q) (Some (length rest)) (place_of q rest)
        → cond (bytes_eq q first) (Some 0) (option_map (λ n. n + 1) (place_of q (rest ++ name ∷ [])))
        ≡ cond (bytes_eq name q) (Some (suc (length rest))) (cond (bytes_eq q first) (Some 0) (option_map (λ n. n + 1) (place_of q rest)))
    by true true e f g ih = absurd (false≢true (sym g ∙ ap (λ l. bytes_eq l first) ((bytes_decides name q).0 e) ∙ f))
    by true false e f g ih = rw (f, ih, e) (ap Some (let s : length rest + 1 ≡ suc (length rest) = omega arith in s))
    by false true e f g ih = rw (e, f) refl
    by false false e f g ih = rw (f, ih, e) refl

-- the map with one name more
pub tells-more : (m n : Marks) (names : List (List ℕ)) (name key : List ℕ) → Tells m names → place_of name names ≡ None → key ≡ name
    → UpdatesBy (λ (x y : Key). slice_cmp nat_cmp x.items y.items) (by_key key) m.numbers n.numbers (Some m.count) → n.count ≡ m.count + 1 → Tells n (names ++ name ∷ [])
tells-more m n names name key t new same u more =
    record {
      count = more ∙ ap (λ k. k + 1) t.count ∙ omega (arith, length-append names (name ∷ []));
      numbers = λ q.
          updated m.numbers n.numbers key (Some m.count) u q
          ∙ ap₂ (λ k c. cond (bytes_eq k q) (Some c) (get_at m q)) same t.count
          ∙ ap (λ o. cond (bytes_eq name q) (Some (length names)) o) (t.numbers q)
          ∙ sym (place_of-new name q names new);
    }
