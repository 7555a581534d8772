-- Maps by texts.
use Rattle.std.proofs.Common.{Vec, Global, ◌≡◌, ℕ, Bool, true, false, cond, List, Option, refl, sym, ◌∙◌, subst}
use Rattle.std.specs.BTreeMap.{BTreeMap, get_by, UpdatesBy}
use Rattle.std.specs.Map.{lookup, IsKeyTest, AreApart, KeepsOthers}
use Rattle.std.specs.Cmp.{eq_by_cmp_equiv}
use Rattle.std.specs.Cmp.Lexicographic.{slice_cmp, nat_list_cmp_total, nat_list_eq_equiv, bytes_decides}
use Rattle.std.specs.declared.cmp.Ordering.{Ordering}
use Rattle.std.specs.Ordering.{is_eq, nat_cmp}
use Rattle.std.specs.Str.{bytes_eq}
use Rattle.std.proofs.lemmas.Map.Text.{is_eq-slice_cmp}

apart : (bs cs ks : List ℕ) → bytes_eq bs cs ≡ false → is_eq (slice_cmp nat_cmp bs ks) ≡ true → is_eq (slice_cmp nat_cmp cs ks) ≡ false
apart bs cs ks n y =
    let same = sym (is_eq-slice_cmp bs ks) ∙ y in
    is_eq-slice_cmp cs ks ∙ nat_list_eq_equiv.symm cs ks ∙ sym (nat_list_eq_equiv.congr bs ks cs same) ∙ n

module _ {K : Type 0} (eq : K → K → Bool) (test : K → Bool) where
  other_entries : {X : Type 0} (old new : List (K × X)) → KeepsOthers eq test old new → (other : K → Bool) → IsKeyTest eq other → AreApart test other → lookup other new ≡ lookup other old
  unfolding KeepsOthers
  other_entries old new h = h

abbrev pub Key : Type 0
Key = Vec ℕ Global

abbrev pub by_key : List ℕ → Key → Ordering
by_key q k = slice_cmp nat_cmp q k.items

-- an insert changes the value of its key alone
pub updated : (m n : BTreeMap Key ℕ) (key : List ℕ) (w : Option ℕ) → UpdatesBy (λ (x y : Key). slice_cmp nat_cmp x.items y.items) (by_key key) m n w
    → (q : List ℕ) → get_by (by_key q) n ≡ cond (bytes_eq key q) w (get_by (by_key q) m)
updated m n key w u q = by (bytes_eq key q) refl
  where
    by : (t : Bool) → bytes_eq key q ≡ t → get_by (by_key q) n ≡ cond t w (get_by (by_key q) m)
    by true e = subst (λ l. get_by (by_key l) n ≡ w) ((bytes_decides key q).0 e) u.1
    by false e = other_entries _ _ _ _ u.3 _ (λ x y. (eq_by_cmp_equiv nat_list_cmp_total).congr q x.items y.items) (λ k. apart key q k.items e)
