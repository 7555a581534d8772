-- Trimming as a step on lists of links, and what it keeps of a state of joins.
use Rattle.std.proofs.Common.{◌≡◌, ℕ, zero, suc, ◌-◌, ◌<◌, ◌≤◌, Bool, true, false, cond, not, nat_eq, ◌⊎◌, inl, inr, List, [], ◌∷◌, length, get_or, set, All, refl, sym, ap, ◌∙◌, subst, arith, Vec, Global}
use Rattle.std.specs.List.{AllByRecursion}
use Rattle.std.proofs.lemmas.Bool.{cond-true, cases_eq, cases_lt, and_parts, false≢true}
use Rattle.std.proofs.lemmas.List.{map-set, length-set, get_or-set_same, get_or-set_other}
use Rattle.std.proofs.lemmas.List.Elements.{All-filter, All-from_recursion}
use Rattle.tb_tree.proofs.lists.Alls.{all-passing}
use Rattle.tb_twig.specs.Links.{lists_in, links_at}
use Rattle.tb_twig.specs.Narrowed.{leads_from, asks}
use Rattle.tb_twig.specs.Trimmed.{laid_at, leading_on, asks_above, trim_step, trimmed, IsTrimmedAt, AreTrimmed}
use Rattle.tb_twig.specs.declared.branch.Branch as code
use Rattle.tb_twig.specs.declared.link.Link.{Link}

pub trim-is : (laid : List code.Branch) (f : ℕ) (links : List (Vec Link Global)) (kept : Vec Link Global) → asks_above (laid_at laid f) ≡ true
    → kept.items ≡ leading_on (links_at links f) (links_at links ((laid_at laid f).up - 1))
    → lists_in (set links ((laid_at laid f).up - 1) kept) ≡ trim_step laid f (lists_in links)
trim-is laid f links kept asked is =
    let above = (laid_at laid f).up - 1 in
    map-set (λ (v : Vec Link Global). v.items) links above kept
    ∙ ap (set (lists_in links) above) is
    ∙ sym (cond-true (asks_above (laid_at laid f)) (set (lists_in links) above (leading_on (links_at links f) (links_at links above))) (lists_in links) asked)

itself : (p : Link → Bool) (ls : List Link) → AllByRecursion (λ l. p l ≡ true → p l ≡ true) ls
itself p [] = tt
itself p (l ∷ ls) = ((λ k. k), itself p ls)

-- What one step leaves: no link of the edge above that is in vain for this one.
module _ (laid : List code.Branch) (m : ℕ) (up : (f : ℕ) → f < m → (laid_at laid f).up ≤ f) where
  -- edge f, whose step is done, stays so in the step of an edge before it
  stays : (links : List (List Link)) (f g : ℕ) → f < g → g < m → length links ≡ m → IsTrimmedAt laid links g → IsTrimmedAt laid (trim_step laid f links) g
  stays links f g before less long is = at (asks_above (laid_at laid f)) refl
    where
      e : ℕ
      e = (laid_at laid f).up - 1

      own : List Link
      own = leading_on (get_or links f []) (get_or links e [])

      low : e < g
      low = let k = up f (omega (arith, before, less)) in omega (arith, k, before)

      above : (h : ℕ) → (h ≡ e) ⊎ (h ≡ e → ⊥) → (P : Link → Type 0) → All P (get_or links h []) → All P (get_or (set links e own) h [])
      above h (inl same) P all =
          subst (λ k. All P (get_or (set links e own) k [])) (sym same)
          (subst (All P) (sym (get_or-set_same links e own [] (omega (arith, low, less, long))))
          (All-filter (λ (l : Link). leads_from (get_or links f []) l.below) P (get_or links e []) (subst (λ k. All P (get_or links k [])) same all)))
      above h (inr other) P all = subst (All P) (sym (get_or-set_other links e h own [] other)) all

      at : (b : Bool) → asks_above (laid_at laid f) ≡ b → IsTrimmedAt laid (cond b (set links e own) links) g
      at false is_not = is
      at true asked = λ asks.
          let h = (laid_at laid g).up - 1 in
          subst (λ ls. All (λ (l : Link). leads_from ls l.below ≡ true) (get_or (set links e own) h []))
          (sym (get_or-set_other links e g own [] (λ same. omega (arith, same, low))))
          (above h (cases_eq h e) (λ l. leads_from (get_or links g []) l.below ≡ true) (is asks))

  -- edge f itself
  here : (links : List (List Link)) (f : ℕ) → f < m → length links ≡ m → IsTrimmedAt laid (trim_step laid f links) f
  here links f less long = at (asks_above (laid_at laid f)) refl
    where
      e : ℕ
      e = (laid_at laid f).up - 1

      own : List Link
      own = leading_on (get_or links f []) (get_or links e [])

      before : (n : ℕ) → not (nat_eq n 0) ≡ true → n ≤ f → n - 1 < f
      before zero g low = absurd (let k : ◌≡◌ {A = Bool} false true = g in cc)
      before (suc n) g low = omega (arith, low)

      at : (b : Bool) → asks_above (laid_at laid f) ≡ b → IsTrimmedAt laid (cond b (set links e own) links) f
      at false is_not = λ asked. absurd (false≢true (sym is_not ∙ asked))
      at true asked = λ again.
          let low = before (laid_at laid f).up (and_parts (asks (laid_at laid f).mark) (not (nat_eq (laid_at laid f).up 0)) asked).1 (up f less) in
          subst (λ ls. All (λ (l : Link). leads_from ls l.below ≡ true) (get_or (set links e own) e []))
          (sym (get_or-set_other links e f own [] (λ same. omega (arith, same, low))))
          (subst (All (λ (l : Link). leads_from (get_or links f []) l.below ≡ true)) (sym (get_or-set_same links e own [] (omega (arith, low, less, long))))
          (All-from_recursion (λ (l : Link). leads_from (get_or links f []) l.below ≡ true) own
          (all-passing (λ l. leads_from (get_or links f []) l.below ≡ true) (λ l. leads_from (get_or links f []) l.below) (get_or links e []) (itself (λ l. leads_from (get_or links f []) l.below) (get_or links e [])))))

  step-long : (links : List (List Link)) (f : ℕ) → length (trim_step laid f links) ≡ length links
  step-long links f = at (asks_above (laid_at laid f))
    where
      at : (b : Bool) → length (cond b (set links ((laid_at laid f).up - 1) (leading_on (get_or links f []) (get_or links ((laid_at laid f).up - 1) []))) links) ≡ length links
      at true = length-set links ((laid_at laid f).up - 1) (leading_on (get_or links f []) (get_or links ((laid_at laid f).up - 1) []))
      at false = refl

  -- From the last of n edges to the first, where those behind them are done.
  trimmed-from : (n : ℕ) (links : List (List Link)) → n ≤ m → length links ≡ m → ((g : ℕ) → n ≤ g → g < m → IsTrimmedAt laid links g)
      → (g : ℕ) → g < m → IsTrimmedAt laid (trimmed laid n links) g
  trimmed-from zero links within long done = λ g less. done g (omega arith) less
  trimmed-from (suc f) links within long done =
      trimmed-from f (trim_step laid f links) (omega (arith, within)) (step-long links f ∙ long)
      (λ g from less. at g from less (cases_lt f g))
    where
      at : (g : ℕ) → f ≤ g → g < m → (f < g) ⊎ (g ≤ f) → IsTrimmedAt laid (trim_step laid f links) g
      at g from less (inl behind) = stays links f g behind less long (done g (omega (arith, behind)) less)
      at g from less (inr not_behind) =
          let same : f ≡ g = omega (arith, from, not_behind) in
          subst (IsTrimmedAt laid (trim_step laid f links)) same (here links f (omega (arith, within)) long)

  pub trimmed-is : (links : List (List Link)) → length laid ≡ m → length links ≡ m → AreTrimmed laid (trimmed laid (length laid) links)
  trimmed-is links many long f less =
      trimmed-from (length laid) links (omega (arith, many)) long (λ g from within. absurd (omega (arith, many, from, within))) f (omega (arith, less, many))
