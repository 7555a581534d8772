-- What a step does to a stack, and to what is still to come.
use Rattle.std.proofs.Common.{◌≡◌, ℕ, Bool, true, false, cond, ◌||◌, ◌==◌, List, [], ◌∷◌, ◌++◌, Option, Some, None, refl, sym, ap, ◌∙◌, append_assoc}
use Rattle.std.specs.Borrow.{Bor}
use Rattle.tb_token.specs.grammar.Grammar as grammar
use Rattle.tb_token.specs.grammar.Grammar.{one, both, either, maybe, many, opened, has, Rules}
use Rattle.tb_token.specs.grammar.Reading.{first_set_before, first_set, takes}
use Rattle.tb_token.specs.reading.View.{expression_of}
use Rattle.tb_token.specs.reading.Machine.{begins_by, Step, taken, passed, stuck, or_else, step}
use Rattle.tb_token.specs.reading.Stack.{expressions_in}
use Rattle.tb_token.specs.declared.reader.expression.Expression.{Expression}

-- the top of a stack comes first
pub expressions_in-push : (stack : List (Bor Expression)) (p : Bor Expression) → expressions_in (stack ++ p ∷ []) ≡ expression_of p.now ∷ expressions_in stack
expressions_in-push [] p = refl
expressions_in-push (q ∷ above) p = ap (λ ps. ps ++ expression_of q.now ∷ []) (expressions_in-push above p)

has-append : (xs ys : List ℕ) (x : ℕ) → has (xs ++ ys) x ≡ (has xs x || has ys x)
has-append [] ys x = refl
has-append (y ∷ xs) ys x = ap (λ b. y == x || b) (has-append xs ys x) ∙ by (y == x) (has xs x) (has ys x)
  where
    by : (a b c : Bool) → (a || (b || c)) ≡ ((a || b) || c)
    by true b c = refl
    by false b c = refl

-- an expression begins with the terminal where it is in its FIRST
pub begins-first_set_before : (p : grammar.Expression) (xs : List ℕ) (x : ℕ) → begins_by p x (has xs x) ≡ has (first_set_before p xs) x
begins-first_set_before (one c) xs x = refl
begins-first_set_before (both p q) xs x = ap (λ b. begins_by p x b) (begins-first_set_before q xs x) ∙ begins-first_set_before p (first_set_before q xs) x
begins-first_set_before (either p q) xs x =
    let one_is = begins-first_set_before p xs x in
    let two_is = begins-first_set_before q xs x in
    rw (one_is, two_is) (sym (has-append (first_set_before p xs) (first_set_before q xs) x))
begins-first_set_before (maybe p) xs x = rw (begins-first_set_before p xs x) (sym (has-append (first_set_before p xs) xs x))
begins-first_set_before (many p) xs x = rw (begins-first_set_before p xs x) (sym (has-append (first_set_before p xs) xs x))
begins-first_set_before (opened c n) xs x = refl

begins-first_set : (p : grammar.Expression) (x : ℕ) → begins_by p x false ≡ has (first_set p) x
begins-first_set p x = begins-first_set_before p [] x

-- what is still to come behind a step
abbrev pub behind : Step → List grammar.Expression → Option (List grammar.Expression) → Option (List grammar.Expression)
behind (taken rs) ps other = Some (rs ++ ps)
behind passed ps other = other
behind stuck ps other = None

behind-or : (s t : Step) (q : grammar.Expression) (ps : List grammar.Expression) (other : Option (List grammar.Expression))
    → behind (or_else s q t) ps other ≡ behind s (q ∷ ps) (behind t ps other)
behind-or (taken rs) t q ps other = ap (λ l. Some l) (append_assoc rs (q ∷ []) ps)
behind-or passed t q ps other = refl
behind-or stuck t q ps other = refl

behind-cond : (b : Bool) (s t : Step) (ps : List grammar.Expression) (other : Option (List grammar.Expression))
    → behind (cond b s t) ps other ≡ cond b (behind s ps other) (behind t ps other)
behind-cond true s t ps other = refl
behind-cond false s t ps other = refl

module _ (rules : Rules) (x : ℕ) where
  -- a step is what the expression takes
  pub step-takes : (p : grammar.Expression) (ps : List grammar.Expression) (other : Option (List grammar.Expression)) → behind (step rules p x) ps other ≡ takes rules p x ps other
  step-takes (one c) ps other = behind-cond (has c x) (taken []) stuck ps other
  step-takes (both p q) ps other =
      behind-or (step rules p x) (step rules q x) q ps other ∙ ap (λ o. behind (step rules p x) (q ∷ ps) o) (step-takes q ps other)
      ∙ step-takes p (q ∷ ps) (takes rules q x ps other)
  step-takes (either p q) ps other =
      let one_is = step-takes p ps other in
      let two_is = step-takes q ps other in
      behind-cond (begins_by p x false) (step rules p x) (step rules q x) ps other ∙ rw (one_is, two_is, begins-first_set p x) refl
  step-takes (maybe p) ps other =
      let one_is = step-takes p ps other in
      behind-cond (begins_by p x false) (step rules p x) passed ps other ∙ rw (one_is, begins-first_set p x) refl
  step-takes (many p) ps other =
      let one_is = behind-or (step rules p x) stuck (many p) ps other ∙ step-takes p (many p ∷ ps) None in
      behind-cond (begins_by p x false) (or_else (step rules p x) (many p) stuck) passed ps other ∙ rw (one_is, begins-first_set p x) refl
  step-takes (opened c n) ps other = behind-cond (has c x) (taken (rules n ∷ [])) stuck ps other
