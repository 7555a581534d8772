-- The actions of a query part by part, beside the tokens and the events of its tree.
use Rattle.std.proofs.Common.{ℕ, ◌+◌, ◌<◌, ◌≤◌, List, [], ◌∷◌, ◌++◌, length, refl, arith}
use Rattle.std.specs.Prelude.{codes, flat_map}
use Rattle.std.proofs.lemmas.Grind.{flat_map-append}
use Rattle.tb_token.specs.grammar.Grammar.{both, either, maybe, many}
use Rattle.tb_token.specs.grammar.Sentences.{Tree, leaf}
use Rattle.tb_token.specs.grammar.Terminals.{keyword, comma}
use Rattle.tb_token.specs.grammar.Patterns.{doc, literal}
use Rattle.tb_token.specs.grammar.Paths.{step, steps, longpath, path, operand}
use Rattle.tb_token.specs.grammar.Queries.{bind, clause, where_part, group, key, order}
use Rattle.tb_token.specs.grammar.Queries as part
use Rattle.tb_query.specs.Actions.{binds, takes, actions_of_operand, actions_of_clause, actions_of_right, actions_of_comparison, actions_of_group, actions_of_key}
use Rattle.tb_query.specs.declared.clause.Clause.{Clause}
use Rattle.tb_query.specs.declared.operand.Comparison.{Comparison}
use Rattle.tb_query.specs.declared.clause.Key.{Key}
use Rattle.tb_pattern.proofs.PartLaws.{Of, of_one, of_both, of_first, of_second, of_nothing, of_put, of_none, of_more}
use Rattle.tb_flwor.specs.Events as event
use Rattle.tb_flwor.specs.Events.{Event, in_path, in_own_path, in_longpath, in_operand, in_bind, in_binds, in_clause, in_clauses, in_right, in_cond, in_more_conds, in_conds, in_group, in_key, in_more_keys, in_keys}
use Rattle.tb_flwor.specs.Value.{BoundNames, var_in, more_steps, steps_of, path_of, longpath_of, operand_of, bind_from, more_binds, clause_from, more_clauses, right_of, cond_from, more_conds, conds_of, group_of, key_from, more_keys, keys_of}
use Rattle.tb_flwor.proofs.FitsLaws.{size, Fits, fits-none, fits-append, fits-more}

-- Steps.

steps-few : {v : Tree} → Of (many step) v → length (more_steps v) ≤ size v
steps-few of_none = omega arith
steps-few (of_more (of_both {v = a} {w = t} (of_one h) f) g) = let rest = steps-few g in omega (arith, rest)

record AreSteps (v : Tree) : Type 0 where
  some : 0 < length (steps_of v)
  few : length (steps_of v) ≤ size v

are-steps : {v : Tree} → Of steps v → AreSteps v
are-steps (of_both (of_both {v = a} {w = t} (of_one h) f) g) = let rest = steps-few g in record { some = omega arith; few = omega (arith, rest) }

doc-some : {v : Tree} → Of doc v → 0 < size v
doc-some (of_both (of_one h) f) = omega arith

-- Paths.

module _ (names : BoundNames) where
  pub path-fits : {v : Tree} → Of path v → Fits names (in_path v) (size v) (takes (path_of names v) ∷ [])
  path-fits (of_first (of_both {v = d} {w = s} f g)) =
      let some = doc-some f in
      let are = are-steps g in
      record { long = (are.some, tt); named = (tt, tt); different = (tt, tt); few = (let few = are.few in omega (arith, some, few)); same = refl }
  path-fits (of_second (of_both {w = s} (of_one h) g)) =
      let few = steps-few g in
      record { long = (tt, tt); named = (tt, tt); different = (tt, tt); few = omega (arith, few); same = refl }

  -- a binding of a variable to a path, whose token stands before it
  longpath-binds : {v : Tree} → Of longpath v → (t : _) → Fits names (event.binds t ∷ in_longpath v) (size v) (binds (var_in names (leaf t)) (longpath_of names v) ∷ [])
  longpath-binds (of_both (of_first {v = d} f) g) t =
      let some = doc-some f in
      let are = are-steps g in
      record { long = (are.some, tt); named = (tt, tt); different = (tt, tt); few = (let few = are.few in omega (arith, some, few)); same = refl }
  longpath-binds (of_both (of_second (of_one h)) g) t =
      let are = are-steps g in
      record { long = (tt, tt); named = (tt, tt); different = (tt, tt); few = (let few = are.few in omega (arith, few)); same = refl }

  path-binds : {v : Tree} → Of path v → (t : _) → Fits names (event.binds t ∷ in_own_path v) (size v) (binds (var_in names (leaf t)) (path_of names v) ∷ [])
  path-binds (of_first (of_both {v = d} {w = s} f g)) t =
      let some = doc-some f in
      let are = are-steps g in
      record { long = (are.some, tt); named = (tt, tt); different = (tt, tt); few = (let few = are.few in omega (arith, some, few)); same = refl }
  path-binds (of_second (of_both {w = s} (of_one h) g)) t =
      let few = steps-few g in
      record { long = (tt, tt); named = (tt, tt); different = (tt, tt); few = omega (arith, few); same = refl }

  pub operand-fits : {v : Tree} → Of operand v → Fits names (in_operand v) (size v) (actions_of_operand (operand_of names v))
  operand-fits (of_first f) = path-fits f
  operand-fits (of_second (of_both {v = a} f (of_both {v = o} g (of_both {v = p} {w = c} h k)))) = fits-more (omega arith) (path-fits h)

  -- Clauses.

  bind-fits : {v : Tree} → Of bind v → (behind : List Clause) (es : List Event) (n : ℕ) → Fits names es n (flat_map actions_of_clause behind)
      → Fits names (in_bind v ++ es) (size v + n) (flat_map actions_of_clause (bind_from names v behind))
  bind-fits (of_both (of_one {t = t} h) (of_both {v = e} f (of_both {v = i} {w = p} g k))) behind es n rest =
      fits-more (omega arith) (fits-append (longpath-binds k t) rest)

  binds-fit : {v : Tree} → Of (many (both comma bind)) v → Fits names (in_binds v) (size v) (flat_map actions_of_clause (more_binds names v))
  binds-fit of_none = fits-none names 0
  binds-fit (of_more {w = w} (of_both {w = b} (of_one h) g) k) = fits-more (omega arith) (bind-fits g (more_binds names w) (in_binds w) (size w) (binds-fit k))

  clause-fits : {v : Tree} → Of clause v → (behind : List Clause) (es : List Event) (n : ℕ) → Fits names es n (flat_map actions_of_clause behind)
      → Fits names (in_clause v ++ es) (size v + n) (flat_map actions_of_clause (clause_from names v behind))
  clause-fits (of_first (of_both (of_one h) (of_both {v = b} {w = w} g k))) behind es n rest =
      let here = bind-fits g (more_binds names w) (in_binds w) (size w) (binds-fit k) in
      let both = fits-append here rest in
      rw (flat_map-append actions_of_clause (bind_from names b (more_binds names w)) behind) (fits-more (omega arith) both)
  clause-fits (of_second (of_both (of_one h) (of_both (of_one {t = x} k) (of_both {w = p} (of_one l) f)))) behind es n rest =
      fits-more (omega arith) (fits-append (longpath-binds f x) rest)

  pub clauses-fit : {v : Tree} → Of (many clause) v → Fits names (in_clauses v) (size v) (flat_map actions_of_clause (more_clauses names v))
  clauses-fit of_none = fits-none names 0
  clauses-fit (of_more {w = w} f g) = clause-fits f (more_clauses names w) (in_clauses w) (size w) (clauses-fit g)

  pub first-clauses : {v w : Tree} → Of clause v → Of (many clause) w
      → Fits names (in_clause v ++ in_clauses w) (size v + size w) (flat_map actions_of_clause (clause_from names v (more_clauses names w)))
  first-clauses {w = w} f g = clause-fits f (more_clauses names w) (in_clauses w) (size w) (clauses-fit g)

  -- Conditions.

  right-fits : {v : Tree} → Of (either operand literal) v → Fits names (in_right v) (size v) (actions_of_right (right_of names v))
  right-fits (of_first f) = operand-fits f
  right-fits (of_second {v = l} f) = fits-none names (size l)

  cond-fits : {v : Tree} → Of part.cond v → (behind : List Comparison) (es : List Event) (n : ℕ) → Fits names es n (flat_map actions_of_comparison behind)
      → Fits names (in_cond v ++ es) (size v + n) (flat_map actions_of_comparison (cond_from names v behind))
  cond-fits (of_both {v = l} f (of_both {w = r} (of_one h) g)) behind es n rest =
      fits-more (omega arith) (fits-append (fits-append (operand-fits f) (right-fits g)) rest)

  more-conds : {v : Tree} → Of (many (both (keyword (codes "AND")) part.cond)) v → Fits names (in_more_conds v) (size v) (flat_map actions_of_comparison (more_conds names v))
  more-conds of_none = fits-none names 0
  more-conds (of_more {w = w} (of_both {w = c} (of_one h) g) k) = fits-more (omega arith) (cond-fits g (more_conds names w) (in_more_conds w) (size w) (more-conds k))

  pub conds-fit : {v : Tree} → Of (maybe where_part) v → Fits names (in_conds v) (size v) (flat_map actions_of_comparison (conds_of names v))
  conds-fit of_nothing = fits-none names 0
  conds-fit (of_put (of_both (of_one h) (of_both {v = c} {w = w} g k))) =
      fits-more (omega arith) (cond-fits g (more_conds names w) (in_more_conds w) (size w) (more-conds k))

  -- Groups and keys.

  pub group-fits : {v : Tree} → Of (maybe group) v → Fits names (in_group v) (size v) (actions_of_group (group_of names v))
  group-fits of_nothing = fits-none names 0
  group-fits (of_put (of_both (of_one h) (of_both (of_one k) (of_both (of_one {t = x} l) (of_both {w = p} (of_one m) f))))) =
      fits-more (omega arith) (path-binds f x)

  key-fits : {v : Tree} → Of key v → (behind : List Key) (es : List Event) (n : ℕ) → Fits names es n (flat_map actions_of_key behind)
      → Fits names (in_key v ++ es) (size v + n) (flat_map actions_of_key (key_from names v behind))
  key-fits (of_both {v = o} {w = d} f g) behind es n rest = fits-more (omega arith) (fits-append (operand-fits f) rest)

  more-keys : {v : Tree} → Of (many (both comma key)) v → Fits names (in_more_keys v) (size v) (flat_map actions_of_key (more_keys names v))
  more-keys of_none = fits-none names 0
  more-keys (of_more {w = w} (of_both {w = k} (of_one h) g) f) = fits-more (omega arith) (key-fits g (more_keys names w) (in_more_keys w) (size w) (more-keys f))

  pub keys-fit : {v : Tree} → Of (maybe order) v → Fits names (in_keys v) (size v) (flat_map actions_of_key (keys_of names v))
  keys-fit of_nothing = fits-none names 0
  keys-fit (of_put (of_both (of_one h) (of_both (of_one l) (of_both {v = k} {w = w} g f)))) =
      fits-more (omega arith) (key-fits g (more_keys names w) (in_more_keys w) (size w) (more-keys f))
