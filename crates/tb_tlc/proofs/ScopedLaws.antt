-- What is planned of a plannable query, clause by clause, is well formed, and so is its plan.
use Rattle.std.proofs.Common.{◌≡◌, inl, inr, ℕ, ◌+◌, ◌*◌, ◌==◌, ◌<◌, ◌≤◌, Bool, true, false, not, ◌&&◌, ◌||◌, if◌then◌else◌, List, [], ◌∷◌, ◌++◌, length, refl, sym, ap, ◌∙◌, subst, arith, Option, Some, None, append_assoc, append-nil, length-append, ⊎_elim}
use Rattle.std.specs.Bool.{⊤}
use Rattle.std.specs.List.{flat_map, filter, find, AllByRecursion}
use Rattle.std.proofs.lemmas.Bool.{and_parts, eq-eqb, eqb-true, ne_eqb, cases_lt}
use Rattle.std.proofs.lemmas.Option.{none-some}
use Rattle.tb_tree.proofs.lists.Alls.{all-append}
use Rattle.tb_pattern.specs.declared.pattern.Mark.TheVariants as mark
use Rattle.tb_query.specs.Actions.{Action, binds, actions_of_clause, actions_of_comparison, actions_of_group, actions_of_key, actions_of_back, actions_of_flwor}
use Rattle.tb_query.specs.Comparisons.{has_sum, as_tested}
use Rattle.tb_query.specs.Parts.{element, PlainBack, nodes_back, cons_back, back_of}
use Rattle.tb_query.specs.Plannable.{IsPlannable}
use Rattle.tb_query.specs.Tuples.{let_path, behind_variable, standing, standing_from}
use Rattle.tb_query.specs.declared.path.Path.{Path}
use Rattle.tb_query.specs.declared.path.Start.{Start}
use Rattle.tb_query.specs.declared.path.Start.TheVariants as start
use Rattle.tb_query.specs.declared.path.Step.{Step}
use Rattle.tb_query.specs.declared.operand.Comparison.{Comparison}
use Rattle.tb_query.specs.declared.clause.Clause.{Clause}
use Rattle.tb_query.specs.declared.clause.Clause.TheVariants.{For, Let}
use Rattle.tb_query.specs.declared.clause.GroupBy.{GroupBy}
use Rattle.tb_query.specs.declared.query.Flwor as flwor
use Rattle.tb_query.specs.declared.query.Query.{Query}
use Rattle.tb_query.specs.declared.query.Query.TheVariants as queries
use Rattle.tb_query.proofs.AlikeLaws.{each-filter}
use Rattle.tb_tlc.specs.declared.plan.Op.{Op}
use Rattle.tb_tlc.specs.declared.plan.Op.TheVariants.{ValueJoin, Group, Construct}
use Rattle.tb_tlc.specs.Ties.{Tie, ties, lets_after, has_column, starts_at, starts_before, leads_to, is_document, is_free, tie_for}
use Rattle.tb_tlc.specs.Planned.{Columns, column_of, column_start, Scope, Draft, stand_op, path_op, for_mark, with_for, with_clause, with_clauses, first_draft, with_conds, with_group, with_keys, conds_ops, conds_width, keys_ops, keys_width, order_ops}
use Rattle.tb_tlc.specs.Returned.{back_ops, back_width, back_shape, cons_width, attrs_width, draft_of, planned_flwor}
use Rattle.tb_tlc.specs.Translated.{translated, most_columns}
use Rattle.tb_tlc.specs.WellFormed.{StartStands, OpsStand, width_of, NeedStands, needs_of, IsWellFormed}
use Rattle.tb_tlc.proofs.CellLaws.{AreThere, there-more}
use Rattle.tb_tlc.proofs.TieLaws.{found-all}
use Rattle.tb_tlc.proofs.SizeLaws.{few-columns}
use Rattle.tb_tlc.proofs.GoodLaws.{Good, PathCan, CondCan, good-conds, good-keys, good-path, good-parts, good-cons}
use Rattle.tb_tlc.proofs.FormedLaws.{Forms, stand-append, width-append, start-stays, Scoped, scoped-more, forms-path, forms-conds, forms-ordered, forms-cons, forms-parts, cons-needs, parts-needs}

-- A draft whose operators stand, where k variables are bound.
pub record Drafted (d : Draft) (k : ℕ) : Type 0 where
  pub stand : OpsStand 0 d.ops
  pub width : width_of 0 d.ops ≡ d.next
  pub scoped : Scoped d.scope d.next k
  pub there : AreThere d.next d.scope.columns

behind-stand : (d : Draft) (k w : ℕ) (ops : List Op) → Drafted d k → Forms d.next w ops → OpsStand 0 (d.ops ++ ops)
behind-stand d k w ops drafted forms = stand-append 0 d.ops ops drafted.stand (subst (λ n. OpsStand n ops) (sym drafted.width) forms.stand)

behind-width : (d : Draft) (k w : ℕ) (ops : List Op) → Drafted d k → Forms d.next w ops → width_of 0 (d.ops ++ ops) ≡ d.next + w
behind-width d k w ops drafted forms = width-append 0 d.ops ops ∙ ap (λ n. width_of n ops) drafted.width ∙ forms.grows

-- A variable that has a column is found there.
column-there : (n var : ℕ) (columns : Columns) → AreThere n columns → has_column var columns ≡ true → column_of n var columns < n
column-there n var [] there has = absurd (let e : ◌≡◌ {A = Bool} false true = has in cc)
column-there n var (c ∷ columns) there has = by (var == c.0) has (λ others. column-there n var columns there.1 others)
  where
    by : (b : Bool) → (b || has_column var columns) ≡ true → (has_column var columns ≡ true → column_of n var columns < n) → (if b then c.1 else column_of n var columns) < n
    by true is others = there.0
    by false is others = others is

-- One column more, for the next variable.
start-with : (n m c var : ℕ) (columns : Columns) (from : Start) (steps : List Step) → n ≤ m → c < m → StartStands n (column_start n columns from) steps
    → StartStands m (column_start m ((var, c) ∷ columns) from) steps
start-with n m c var columns (start.Document name) steps more less stands = stands
start-with n m c var columns (start.Var u) steps more less stands = by (u == var) (start-stays n m columns (start.Var u) steps more stands)
  where
    by : (b : Bool) → column_of m u columns < m → (if b then c else column_of m u columns) < m
    by true others = less
    by false others = others

scoped-column : (s : Scope) (n m c k var : ℕ) → var ≡ k → n ≤ m → c < m → Scoped s n k → Scoped (record { lets = s.lets; columns = (var, c) ∷ s.columns }) m (k + 1)
scoped-column s n m c k var turn more less scoped = record {
  can = λ v within steps.
      ⊎_elim
      (λ (before : v < k). start-with n m c var s.columns (standing_from s.lets (start.Var v) steps).start (standing_from s.lets (start.Var v) steps).steps more less (scoped.can v before steps))
      (λ (not_before : k ≤ v). own v steps (omega (arith, within, not_before, turn)) not_before)
      (cases_lt v k);
  free = λ v past. scoped.free v (omega (arith, past));
}
  where
    own : (v : ℕ) (steps : List Step) → v ≡ var → k ≤ v
        → StartStands m (column_start m ((var, c) ∷ s.columns) (standing_from s.lets (start.Var v) steps).start) (standing_from s.lets (start.Var v) steps).steps
    own v steps same past =
        subst (λ o. StartStands m (column_start m ((var, c) ∷ s.columns) (behind_variable v o steps).start) (behind_variable v o steps).steps) (sym (scoped.free v past))
        (subst (λ b. (if b then c else column_of m v s.columns) < m) (sym (eq-eqb v var same)) less)

-- A path more, for the next variable.
start-behind : (n : ℕ) (columns : Columns) (from : Start) (some steps : List Step) → StartStands n (column_start n columns from) some → StartStands n (column_start n columns from) (some ++ steps)
start-behind n columns (start.Document name) some steps long = let sum = length-append some steps in omega (arith, long, sum)
start-behind n columns (start.Var u) some steps stands = stands

scoped-let : (s : Scope) (n k var : ℕ) (path : Path) → var ≡ k → StartStands n (column_start n s.columns path.start) path.steps → Scoped s n k
    → Scoped (record { lets = (var, path) ∷ s.lets; columns = s.columns }) n (k + 1)
scoped-let s n k var path turn stands scoped = record {
  can = λ v within steps. can-by v within steps (v == var) refl;
  free = λ v past. subst (λ b. (if b then Some path else let_path v s.lets) ≡ None) (sym (ne_eqb v var (λ same. omega (arith, past, turn, same)))) (scoped.free v (omega (arith, past)));
}
  where
    can-by : (v : ℕ) → v < k + 1 → (steps : List Step) (b : Bool) → (v == var) ≡ b
        → StartStands n (column_start n s.columns (behind_variable v (if v == var then Some path else let_path v s.lets) steps).start) (behind_variable v (if v == var then Some path else let_path v s.lets) steps).steps
    can-by v within steps true is =
        subst (λ b. StartStands n (column_start n s.columns (behind_variable v (if b then Some path else let_path v s.lets) steps).start) (behind_variable v (if b then Some path else let_path v s.lets) steps).steps) (sym is)
        (start-behind n s.columns path.start path.steps steps stands)
    can-by v within steps false is =
        let other : v ≡ var → ⊥ = λ same. let t = eq-eqb v var same in absurd (let e : ◌≡◌ {A = Bool} true false = sym t ∙ is in cc) in
        subst (λ b. StartStands n (column_start n s.columns (behind_variable v (if b then Some path else let_path v s.lets) steps).start) (behind_variable v (if b then Some path else let_path v s.lets) steps).steps) (sym is)
        (⊎_elim (λ (before : v < k). scoped.can v before steps) (λ (past : k ≤ v). absurd (other (omega (arith, within, past, turn)))) (cases_lt v k))

path-stands : (s : Scope) (n k : ℕ) (path : Path) → n + 1 < 4294967296 → Scoped s n k → PathCan k path → StartStands n (column_start n s.columns (standing s.lets path).start) (standing s.lets path).steps
path-stands s n k path narrow scoped can = (forms-path s k n mark.Any path narrow scoped can).stand.0

tie-leads : (all : List Tie) (columns : Columns) (var : ℕ) (from : Start) (later : List Clause) (tie : Tie) → tie_for all columns var from later ≡ Some tie → leads_to columns var later tie ≡ true
tie-leads all columns var from later tie is = by (is_document from && is_free var later) is
  where
    every : (ts : List Tie) → AllByRecursion (λ t. ⊤) ts
    every [] = tt
    every (t ∷ ts) = (tt, every ts)

    by : (b : Bool) → (if b then find (leads_to columns var later) all else None) ≡ Some tie → leads_to columns var later tie ≡ true
    by true e = (found-all (λ t. ⊤) (leads_to columns var later) all tie (every all) e).0
    by false e = absurd (none-some tie e)

-- what is known of a binding
good-binds : (k var : ℕ) (path : Path) (rest : List Action) → Good k (binds var path ∷ rest) → (var ≡ k) × PathCan k path × Good (k + 1) rest
good-binds k var path rest good =
    (good.bound.0, (good.bound.1, good.long.0), record { bound = good.bound.2; long = good.long.1; named = good.named.1; different = good.different.1 })

module _ (d : Draft) (k var : ℕ) (empty : Bool) (path : Path) (drafted : Drafted d k) (turn : var ≡ k) (can : PathCan k path) (narrow : d.next + 3 < 4294967296) where
  drafted-for : Drafted (with_for d var empty path None) (k + 1)
  drafted-for =
      let forms = forms-path d.scope k d.next (for_mark empty) path (omega (arith, narrow)) drafted.scoped can in
      record {
        stand = behind-stand d k 1 (path_op d.scope d.next (for_mark empty) path ∷ []) drafted forms;
        width = behind-width d k 1 (path_op d.scope d.next (for_mark empty) path ∷ []) drafted forms;
        scoped = scoped-column d.scope d.next (d.next + 1) d.next k var turn (omega arith) (omega arith) drafted.scoped;
        there = (omega arith, there-more d.next (d.next + 1) d.scope.columns (omega arith) drafted.there);
      }

  left-stands : (later : List Clause) (from : Start) (steps : List Step) → starts_before d.scope.columns var later from ≡ true → StartStands d.next (column_start d.next d.scope.columns from) steps
  left-stands later (start.Document name) steps is = absurd (let e : ◌≡◌ {A = Bool} false true = is in cc)
  left-stands later (start.Var v) steps is =
      let parts = and_parts (not (v == var)) (has_column v d.scope.columns && is_free v later) is in
      column-there d.next v d.scope.columns drafted.there (and_parts (has_column v d.scope.columns) (is_free v later) parts.1).0

  right-stands : (from : Start) (steps : List Step) → starts_at var from ≡ true → StartStands (d.next + 1 + 1) (column_start (d.next + 2) ((var, d.next + 1) ∷ d.scope.columns) from) steps
  right-stands (start.Document name) steps is = absurd (let e : ◌≡◌ {A = Bool} false true = is in cc)
  right-stands (start.Var v) steps is =
      subst (λ b. (if b then d.next + 1 else column_of (d.next + 2) v d.scope.columns) < d.next + 1 + 1) (sym (eq-eqb v var (sym (eqb-true var v is)))) (omega arith)

  drafted-join : (later : List Clause) (tie : Tie) → leads_to d.scope.columns var later tie ≡ true → Drafted (with_for d var empty path (Some tie)) (k + 1)
  drafted-join later tie is =
      let ends = and_parts (starts_at var tie.1.start) (starts_before d.scope.columns var later tie.0.start) is in
      let A = stand_op d.scope.columns d.next mark.Any tie.0 in
      let B = path_op d.scope (d.next + 1) (for_mark empty) path in
      let C = stand_op ((var, d.next + 1) ∷ d.scope.columns) (d.next + 2) mark.Any tie.1 in
      let D = ValueJoin d.next (d.next + 2) in
      let forms : Forms d.next 3 (A ∷ B ∷ C ∷ D ∷ []) = record {
        stand = (
          left-stands later tie.0.start tie.0.steps ends.1,
          omega (arith, narrow),
          (
            path-stands d.scope (d.next + 1) k path (omega (arith, narrow)) (scoped-more d.scope d.next (d.next + 1) k (omega arith) drafted.scoped) can,
            omega (arith, narrow),
            (
              right-stands tie.1.start tie.1.steps ends.0,
              omega (arith, narrow),
              ((omega arith, omega arith), omega (arith, narrow), tt),
            ),
          ),
        );
        grows = omega arith;
      } in
      record {
        stand = behind-stand d k 3 (A ∷ B ∷ C ∷ D ∷ []) drafted forms;
        width = behind-width d k 3 (A ∷ B ∷ C ∷ D ∷ []) drafted forms;
        scoped = scoped-column d.scope d.next (d.next + 3) (d.next + 1) k var turn (omega arith) (omega arith) drafted.scoped;
        there = (omega arith, there-more d.next (d.next + 3) d.scope.columns (omega arith) drafted.there);
      }

  drafted-either : (all : List Tie) (later : List Clause) → Drafted (with_clause all later d (For var empty path)) (k + 1) × ((with_clause all later d (For var empty path)).next ≤ d.next + 3)
  drafted-either all later = by (tie_for all d.scope.columns var (standing d.scope.lets path).start later) refl
    where
      by : (o : Option Tie) → tie_for all d.scope.columns var (standing d.scope.lets path).start later ≡ o → Drafted (with_for d var empty path o) (k + 1) × ((with_for d var empty path o).next ≤ d.next + 3)
      by None is = (drafted-for, omega arith)
      by (Some tie) is = (drafted-join later tie (tie-leads all d.scope.columns var (standing d.scope.lets path).start later tie is), omega arith)

-- What is known behind clauses, with what comes after them.
pub record Goes (d : Draft) (most : ℕ) (rest : List Action) : Type 0 where
  pub k : ℕ
  pub drafted : Drafted d k
  pub few : d.next ≤ most
  pub good : Good k rest

goes-more : (d : Draft) (a b : ℕ) (rest : List Action) → a ≤ b → Goes d a rest → Goes d b rest
goes-more d a b rest less g = let few = g.few in record { k = g.k; drafted = g.drafted; few = omega (arith, few, less); good = g.good }

clauses-go : (all : List Tie) (cs : List Clause) (d : Draft) (k : ℕ) (rest : List Action) → Drafted d k → d.next + 3 * length cs < 4294967296 → Good k (flat_map actions_of_clause cs ++ rest)
    → Goes (with_clauses all d cs) (d.next + 3 * length cs) rest
clauses-go all [] d k rest drafted narrow good = record { k = k; drafted = drafted; few = omega arith; good = good }
clauses-go all (For var empty path ∷ cs) d k rest drafted narrow good =
    let known = good-binds k var path (flat_map actions_of_clause cs ++ rest) good in
    let one = drafted-either d k var empty path drafted known.0 known.1 (omega (arith, narrow)) all cs in
    let less = one.1 in
    let next = with_clause all cs d (For var empty path) in
    goes-more (with_clauses all next cs) (next.next + 3 * length cs) (d.next + 3 * length (For var empty path ∷ cs)) rest (omega (arith, less))
    (clauses-go all cs next (k + 1) rest one.0 (omega (arith, narrow, less)) known.2)
clauses-go all (Let var path ∷ cs) d k rest drafted narrow good =
    let known = good-binds k var path (flat_map actions_of_clause cs ++ rest) good in
    let next = with_clause all cs d (Let var path) in
    let stands = path-stands d.scope d.next k path (omega (arith, narrow)) drafted.scoped known.1 in
    goes-more (with_clauses all next cs) (next.next + 3 * length cs) (d.next + 3 * length (Let var path ∷ cs)) rest (omega arith)
    (clauses-go all cs next (k + 1) rest
    (record { stand = drafted.stand; width = drafted.width; scoped = scoped-let d.scope d.next k var (standing d.scope.lets path) known.0 stands drafted.scoped; there = drafted.there })
    (omega (arith, narrow)) known.2)

conds-go : (d : Draft) (most : ℕ) (conds : List Comparison) (rest : List Action) → most + conds_width (as_tested conds) < 4294967296 → Goes d most (flat_map actions_of_comparison conds ++ rest)
    → Goes (with_conds d conds) (most + conds_width (as_tested conds)) rest
conds-go d most conds rest narrow g =
    let few = g.few in
    let known = good-conds g.k conds rest g.good in
    let tested = all-append (CondCan g.k) (filter (λ c. not (has_sum c)) conds) (filter has_sum conds) (each-filter (CondCan g.k) (λ c. not (has_sum c)) conds known.0) (each-filter (CondCan g.k) has_sum conds known.0) in
    let w = conds_width (as_tested conds) in
    let forms = forms-conds d.scope g.k d.next (as_tested conds) (omega (arith, narrow, few)) g.drafted.scoped tested in
    record {
      k = g.k;
      drafted = record {
        stand = behind-stand d g.k w (conds_ops d.scope d.next (as_tested conds)) g.drafted forms;
        width = behind-width d g.k w (conds_ops d.scope d.next (as_tested conds)) g.drafted forms;
        scoped = scoped-more d.scope d.next (d.next + w) g.k (omega arith) g.drafted.scoped;
        there = there-more d.next (d.next + w) d.scope.columns (omega arith) g.drafted.there;
      };
      few = omega (arith, few);
      good = known.1;
    }

group-go : (d : Draft) (most : ℕ) (group : Option GroupBy) (rest : List Action) → most + 2 < 4294967296 → Goes d most (actions_of_group group ++ rest) → Goes (with_group d group) (most + 2) rest
group-go d most None rest narrow g = goes-more d most (most + 2) rest (omega arith) g
group-go d most (Some by) rest narrow g =
    let few = g.few in
    let known = good-binds g.k by.var by.path rest g.good in
    let ops = path_op d.scope d.next mark.Any by.path ∷ Group d.next ∷ [] in
    let one = forms-path d.scope g.k d.next mark.Any by.path (omega (arith, narrow, few)) g.drafted.scoped known.1 in
    let forms : Forms d.next 2 ops = record { stand = (one.stand.0, omega (arith, narrow, few), (omega arith, omega (arith, narrow, few), tt)); grows = omega arith } in
    record {
      k = g.k + 1;
      drafted = record {
        stand = behind-stand d g.k 2 ops g.drafted forms;
        width = behind-width d g.k 2 ops g.drafted forms;
        scoped = scoped-column d.scope d.next (d.next + 2) (d.next + 1) g.k by.var known.0 (omega arith) (omega arith) g.drafted.scoped;
        there = (omega arith, there-more d.next (d.next + 2) d.scope.columns (omega arith) g.drafted.there);
      };
      few = omega (arith, few);
      good = known.2;
    }

keys-go : (d : Draft) (most : ℕ) (keys : List _) (rest : List Action) → most + keys_width keys < 4294967296 → Goes d most (flat_map actions_of_key keys ++ rest) → Goes (with_keys d keys) (most + keys_width keys) rest
keys-go d most keys rest narrow g =
    let few = g.few in
    let known = good-keys g.k keys rest g.good in
    let w = keys_width keys in
    let ops = keys_ops d.scope d.next keys ++ order_ops d.next keys in
    let forms = forms-ordered d.scope g.k d.next keys (omega (arith, narrow, few)) g.drafted.scoped known.0 in
    record {
      k = g.k;
      drafted = record {
        stand = behind-stand d g.k w ops g.drafted forms;
        width = behind-width d g.k w ops g.drafted forms;
        scoped = scoped-more d.scope d.next (d.next + w) g.k (omega arith) g.drafted.scoped;
        there = there-more d.next (d.next + w) d.scope.columns (omega arith) g.drafted.there;
      };
      few = omega (arith, few);
      good = known.1;
    }

-- the results, and what their shape needs
back-forms : (d : Draft) (k : ℕ) (back : PlainBack) → d.next + back_width back < 4294967296 → Drafted d k → Good k (actions_of_back back)
    → Forms d.next (back_width back) (back_ops d.scope d.next back) × AllByRecursion (NeedStands (d.next + back_width back)) (needs_of (back_shape d.next back))
back-forms d k (nodes_back path) narrow drafted good =
    (forms-path d.scope k d.next mark.Any path narrow drafted.scoped (good-path k path [] good).0, (omega arith, tt))
back-forms d k (cons_back (element name attrs parts)) narrow drafted good =
    let c = element name attrs parts in
    let known = (good-cons k name attrs parts [] (λ more one. good-parts k parts more one) (subst (Good k) (sym (append-nil (actions_of_back (cons_back c)))) good)).0 in (
      forms-cons d.scope k d.next name attrs parts narrow drafted.scoped known.1 (λ m less scoped. forms-parts d.scope k parts m less scoped known.2),
      cons-needs k (d.next + cons_width c) d.next name attrs parts (omega arith) known.0
          (parts-needs k (d.next + cons_width c) parts (d.next + attrs_width attrs) (omega arith) known.2),
    )

flwor-formed : (q : flwor.Flwor) → most_columns q < 4294967296 → Good 0 (actions_of_flwor q) → IsWellFormed (planned_flwor q)
flwor-formed q narrow good =
    let back = back_of q.back in
    let all = ties (lets_after [] q.clauses) q.conds in
    let a = 3 * length q.clauses in
    let b = a + conds_width (as_tested q.conds) in
    let c = b + 2 in
    let e = c + keys_width q.keys in
    let keys = flat_map actions_of_key q.keys ++ actions_of_back back in
    let first : Drafted first_draft 0 = record { stand = tt; width = refl; scoped = record { can = λ v less steps. absurd (omega (arith, less)); free = λ v past. refl }; there = tt } in
    let one = goes-more (with_clauses all first_draft q.clauses) (0 + a) a (flat_map actions_of_comparison q.conds ++ (actions_of_group q.group ++ keys)) (omega arith)
    (clauses-go all q.clauses first_draft 0 (flat_map actions_of_comparison q.conds ++ (actions_of_group q.group ++ keys)) first (omega (arith, narrow)) good) in
    let two = conds-go (with_clauses all first_draft q.clauses) a q.conds (actions_of_group q.group ++ keys) (omega (arith, narrow)) one in
    let d2 = with_conds (with_clauses all first_draft q.clauses) q.conds in
    let three = group-go d2 b q.group keys (omega (arith, narrow)) two in
    let four = keys-go (with_group d2 q.group) c q.keys (actions_of_back back) (omega (arith, narrow)) three in
    let d = draft_of q in
    let few = four.few in
    let last = back-forms d four.k back (omega (arith, narrow, few)) four.drafted four.good in
    inr (record {
      before = d.ops ++ back_ops d.scope d.next back;
      shape = back_shape d.next back;
      are = sym (append_assoc d.ops (back_ops d.scope d.next back) (Construct (back_shape d.next back) ∷ []));
      stand = behind-stand d four.k (back_width back) (back_ops d.scope d.next back) four.drafted last.0;
      needs = subst (λ m. AllByRecursion (NeedStands m) (needs_of (back_shape d.next back))) (sym (behind-width d four.k (back_width back) (back_ops d.scope d.next back) four.drafted last.0)) last.1;
    })

pub translated-formed : (q : Query) → IsPlannable q → IsWellFormed (translated q)
translated-formed (queries.Match p) plannable = inl (record { pattern = p; are = refl })
translated-formed (queries.Flwor q) plannable =
    let few = plannable.few in
    let most = few-columns q in
    flwor-formed q (omega (arith, few, most)) (record { bound = plannable.bound; long = plannable.long; named = plannable.named; different = plannable.different })
