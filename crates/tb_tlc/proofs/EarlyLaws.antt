-- Tuples may be dropped as soon as it is clear that the conditions won't keep them.
use Rattle.std.proofs.Common.{◌≡◌, ℕ, ◌==◌, Bool, true, false, not, ◌&&◌, cond, if◌then◌else◌, List, [], ◌∷◌, ◌++◌, map, filter, refl, sym, ap, ap₂, ◌∙◌, subst, Option, Some, None, option_map, option_and_then, append_assoc}
use Rattle.std.specs.List.{flat_map, fold, find, AllByRecursion}
use Rattle.std.proofs.lemmas.Bool.{and_parts, eqb-true}
use Rattle.std.proofs.lemmas.Option.{none-some}
use Rattle.std.proofs.lemmas.List.Concat.{flat_map-append}
use Rattle.tb_tree.specs.Documents.{Docs}
use Rattle.tb_tree.specs.Numbers.{Numbered}
use Rattle.tb_tree.proofs.lists.Alls.{all-weaker, all-flat_map}
use Rattle.tb_number.specs.declared.op.CmpOp.TheVariants.{Eq}
use Rattle.tb_query.specs.Answer.{kept_tuples}
use Rattle.tb_query.specs.Comparisons.{some_stand, passing, all_tested, as_tested, nodes_at}
use Rattle.tb_query.specs.Lists.{all_given, joined}
use Rattle.tb_query.specs.Nodes.{nodes_from}
use Rattle.tb_query.specs.Operands.{values}
use Rattle.tb_query.specs.Tuples.{Tuple, Lets, Bindings, bound, bound_by, extended, standing, from_node, nodes_in}
use Rattle.tb_query.specs.declared.clause.Clause.{Clause}
use Rattle.tb_query.specs.declared.clause.Clause.TheVariants.{For, Let}
use Rattle.tb_query.specs.declared.operand.Comparison.{Comparison}
use Rattle.tb_query.specs.declared.path.Path.{Path}
use Rattle.tb_query.specs.declared.path.Start.{Start}
use Rattle.tb_query.specs.declared.path.Start.TheVariants as start
use Rattle.tb_tlc.specs.Planned.{Columns, Draft, with_clause}
use Rattle.tb_tlc.specs.Ties.{has_column, Tie, ties, lets_after, is_free, starts_at, starts_before, leads_to, is_document, tie_for}
use Rattle.tb_tlc.proofs.RowLaws.{both, all_given-append}
use Rattle.tb_tlc.proofs.JoinPlans.{is_tied, StartsElsewhere}
use Rattle.tb_tlc.proofs.TieLaws.{ties-fail, found-all}

joined-append : {A : Type 0} (xss yss : List (List A)) → joined (xss ++ yss) ≡ joined xss ++ joined yss
joined-append [] yss = refl
joined-append (xs ∷ xss) yss = ap (λ ys. xs ++ ys) (joined-append xss yss) ∙ sym (append_assoc xs (joined xss) (joined yss))

joined-both : {A : Type 0} (a b : Option (List (List A))) → option_map joined (both a b) ≡ both (option_map joined a) (option_map joined b)
joined-both None b = refl
joined-both (Some xss) None = refl
joined-both (Some xss) (Some yss) = ap Some (joined-append xss yss)

-- a start that clauses leave as it is
abbrev pub is_free_start : Start → List Clause → Bool
is_free_start (start.Document name) cs = true
is_free_start (start.Var v) cs = is_free v cs

not-true : (b : Bool) → not b ≡ true → b ≡ false
not-true true is = absurd (let e : ◌≡◌ {A = Bool} false true = is in cc)
not-true false is = refl

all-turned : {T X : Type 0} (P : T → X → Type 0) (xs : List X) → ((t : T) → AllByRecursion (P t) xs) → AllByRecursion (λ x. (t : T) → P t x) xs
all-turned P [] all = tt
all-turned P (x ∷ xs) all = ((λ t. (all t).0), all-turned P xs (λ t. (all t).1))

module _ (docs : Docs) where
  free-first : (v : ℕ) (empty : Bool) (path : Path) (cs : List Clause) (from : Start) → is_free_start from (For v empty path ∷ cs) ≡ true
      → StartsElsewhere docs v from × (is_free_start from cs ≡ true)
  free-first v empty path cs (start.Document name) free = ((λ t o. refl), refl)
  free-first v empty path cs (start.Var u) free =
      let parts = and_parts (not (u == v)) (is_free u cs) free in
      ((λ t o. ap (λ b. from_node (if b then o else bound u t)) (not-true (u == v) parts.0)), parts.1)

  free-let : (v : ℕ) (path : Path) (cs : List Clause) (from : Start) → is_free_start from (Let v path ∷ cs) ≡ true → is_free_start from cs ≡ true
  free-let v path cs (start.Document name) free = refl
  free-let v path cs (start.Var u) free = free

  -- a tie is as before where both paths start elsewhere
  tied-more : (var : ℕ) (tie : Tie) → StartsElsewhere docs var tie.0.start → StartsElsewhere docs var tie.1.start → (t : Tuple) (o : Option Numbered) → is_tied docs tie ((var, o) ∷ t) ≡ is_tied docs tie t
  tied-more var tie first second t o =
      ap₂ (λ a b. some_stand Eq (values (nodes_from tie.0.steps a)) (values (nodes_from tie.1.steps b))) (first t o) (second t o)

  -- the tuples behind clauses
  abbrev pub bound_after : List Tuple → Lets → List Clause → Bindings
  bound_after ts lets cs = fold (bound_by docs) (record { tuples = ts; lets = lets }) cs

  module _ (conds : List Comparison) where
    -- what the conditions keep of the tuples that clauses make of these
    abbrev pub kept : List Tuple → Lets → List Clause → Option (List Tuple)
    kept ts lets cs = kept_tuples docs (bound_after ts lets cs) conds

    kept-append : (cs : List Clause) (lets : Lets) (ts us : List Tuple) → kept (ts ++ us) lets cs ≡ both (kept ts lets cs) (kept us lets cs)
    kept-append [] lets ts us =
        ap (option_map joined) (all_given-append (passing docs lets conds) ts us) ∙ joined-both (all_given (passing docs lets conds) ts) (all_given (passing docs lets conds) us)
    kept-append (For var empty path ∷ cs) lets ts us =
        let f = λ (t : Tuple). extended var empty t (nodes_in docs (standing lets path) t) in
        ap (λ xs. kept xs lets cs) (flat_map-append f ts us) ∙ kept-append cs lets (flat_map f ts) (flat_map f us)
    kept-append (Let var path ∷ cs) lets ts us = kept-append cs ((var, standing lets path) ∷ lets) ts us

    none-before : (o : Option (List Tuple)) → both (Some []) o ≡ o
    none-before None = refl
    none-before (Some us) = refl

    -- Tuples of which nothing is kept may be left out.
    kept-filter : (test : Tuple → Bool) (cs : List Clause) (lets : Lets) (ts : List Tuple) → AllByRecursion (λ t. test t ≡ false → kept (t ∷ []) lets cs ≡ Some []) ts
        → kept (filter test ts) lets cs ≡ kept ts lets cs
    kept-filter test cs lets [] dropped = refl
    kept-filter test cs lets (t ∷ ts) dropped = by (test t) refl (kept-filter test cs lets ts dropped.1)
      where
        by : (b : Bool) → test t ≡ b → kept (filter test ts) lets cs ≡ kept ts lets cs → kept (cond b (t ∷ filter test ts) (filter test ts)) lets cs ≡ kept (t ∷ ts) lets cs
        by true is others =
            kept-append cs lets (t ∷ []) (filter test ts) ∙ ap (both (kept (t ∷ []) lets cs)) others ∙ sym (kept-append cs lets (t ∷ []) ts)
        by false is others =
            others ∙ sym (kept-append cs lets (t ∷ []) ts ∙ ap (λ o. both o (kept ts lets cs)) (dropped.0 is) ∙ none-before (kept ts lets cs))

    none-pass : (lets : Lets) (ts : List Tuple) → AllByRecursion (λ t. all_tested (nodes_at docs lets t) (as_tested conds) ≡ Some false) ts → kept_tuples docs (record { tuples = ts; lets = lets }) conds ≡ Some []
    none-pass lets [] fail = refl
    none-pass lets (t ∷ ts) fail =
        ap₂ (λ o others. option_map joined (option_and_then (λ y. option_map (λ ys. y ∷ ys) others) (option_map (λ held. if held then t ∷ [] else []) o))) fail.0 refl
        ∙ by (all_given (passing docs lets conds) ts) (none-pass lets ts fail.1)
      where
        by : (o : Option (List (List Tuple))) → option_map joined o ≡ Some [] → option_map joined (option_map (λ ys. [] ∷ ys) o) ≡ Some []
        by None is = is
        by (Some tss) is = is

    module _ (tie : Tie) where
      tied-extended : (var : ℕ) (empty : Bool) (t : Tuple) (us : List Numbered) → StartsElsewhere docs var tie.0.start → StartsElsewhere docs var tie.1.start → is_tied docs tie t ≡ false
          → AllByRecursion (λ x. is_tied docs tie x ≡ false) (extended var empty t us)
      tied-extended var true t [] first second fails = (tied-more var tie first second t None ∙ fails, tt)
      tied-extended var false t [] first second fails = tt
      tied-extended var empty t (u ∷ us) first second fails = by (u ∷ us)
        where
          by : (ws : List Numbered) → AllByRecursion (λ x. is_tied docs tie x ≡ false) (map (λ v. (var, Some v) ∷ t) ws)
          by [] = tt
          by (w ∷ ws) = (tied-more var tie first second t (Some w) ∙ fails, by ws)

      -- Of tuples in which a tie fails whose paths start at what no later clause binds, nothing is kept.
      tie-drops : (cs : List Clause) (lets : Lets) (ts : List Tuple) → is_free_start tie.0.start cs ≡ true → is_free_start tie.1.start cs ≡ true
          → ((t : Tuple) → is_tied docs tie t ≡ false → all_tested (nodes_at docs (lets_after lets cs) t) (as_tested conds) ≡ Some false)
          → AllByRecursion (λ t. is_tied docs tie t ≡ false) ts → kept ts lets cs ≡ Some []
      tie-drops [] lets ts first second fails tied =
          none-pass lets ts (all-weaker (λ t. is_tied docs tie t ≡ false) (λ t. all_tested (nodes_at docs lets t) (as_tested conds) ≡ Some false) ts fails tied)
      tie-drops (For var empty path ∷ cs) lets ts first second fails tied =
          let one = free-first var empty path cs tie.0.start first in
          let two = free-first var empty path cs tie.1.start second in
          let f = λ (t : Tuple). extended var empty t (nodes_in docs (standing lets path) t) in
          tie-drops cs lets (flat_map f ts) one.1 two.1 fails
          (all-flat_map (λ x. is_tied docs tie x ≡ false) f ts
          (all-weaker (λ t. is_tied docs tie t ≡ false) (λ t. AllByRecursion (λ x. is_tied docs tie x ≡ false) (f t)) ts
          (λ t is. tied-extended var empty t (nodes_in docs (standing lets path) t) one.0 two.0 is) tied))
      tie-drops (Let var path ∷ cs) lets ts first second fails tied =
          tie-drops cs ((var, standing lets path) ∷ lets) ts (free-let var path cs tie.0.start first) (free-let var path cs tie.1.start second) fails tied

  -- the tuples in which the tie holds, where there is one
  abbrev pub cut_by : Option Tie → List Tuple → List Tuple
  cut_by None ts = ts
  cut_by (Some tie) ts = filter (is_tied docs tie) ts

  -- What is known of a tie that was chosen.
  pub record Chosen (conds : List Comparison) (var : ℕ) (lets : Lets) (later : List Clause) (tie : Tie) : Type 0 where
    pub elsewhere : StartsElsewhere docs var tie.0.start
    pub first : is_free_start tie.0.start later ≡ true
    pub second : is_free_start tie.1.start later ≡ true
    pub fails : (t : Tuple) → is_tied docs tie t ≡ false → all_tested (nodes_at docs (lets_after lets later) t) (as_tested conds) ≡ Some false

  before-free : (columns : Columns) (var : ℕ) (later : List Clause) (from : Start) → starts_before columns var later from ≡ true → StartsElsewhere docs var from × (is_free_start from later ≡ true)
  before-free columns var later (start.Document name) is = absurd (let e : ◌≡◌ {A = Bool} false true = is in cc)
  before-free columns var later (start.Var v) is =
      let parts = and_parts (not (v == var)) (has_column v columns && is_free v later) is in
      ((λ t o. ap (λ b. from_node (if b then o else bound v t)) (not-true (v == var) parts.0)), (and_parts (has_column v columns) (is_free v later) parts.1).1)

  at-free : (var : ℕ) (later : List Clause) (from : Start) → starts_at var from ≡ true → is_free var later ≡ true → is_free_start from later ≡ true
  at-free var later (start.Document name) is free = refl
  at-free var later (start.Var v) is free = subst (λ u. is_free u later ≡ true) (eqb-true var v is) free

  pub chosen : (conds : List Comparison) (columns : Columns) (var : ℕ) (from : Start) (lets : Lets) (later : List Clause) (tie : Tie)
      → tie_for (ties (lets_after lets later) conds) columns var from later ≡ Some tie → Chosen conds var lets later tie
  chosen conds columns var from lets later tie is = by (is_document from && is_free var later) refl is
    where
      Fails : Tie → Type 0
      Fails k = (t : Tuple) → is_tied docs k t ≡ false → all_tested (nodes_at docs (lets_after lets later) t) (as_tested conds) ≡ Some false

      by : (b : Bool) → (is_document from && is_free var later) ≡ b → (if b then find (leads_to columns var later) (ties (lets_after lets later) conds) else None) ≡ Some tie → Chosen conds var lets later tie
      by false was e = absurd (none-some tie e)
      by true was e =
          let free = (and_parts (is_document from) (is_free var later) was).1 in
          let known = found-all Fails (leads_to columns var later) (ties (lets_after lets later) conds) tie every e in
          let ends = and_parts (starts_at var tie.1.start) (starts_before columns var later tie.0.start) known.0 in
          let before = before-free columns var later tie.0.start ends.1 in
          record {
            elsewhere = before.0;
            first = before.1;
            second = at-free var later tie.1.start ends.0 free;
            fails = known.1;
          }
        where
          every : AllByRecursion Fails (ties (lets_after lets later) conds)
          every = all-turned (λ t k. is_tied docs k t ≡ false → all_tested (nodes_at docs (lets_after lets later) t) (as_tested conds) ≡ Some false) (ties (lets_after lets later) conds) (λ t. ties-fail docs (lets_after lets later) t conds)

  -- the clauses, with the tuples dropped in which a chosen tie fails
  abbrev pub cut : List Tie → List Clause → Draft → Bindings → Clause → Bindings
  cut all later d b (For var empty path) = record {
    tuples = cut_by (tie_for all d.scope.columns var (standing d.scope.lets path).start later) (flat_map (λ t. extended var empty t (nodes_in docs (standing b.lets path) t)) b.tuples);
    lets = b.lets;
  }
  cut all later d b (Let var path) = bound_by docs b (Let var path)

  abbrev pub early : List Tie → Draft → Bindings → List Clause → Bindings
  early all d b [] = b
  early all d b (c ∷ later) = early all (with_clause all later d c) (cut all later d b c) later

  cut-kept : (conds : List Comparison) (columns : Columns) (var : ℕ) (from : Start) (lets : Lets) (later : List Clause) (ts : List Tuple)
      → kept conds (cut_by (tie_for (ties (lets_after lets later) conds) columns var from later) ts) lets later ≡ kept conds ts lets later
  cut-kept conds columns var from lets later ts = by (tie_for (ties (lets_after lets later) conds) columns var from later) refl
    where
      by : (o : Option Tie) → tie_for (ties (lets_after lets later) conds) columns var from later ≡ o → kept conds (cut_by o ts) lets later ≡ kept conds ts lets later
      by None is = refl
      by (Some tie) is =
          let known = chosen conds columns var from lets later tie is in
          kept-filter conds (is_tied docs tie) later lets ts (each known ts)
        where
          each : Chosen conds var lets later tie → (us : List Tuple) → AllByRecursion (λ t. is_tied docs tie t ≡ false → kept conds (t ∷ []) lets later ≡ Some []) us
          each known [] = tt
          each known (u ∷ us) = ((λ fails. tie-drops conds tie later lets (u ∷ []) known.first known.second known.fails (fails, tt)), each known us)

  -- The conditions keep the same.
  pub early-kept : (conds : List Comparison) (all : List Tie) (cs : List Clause) (d : Draft) (b : Bindings) → all ≡ ties (lets_after b.lets cs) conds
      → kept_tuples docs (early all d b cs) conds ≡ kept_tuples docs (fold (bound_by docs) b cs) conds
  early-kept conds all [] d b are = refl
  early-kept conds all (For var empty path ∷ later) d b are =
      let ts = flat_map (λ t. extended var empty t (nodes_in docs (standing b.lets path) t)) b.tuples in
      let from = (standing d.scope.lets path).start in
      let c = For var empty path in
      early-kept conds all later (with_clause all later d c) (cut all later d b c) are
      ∙ ap (λ ks. kept conds (cut_by (tie_for ks d.scope.columns var from later) ts) b.lets later) are
      ∙ cut-kept conds d.scope.columns var from b.lets later ts
  early-kept conds all (Let var path ∷ later) d b are =
      let c = Let var path in
      early-kept conds all later (with_clause all later d c) (cut all later d b c) are

  pub early-lets : (all : List Tie) (cs : List Clause) (d : Draft) (b : Bindings) → (early all d b cs).lets ≡ (fold (bound_by docs) b cs).lets
  early-lets all cs d b = by cs d b b refl
    where
      by : (cs : List Clause) (e : Draft) (x y : Bindings) → x.lets ≡ y.lets → (early all e x cs).lets ≡ (fold (bound_by docs) y cs).lets
      by [] e x y same = same
      by (For var empty path ∷ later) e x y same = by later (with_clause all later e (For var empty path)) (cut all later e x (For var empty path)) (bound_by docs y (For var empty path)) same
      by (Let var path ∷ later) e x y same =
          by later (with_clause all later e (Let var path)) (cut all later e x (Let var path)) (bound_by docs y (Let var path)) (ap (λ lets. (var, standing lets path) ∷ lets) same)
