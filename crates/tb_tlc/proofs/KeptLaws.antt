-- The operators of conditions: they keep the rows of the tuples that the conditions keep.
use Rattle.std.proofs.Common.{◌≡◌, ◌+◌, Bool, true, false, if◌then◌else◌, List, [], ◌∷◌, ◌++◌, map, refl, ap, ◌∙◌, subst, arith, Option, Some, None, option_map, option_and_then}
use Rattle.std.specs.List.{AllByRecursion}
use Rattle.std.proofs.lemmas.Option.{none-some, same_Some}
use Rattle.tb_tree.specs.Documents.{Docs}
use Rattle.tb_tree.specs.Rows.{Row, first_rows}
use Rattle.tb_tree.proofs.lists.Alls.{all-append, all-weaker}
use Rattle.tb_query.specs.Answer.{kept_tuples}
use Rattle.tb_query.specs.Comparisons.{nodes_at, passing, all_tested, as_tested}
use Rattle.tb_query.specs.Lists.{all_given, joined}
use Rattle.tb_query.specs.Tuples.{Tuple, Bindings}
use Rattle.tb_query.specs.declared.operand.Comparison.{Comparison}
use Rattle.tb_tlc.specs.Planned.{Draft, with_conds, conds_ops, conds_width}
use Rattle.tb_tlc.proofs.RowLaws.{rows_after, rows-append, MakesRows, LooksAlone, alone-makes, each-row}
use Rattle.tb_tlc.proofs.AloneLaws.{alone-conds}
use Rattle.tb_tlc.proofs.CellLaws.{there-more}
use Rattle.tb_tlc.proofs.ServedLaws.{conds_cells, conds-one, wide-conds}
use Rattle.tb_tlc.proofs.HoldsLaws.{Holds, holds-more, tuple-serves, place_in}
use Rattle.tb_tlc.proofs.ClauseLaws.{Plans}

-- What items give that keep a fact has the fact.
pub kept-each : {X Y : Type 0} (P : X → Type 0) (Q : Y → Type 0) (give : X → Option (List Y)) → ((x : X) (ys : List Y) → P x → give x ≡ Some ys → AllByRecursion Q ys)
    → (xs : List X) (yss : List (List Y)) → AllByRecursion P xs → all_given give xs ≡ Some yss → AllByRecursion Q (joined yss)
kept-each {X} {Y} P Q give keeps [] yss all is = subst (λ zss. AllByRecursion Q (joined zss)) (same_Some [] yss is) tt
kept-each {X} {Y} P Q give keeps (x ∷ xs) yss all is = by (give x) refl (all_given give xs) (λ zss was. kept-each P Q give keeps xs zss all.1 was) is
  where
    by : (o : Option (List Y)) → give x ≡ o → (others : Option (List (List Y))) → ((zss : List (List Y)) → others ≡ Some zss → AllByRecursion Q (joined zss))
        → option_and_then (λ y. option_map (λ ys. y ∷ ys) others) o ≡ Some yss → AllByRecursion Q (joined yss)
    by None was others behind e = absurd (none-some yss e)
    by (Some ys) was None behind e = absurd (none-some yss e)
    by (Some ys) was (Some zss) behind e =
        subst (λ all. AllByRecursion Q (joined all)) (same_Some (ys ∷ zss) yss e) (all-append Q ys (joined zss) (keeps x ys all.0 was) (behind zss refl))

module _ (docs : Docs) (d : Draft) (b : Bindings) (conds : List Comparison) (plans : Plans docs d b) where
  -- the row of a tuple behind conditions
  abbrev pub tested_row : Tuple → Row
  tested_row t = plans.row t ++ conds_cells docs d.scope (place_in docs plans.name d.scope.lets) (nodes_at docs d.scope.lets t) (as_tested conds)

  held-row : (t : Tuple) (o : Option Bool)
      → option_map (λ held. if held then tested_row t ∷ [] else []) o ≡ option_map (map tested_row) (option_map (λ held. if held then t ∷ [] else []) o)
  held-row t None = refl
  held-row t (Some true) = refl
  held-row t (Some false) = refl

  conds-each : (t : Tuple) → Holds docs plans.name d.scope.columns d.next (t ∷ []) (plans.row t)
      → rows_after docs (conds_ops d.scope d.next (as_tested conds)) (plans.row t ∷ []) ≡ option_map (map tested_row) (passing docs d.scope.lets conds t)
  conds-each t holds =
      conds-one docs d.scope (place_in docs plans.name d.scope.lets) (nodes_at docs d.scope.lets t) d.next (plans.row t) (as_tested conds)
      (tuple-serves docs plans.name d.scope d.next t (plans.row t) plans.there holds)
      ∙ held-row t (all_tested (nodes_at docs d.scope.lets t) (as_tested conds))

  pub conds-rows : rows_after docs (with_conds d conds).ops first_rows ≡ option_map (map tested_row) (kept_tuples docs b conds)
  conds-rows =
      let ops = conds_ops d.scope d.next (as_tested conds) in
      rows-append docs d.ops ops first_rows
      ∙ ap (option_and_then (rows_after docs ops)) plans.rows
      ∙ each-row docs ops (alone-conds d.scope d.next (as_tested conds)) plans.row (passing docs d.scope.lets conds) tested_row b.tuples
      (all-weaker (λ t. Holds docs plans.name d.scope.columns d.next (t ∷ []) (plans.row t)) _ b.tuples conds-each plans.each)
      ∙ ap (λ lets. option_map (map tested_row) (option_map joined (all_given (passing docs lets conds) b.tuples))) plans.lets

  passing-each : (P : Tuple → Type 0) (t : Tuple) (ts : List Tuple) → P t → passing docs b.lets conds t ≡ Some ts → AllByRecursion P ts
  passing-each P t ts this is = by (all_tested (nodes_at docs b.lets t) (as_tested conds)) is
    where
      by : (o : Option Bool) → option_map (λ held. if held then t ∷ [] else []) o ≡ Some ts → AllByRecursion P ts
      by None e = absurd (none-some ts e)
      by (Some true) e = subst (AllByRecursion P) (same_Some (t ∷ []) ts e) (this, tt)
      by (Some false) e = subst (AllByRecursion P) (same_Some [] ts e) tt

  -- What holds of all tuples holds of those that are kept.
  pub kept-all : (P : Tuple → Type 0) (ts : List Tuple) → AllByRecursion P b.tuples → kept_tuples docs b conds ≡ Some ts → AllByRecursion P ts
  kept-all P ts all is = by (all_given (passing docs b.lets conds) b.tuples) refl is
    where
      by : (o : Option (List (List Tuple))) → all_given (passing docs b.lets conds) b.tuples ≡ o → option_map joined o ≡ Some ts → AllByRecursion P ts
      by None was e = absurd (none-some ts e)
      by (Some tss) was e =
          subst (AllByRecursion P) (same_Some (joined tss) ts e) (kept-each P P (passing docs b.lets conds) (passing-each P) b.tuples tss all was)

  tested-holds : (t : Tuple) → Holds docs plans.name d.scope.columns d.next (t ∷ []) (plans.row t)
      → Holds docs plans.name d.scope.columns (d.next + conds_width (as_tested conds)) (t ∷ []) (tested_row t)
  tested-holds t holds =
      holds-more docs plans.name d.scope.columns d.next (conds_width (as_tested conds)) (t ∷ []) (plans.row t)
      (conds_cells docs d.scope (place_in docs plans.name d.scope.lets) (nodes_at docs d.scope.lets t) (as_tested conds)) plans.there holds
      (wide-conds docs d.scope (place_in docs plans.name d.scope.lets) (nodes_at docs d.scope.lets t) d.next (plans.row t) (as_tested conds)
      (tuple-serves docs plans.name d.scope d.next t (plans.row t) plans.there holds))

  -- Behind the conditions there is a row of each tuple that is kept.
  pub conds-plan : (ts : List Tuple) → kept_tuples docs b conds ≡ Some ts → Plans docs (with_conds d conds) (record { tuples = ts; lets = b.lets })
  conds-plan ts is = record {
    name = plans.name;
    row = tested_row;
    rows = conds-rows ∙ ap (option_map (map tested_row)) is;
    each =
        kept-all (λ t. Holds docs plans.name d.scope.columns (d.next + conds_width (as_tested conds)) (t ∷ []) (tested_row t)) ts
        (all-weaker (λ t. Holds docs plans.name d.scope.columns d.next (t ∷ []) (plans.row t)) _ b.tuples tested-holds plans.each) is;
    lets = plans.lets;
    there = there-more d.next (d.next + conds_width (as_tested conds)) d.scope.columns (omega arith) plans.there;
    make =
        all-append MakesRows d.ops (conds_ops d.scope d.next (as_tested conds)) plans.make
        (all-weaker LooksAlone MakesRows (conds_ops d.scope d.next (as_tested conds)) alone-makes (alone-conds d.scope d.next (as_tested conds)));
  }
