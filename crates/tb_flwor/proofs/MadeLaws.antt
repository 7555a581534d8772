-- The actions of what a query returns, beside the tokens and the events of its tree.
use Rattle.std.proofs.Common.{ℕ, ◌+◌, List, [], ◌∷◌, ◌++◌, subst, arith, append_assoc}
use Rattle.std.specs.Prelude.{flat_map, IsTrue}
use Rattle.std.specs.List.{AllByRecursion}
use Rattle.tb_tree.specs.Names as tree
use Rattle.tb_tree.specs.Sound.{are_different}
use Rattle.tb_token.specs.grammar.Grammar.{Tok, either, many}
use Rattle.tb_token.specs.grammar.Sentences.{Tree, leaf, pair, first, second}
use Rattle.tb_token.specs.grammar.Terminals.{string}
use Rattle.tb_token.specs.grammar.Results.{cons, braced, attr, piece, cons_rest, back}
use Rattle.tb_token.specs.grammar.Queries.{flwor}
use Rattle.tb_query.specs.Actions.{Action, makes, actions_of_clause, actions_of_comparison, actions_of_group, actions_of_key, actions_of_content, actions_of_attribute, names_of_attributes, actions_of_cons, actions_of_parts, actions_of_back}
use Rattle.tb_pattern.proofs.PartLaws.{Of, of_one, of_both, of_first, of_second, of_none, of_more, of_rule}
use Rattle.tb_flwor.specs.Asked.{clauses_in_tree, conds_in_tree, group_in_tree, keys_in_tree, back_in_tree}
use Rattle.tb_flwor.specs.Events.{Event, in_content, in_attrs, in_cons, in_cons_rest, in_tail, in_pieces, in_back, in_clause, in_clauses, in_conds, in_group, in_keys, in_flwor}
use Rattle.tb_flwor.specs.Results.{content_of, attrs_of, cons_in, cons_behind, parts_in, back_in}
use Rattle.tb_flwor.specs.Returned.{tokens_of, back_tree}
use Rattle.tb_flwor.specs.Value.{BoundNames}
use Rattle.tb_flwor.proofs.FitsLaws.{size, Fits, fits-none, fits-append, fits-more}
use Rattle.tb_flwor.proofs.ActionLaws.{path-fits, operand-fits, first-clauses, conds-fit, group-fits, keys-fit}
use Rattle.tb_flwor.proofs.SpelledLaws.{IsSpelled}
use Rattle.tb_flwor.proofs.SureLaws.{attributes-differ, Sure, spelled-left, sure-left, sure-right}

module _ (names : BoundNames) where
  content-fits : {v : Tree} → Of (either string braced) v → Fits names (in_content v) (size v) (actions_of_content (content_of names v))
  content-fits (of_first {v = s} f) = fits-none names (size s)
  content-fits (of_second (of_both (of_one h) (of_both {v = o} {w = c} f g))) = fits-more (omega arith) (operand-fits names f)

  attrs-fit : {v : Tree} → Of (many attr) v → Fits names (in_attrs v) (size v) (flat_map actions_of_attribute (attrs_of names v))
  attrs-fit of_none = fits-none names 0
  attrs-fit (of_more {w = w} (of_both (of_one h) (of_both {w = c} (of_one k) f)) g) = fits-more (omega arith) (fits-append (content-fits f) (attrs-fit g))

  attrs-named : {v : Tree} → Of (many attr) v → AllByRecursion IsSpelled (tokens_of v) → AllByRecursion (λ a. IsTrue (tree.is_name a)) (names_of_attributes (attrs_of names v))
  attrs-named of_none spelled = tt
  attrs-named (of_more {w = w} (of_both (of_one {t = t} h) (of_both {w = c} (of_one {t = u} k) f)) g) spelled =
      (spelled.0 h, attrs-named g (spelled-left (t ∷ u ∷ tokens_of c) (tokens_of w) spelled).1)

  -- an element, behind whose name come the actions of what stands in it
  made-fits : {es : List Event} {n : ℕ} {xs : List Action} (t : Tok) {v : Tree} (as_are : Of (many attr) v) (spelled : IsTrue (tree.is_name t.bytes)) → AllByRecursion IsSpelled (tokens_of v)
      → IsTrue (are_different (names_of_attributes (attrs_of names v))) → Fits names es n xs
      → Fits names es (1 + n) (makes t.bytes (names_of_attributes (attrs_of names v)) ∷ xs)
  made-fits {n = n} t as_are spelled all differ f = record {
    long = (tt, f.long);
    named = ((spelled, attrs-named as_are all), f.named);
    different = (differ, f.different);
    few = let few = f.few in omega (arith, few);
    same = f.same;
  }

  abbrev Tail : Tree → Type 0
  Tail v = Fits names (in_tail v) (size v) []

  mutual
    cons-fits : {v : Tree} → Of cons v → Sure v → Fits names (in_cons v) (size v) (actions_of_cons (cons_in names v))
    cons-fits (of_rule {t = t} {v = r} h f) sure = fits-more (omega arith) (rest-fits f (sure-right (leaf t) r sure))

    rest-fits : {v : Tree} → Of cons_rest v → Sure v → Fits names (in_cons_rest v) (size v) (actions_of_cons (cons_behind names v))
    rest-fits (of_both (of_one {t = t} h) (of_both {v = a} f (of_first {v = c} g))) sure =
        let sure_a = sure-left a (first c) (sure-right (leaf t) (pair a (first c)) sure) in
        made-fits t f ((sure.1).0 h) sure_a.1 (attributes-differ names f sure_a.0 sure_a.2) (fits-append (attrs-fit f) (fits-none names (size c)))
    rest-fits (of_both (of_one {t = t} h) (of_both {v = a} f (of_second (of_both {v = o} (of_one {t = u} k) (of_both {v = ps} {w = e} g l))))) sure =
        let tail : Tree = second (pair o (pair ps e)) in
        let sure_t = sure-right (leaf t) (pair a tail) sure in
        let sure_a = sure-left a tail sure_t in
        let sure_ps = sure-left ps e (sure-right o (pair ps e) (sure-right a tail sure_t)) in
        let inside = fits-append (attrs-fit f) (parts-fit g sure_ps) in
        fits-more (omega arith) (made-fits t f ((sure.1).0 h) sure_a.1 (attributes-differ names f sure_a.0 sure_a.2) inside)

    parts-fit : {v : Tree} → Of (many piece) v → Sure v → Fits names (in_pieces v) (size v) (actions_of_parts (parts_in names v))
    parts-fit of_none sure = fits-none names 0
    parts-fit (of_more {w = w} (of_first {v = c} f) g) sure = fits-append (cons-fits f (sure-left (first c) w sure)) (parts-fit g (sure-right (first c) w sure))
    parts-fit (of_more {w = w} (of_second {v = c} f) g) sure = fits-append (content-fits f) (parts-fit g (sure-right (second c) w sure))

  back-fits : {v : Tree} → Of back v → Sure v → Fits names (in_back v) (size v) (actions_of_back (back_in names v))
  back-fits (of_first f) sure = path-fits names f
  back-fits (of_second f) sure = cons-fits f sure

  -- A whole query of clauses.

  abbrev pub actions_in : Tree → List Action
  actions_in v =
      flat_map actions_of_clause (clauses_in_tree names v)
      ++ (flat_map actions_of_comparison (conds_in_tree names v)
      ++ (actions_of_group (group_in_tree names v) ++ (flat_map actions_of_key (keys_in_tree names v) ++ actions_of_back (back_in_tree names v))))

  pub flwor-fits : {v : Tree} → Of flwor v → Sure (back_tree v) → Fits names (in_flwor v) (size v) (actions_in v)
  flwor-fits (of_both {v = c} c_is (of_both {v = m} m_is (of_both {v = w} w_is (of_both {v = g} g_is (of_both {v = o} o_is (of_both {v = r} {w = b} r_is b_is)))))) sure =
      let clauses = first-clauses names c_is m_is in
      let rest = fits-append (conds-fit names w_is) (fits-append (group-fits names g_is) (fits-append (keys-fit names o_is) (back-fits b_is sure))) in
      let v : Tree = pair c (pair m (pair w (pair g (pair o (pair r b))))) in
      subst (λ es. Fits names es (size v) (actions_in v)) (append_assoc (in_clause c) (in_clauses m) (in_conds w ++ (in_group g ++ (in_keys o ++ in_back b))))
      (fits-more (omega arith) (fits-append clauses rest))
