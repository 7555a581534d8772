-- Each query that is read can be planned.
use Rattle.std.proofs.Common.{◌≡◌, ℕ, ◌≤◌, Bool, true, false, cond, ◌&&◌, not, ◌==◌, List, [], ◌∷◌, ◌++◌, length, None, refl, sym, ap, ◌∙◌, subst, arith, append-nil}
use Rattle.std.specs.Prelude.{Ok}
use Rattle.std.specs.List.{AllByRecursion}
use Rattle.std.proofs.lemmas.Bool.{or_parts}
use Rattle.tb_token.specs.grammar.Grammar.{Tok}
use Rattle.tb_token.specs.grammar.Sentences.{Tree, leaf, nothing, pair, first, second, Derives}
use Rattle.tb_token.specs.grammar.Queries.{rules, query, flwor}
use Rattle.tb_token.specs.tokens.Lexemes.{toks_of}
use Rattle.tb_token.specs.tokens.TerminalNames as terminals
use Rattle.tb_token.specs.declared.lexer.token.Token.{Token}
use Rattle.tb_token.proofs.grammar.TerminalLaws.{apart-none}
use Rattle.tb_token.proofs.lexing.CutLaws.{rise-of_cut}
use Rattle.tb_token.proofs.lexing.LexemeLaws.{rise-few, toks-length}
use Rattle.tb_query.specs.Actions.{actions_of_flwor, size_of_actions}
use Rattle.tb_query.specs.Plannable.{AreBound, HasStep, IsNamed, IsDifferent, IsPlannable}
use Rattle.tb_query.specs.declared.query.Flwor as declared
use Rattle.tb_query.specs.declared.query.Query.{Query}
use Rattle.tb_query.specs.declared.query.Query.TheVariants.{Match, Flwor}
use Rattle.tb_pattern.proofs.PartLaws.{Of, of_one, of_both, of_first, of_second, derived-of}
use Rattle.tb_flwor.specs.Asked.{IsFlwor}
use Rattle.tb_flwor.specs.Calls.{Reads}
use Rattle.tb_flwor.specs.Constructors.{before_name, behind_return, results}
use Rattle.tb_flwor.specs.Events.{in_flwor}
use Rattle.tb_flwor.specs.Faults.{AreTokens, first_fault}
use Rattle.tb_flwor.specs.Returned.{tokens_of, back_tree}
use Rattle.tb_flwor.specs.Value.{BoundNames}
use Rattle.tb_flwor.specs.Variables.{is_match, clauses_in, bound, first_unknown, first_repeated}
use Rattle.tb_flwor.proofs.EventLaws.{variables-agree}
use Rattle.tb_flwor.proofs.FaultLaws.{none-wrong}
use Rattle.tb_flwor.proofs.FitsLaws.{size, size-is}
use Rattle.tb_flwor.proofs.MadeLaws.{actions_in, flwor-fits}
use Rattle.tb_flwor.proofs.NumberedLaws.{AreSaid, says, bound-of}
use Rattle.tb_flwor.proofs.ReturnedLaws.{results-agree}
use Rattle.tb_flwor.proofs.SpelledLaws.{IsSpelled, spelled-of_cut}
use Rattle.tb_flwor.proofs.SureLaws.{Sure}
use Rattle.tb_flwor.proofs.TokenLaws.{tokens-derived, swapped, second-of}

-- the tokens behind RETURN are spelled as all are
spelled-behind : (b : ℕ) (s : List Tok) → AllByRecursion IsSpelled s → AllByRecursion IsSpelled (behind_return b s)
spelled-behind b [] all = tt
spelled-behind b (t ∷ s) all = by (t.terminal == terminals.RETURN && not (before_name b)) (spelled-behind t.terminal s all.1)
  where
    by : (here : Bool) → AllByRecursion IsSpelled (behind_return t.terminal s) → AllByRecursion IsSpelled (cond here s (behind_return t.terminal s))
    by true rest = all.1
    by false rest = rest

-- a query of clauses begins with FOR or LET
no-match : {v : Tree} → Of flwor v → (rest : List Tok) → is_match (tokens_of v ++ rest) ≡ false
no-match (of_both (of_first (of_both (of_one {c = c} {t = t} h) f)) g) rest = swapped t.terminal terminals.MATCH ∙ (or_parts (terminals.MATCH == t.terminal) false (apart-none c (terminals.MATCH ∷ []) t.terminal refl h)).0
no-match (of_both (of_second (of_both (of_one {c = c} {t = t} h) f)) g) rest = swapped t.terminal terminals.MATCH ∙ (or_parts (terminals.MATCH == t.terminal) false (apart-none c (terminals.MATCH ∷ []) t.terminal refl h)).0

-- what a query of clauses does is what its tree does
same-actions : (names : BoundNames) (q : declared.Flwor) (v : Tree) → IsFlwor names q v → actions_of_flwor q ≡ actions_in names v
same-actions names q v is = rw (is.clauses_are, is.conds_are, is.group_is, is.keys_are, is.back_is) refl

flwor-plannable : (text : List ℕ) (ts : List Token) (q : declared.Flwor) (v : Tree) → AreTokens text ts None → first_fault (toks_of text ts) ≡ None
    → Derives rules (query ∷ []) (second v ∷ []) (toks_of text ts) → IsFlwor (bound (toks_of text ts)) q v → IsPlannable (Flwor q)
flwor-plannable text ts q v cut fine derived is =
    let s = toks_of text ts in
    let names = bound s in
    let of = second-of (derived-of derived).0 in
    let whole : s ≡ tokens_of v ++ [] = tokens-derived derived in
    let clauses : clauses_in s ≡ s = ap (λ m. cond m [] s) (ap is_match whole ∙ no-match of []) in
    let none = none-wrong s fine in
    let known = sym (variables-agree.unknown s v derived) ∙ ap first_unknown (sym clauses) ∙ none.known in
    let once = sym (variables-agree.repeated s v derived) ∙ ap first_repeated (sym clauses) ∙ none.once in
    let back : results s ≡ tokens_of (back_tree v) = results-agree s v derived in
    let spelled = subst (λ u. AllByRecursion IsSpelled u) back (spelled-behind terminals.FOR s (spelled-of_cut text ts None cut.1)) in
    let sure : Sure (back_tree v) = ([], spelled, ([], rw (append-nil (tokens_of (back_tree v)), sym back, sym clauses) none.attributes)) in
    let fits = flwor-fits names of sure in
    let said = says names [] (in_flwor v) (variables-agree.names s v derived) known once in
    let few = rise-few 0 (length text) ts (rise-of_cut text ts None cut.1) in
    let many : size v ≡ length s = sym (size-is v) ∙ ap length (sym (whole ∙ append-nil (tokens_of v))) in
    let same = sym (same-actions names q v is) in record {
      bound = subst (λ xs. AreBound 0 xs) same (bound-of 0 (actions_in names v) (subst (λ x. AreSaid 0 x) (sym fits.same) said));
      long = subst (λ xs. AllByRecursion HasStep xs) same fits.long;
      named = subst (λ xs. AllByRecursion IsNamed xs) same fits.named;
      different = subst (λ xs. AllByRecursion IsDifferent xs) same fits.different;
      few = let most = fits.few in subst (λ xs. size_of_actions xs ≤ 65536) same (omega (arith, most, many, few, cut.0, toks-length 1 text ts));
    }

-- each query that is read can be planned
pub read-plannable : (text : List ℕ) (q : Query) → Reads text (Ok q) → IsPlannable q
read-plannable text (Match p) reads = record { bound = tt; long = tt; named = tt; different = tt; few = omega arith }
read-plannable text (Flwor q) (ts, (cut, (fine, (second v, derived, is)))) = flwor-plannable text ts q v cut fine.1 derived is
read-plannable text (Flwor q) (ts, (cut, (fine, (first v, derived, is)))) = absurd is
read-plannable text (Flwor q) (ts, (cut, (fine, (leaf t, derived, is)))) = absurd is
read-plannable text (Flwor q) (ts, (cut, (fine, (nothing, derived, is)))) = absurd is
read-plannable text (Flwor q) (ts, (cut, (fine, (pair v w, derived, is)))) = absurd is
