-- Clauses are built one after the other, and each from its bindings.
use Rattle.std.proofs.Common.{◌≡◌, ℕ, Bool, true, false, ◌-◌, ◌≤◌, List, [], ◌∷◌, ◌++◌, length, drop, refl, ap, ◌∙◌, arith}
use Rattle.std.specs.Prelude.{codes}
use Rattle.tb_token.specs.grammar.Grammar.{Tok, Expression, both, maybe}
use Rattle.tb_token.specs.grammar.Sentences.{Tree, nothing, pair, first, second}
use Rattle.tb_token.specs.tokens.Lexemes.{place_in}
use Rattle.tb_token.specs.grammar.Terminals.{keyword, sign, variable, list_of, comma}
use Rattle.tb_token.specs.grammar.Paths.{longpath}
use Rattle.tb_token.specs.grammar.Queries.{bind, clause}
use Rattle.tb_token.specs.tokens.TerminalNames as terminals
use Rattle.tb_pattern.specs.Value.{bytes_in, is_there}
use Rattle.tb_pattern.specs.Building.{next, Next, begins, Builds}
use Rattle.tb_pattern.proofs.BuildingLaws.{one-builds, Both, both-builds, builds-as, First, Second, first-builds, second-builds, put_in-builds, left_out-builds}
use Rattle.tb_query.specs.declared.clause.Clause.{Clause}
use Rattle.tb_query.specs.declared.clause.Clause.TheVariants.{For, Let}
use Rattle.tb_query.specs.declared.path.Path.{Path}
use Rattle.tb_flwor.specs.Value.{BoundNames, bind_from, more_binds, clause_from, more_clauses}
use Rattle.tb_flwor.specs.Built.{Gives, GivesAll, IsLongpath, allowing, IsAllowed, AreBinds, BuildsClauses}
use Rattle.tb_pattern.proofs.RunLaws.{ListSoFar, Puts, list-start, list-next, list-end, behind-next, behind-end}

-- [ ALLOWING EMPTY ]

pub allowed-there : (s : List Tok) → begins (terminals.ALLOWING ∷ []) s ≡ true → Builds (maybe allowing) (IsAllowed true) s (drop 1 (drop 1 s))
allowed-there s e =
    put_in-builds allowing (IsAllowed true) s (drop 1 (drop 1 s)) e
    (builds-as allowing (Both (Next s) (Next (drop 1 s))) (IsAllowed true) s (drop 1 (drop 1 s)) (λ v b. ap is_there b.pair_is)
    (both-builds (keyword (codes "ALLOWING")) (keyword (codes "EMPTY")) (Next s) (Next (drop 1 s)) s (drop 1 s) (drop 1 (drop 1 s))
    (one-builds (terminals.ALLOWING ∷ []) s) (one-builds (terminals.EMPTY ∷ []) (drop 1 s))))

pub allowed-none : (s : List Tok) → begins (terminals.ALLOWING ∷ []) s ≡ false → Builds (maybe allowing) (IsAllowed false) s s
allowed-none s e = builds-as (maybe allowing) (λ v. v ≡ nothing) (IsAllowed false) s s (λ v f. ap is_there f) (left_out-builds allowing s e)

module _ (names : BoundNames) where
  -- the number of the variable of the next token
  abbrev var : List Tok → ℕ
  var s = place_in (bytes_in (next s)) names

  module _ (s mid left : List Tok) (is_empty : Bool) (path_is : Path) where
    abbrev Longpath : Tree → Type 0
    Longpath = IsLongpath names path_is

    abbrev In : Tree → Type 0
    In = Both (Next mid) Longpath

    abbrev Allowed : Tree → Type 0
    Allowed = Both (IsAllowed is_empty) In

    bind-is : (v : Tree) → Both (Next s) Allowed v → Gives (bind_from names) (For (var s) is_empty path_is) v
    bind-is v b behind =
        let e = b.two_is in
        let i = e.two_is in
        ap (λ x. bind_from names x behind) (b.pair_is ∙ ap (λ x. pair b.one x) (e.pair_is ∙ ap (λ x. pair e.one x) i.pair_is)) ∙ rw (b.one_is, e.one_is, i.two_is) refl

    pub bind-builds : Builds (maybe allowing) (IsAllowed is_empty) (drop 1 s) mid → Builds longpath Longpath (drop 1 mid) left
        → Builds bind (Gives (bind_from names) (For (var s) is_empty path_is)) s left
    bind-builds allowed_is longpath_is =
        builds-as bind (Both (Next s) Allowed) (Gives (bind_from names) (For (var s) is_empty path_is)) s left bind-is
        (both-builds variable (both (maybe allowing) (both (keyword (codes "IN")) longpath)) (Next s) Allowed s (drop 1 s) left (one-builds (terminals.VARIABLE ∷ []) s)
        (both-builds (maybe allowing) (both (keyword (codes "IN")) longpath) (IsAllowed is_empty) In (drop 1 s) mid left allowed_is
        (both-builds (keyword (codes "IN")) longpath (Next mid) Longpath mid (drop 1 mid) left (one-builds (terminals.IN ∷ []) mid) longpath_is)))

  -- bind { "," bind }

  abbrev other_bind : Expression
  other_bind = both comma bind

  abbrev pub BindsSoFar : List Clause → List Clause → List Tok → List Tok → Type 0
  BindsSoFar = ListSoFar other_bind (more_binds names)

  pub binds-start : (old : List Clause) (s : List Tok) → BindsSoFar old old s s
  binds-start old s = list-start other_bind (more_binds names) old s

  pub binds-next : (old found : List Clause) (is : Clause) (s mid left : List Tok) → begins (terminals.COMMA ∷ []) mid ≡ true → BindsSoFar old found s mid
      → Builds bind (Gives (bind_from names) is) (drop 1 mid) left → length left ≤ length (drop 1 mid) → BindsSoFar old (found ++ is ∷ []) s left
  binds-next old found is s mid left e far gives shorter =
      behind-next bind (bind_from names) (more_binds names) (terminals.COMMA ∷ []) old found is s mid left (λ a v w. refl) e far gives shorter

  pub binds-end : (is : Clause) (found : List Clause) (s mid left : List Tok) → begins (terminals.COMMA ∷ []) left ≡ false → Builds bind (Gives (bind_from names) is) s mid
      → BindsSoFar (is ∷ []) found mid left → Builds (list_of comma bind) (AreBinds names found) s left
  binds-end is found s mid left e gives far =
      builds-as (list_of comma bind) (Both (Gives (bind_from names) is) (λ v. is ∷ more_binds names v ≡ found)) (AreBinds names found) s left
      (λ v b w behind. ap (λ x. clause_from names (first (pair w x)) behind) b.pair_is ∙ ap (λ x. x ++ behind) (b.one_is (more_binds names b.two) ∙ b.two_is))
      (behind-end bind (bind_from names) (more_binds names) (terminals.COMMA ∷ []) is found s mid left refl e gives far)

  -- A clause.

  abbrev for_part : Expression
  for_part = both (keyword (codes "FOR")) (list_of comma bind)

  abbrev let_part : Expression
  let_part = both (keyword (codes "LET")) (both variable (both (sign (codes ":=")) longpath))

  pub clause-for : (found : List Clause) (s left : List Tok) → begins (terminals.FOR ∷ []) s ≡ true → Builds (list_of comma bind) (AreBinds names found) (drop 1 s) left
      → Builds clause (GivesAll (clause_from names) found) s left
  clause-for found s left e binds_are =
      builds-as clause (First (Both (Next s) (AreBinds names found))) (GivesAll (clause_from names) found) s left
      (λ v f behind. ap (λ x. clause_from names x behind) (f.first_is ∙ ap first f.one_is.pair_is) ∙ f.one_is.two_is f.one_is.one behind)
      (first-builds for_part let_part (Both (Next s) (AreBinds names found)) s left e
      (both-builds (keyword (codes "FOR")) (list_of comma bind) (Next s) (AreBinds names found) s (drop 1 s) left (one-builds (terminals.FOR ∷ []) s) binds_are))

  module _ (s left : List Tok) (path_is : Path) where
    abbrev Assigned : Tree → Type 0
    Assigned = Both (Next (drop 1 (drop 1 s))) (IsLongpath names path_is)

    abbrev Named : Tree → Type 0
    Named = Both (Next (drop 1 s)) Assigned

    pub clause-let : begins (terminals.FOR ∷ []) s ≡ false → Builds longpath (IsLongpath names path_is) (drop 1 (drop 1 (drop 1 s))) left
        → Builds clause (GivesAll (clause_from names) (Let (var (drop 1 s)) path_is ∷ [])) s left
    clause-let e longpath_is =
        builds-as clause (Second (Both (Next s) Named)) (GivesAll (clause_from names) (Let (var (drop 1 s)) path_is ∷ [])) s left
        (λ v f behind.
        let b = f.two_is in
        let n = b.two_is in
        let a = n.two_is in
        ap (λ x. clause_from names x behind) (f.second_is ∙ ap second (b.pair_is ∙ ap (λ x. pair b.one x) (n.pair_is ∙ ap (λ x. pair n.one x) a.pair_is))) ∙ rw (n.one_is, a.two_is) refl)
        (second-builds for_part let_part (Both (Next s) Named) s left refl e
        (both-builds (keyword (codes "LET")) (both variable (both (sign (codes ":=")) longpath)) (Next s) Named s (drop 1 s) left (one-builds (terminals.LET ∷ []) s)
        (both-builds variable (both (sign (codes ":=")) longpath) (Next (drop 1 s)) Assigned (drop 1 s) (drop 1 (drop 1 s)) left (one-builds (terminals.VARIABLE ∷ []) (drop 1 s))
        (both-builds (sign (codes ":=")) longpath (Next (drop 1 (drop 1 s))) (IsLongpath names path_is) (drop 1 (drop 1 s)) (drop 1 (drop 1 (drop 1 s))) left
        (one-builds (terminals.ASSIGN ∷ []) (drop 1 (drop 1 s))) longpath_is))))

  -- { clause }

  abbrev clause_terminals : List ℕ
  clause_terminals = terminals.FOR ∷ terminals.LET ∷ []

  abbrev pub ClausesSoFar : List Clause → List Clause → List Tok → List Tok → Type 0
  ClausesSoFar = ListSoFar clause (more_clauses names)

  pub clauses-start : (old : List Clause) (s : List Tok) → ClausesSoFar old old s s
  clauses-start old s = list-start clause (more_clauses names) old s

  pub clauses-next : (old found are : List Clause) (s mid left : List Tok) → begins clause_terminals mid ≡ true → ClausesSoFar old found s mid
      → Builds clause (GivesAll (clause_from names) are) mid left → length left ≤ length mid - 1 → ClausesSoFar old (found ++ are) s left
  clauses-next old found are s mid left e far gives shorter =
      list-next clause (more_clauses names) old found are s mid left refl e far
      (builds-as clause (GivesAll (clause_from names) are) (Puts clause (more_clauses names) are) mid left (λ v g w. g (more_clauses names w)) gives)
      (omega arith)

  pub clauses-end : (first_are found : List Clause) (s mid left : List Tok) → begins clause_terminals left ≡ false → Builds clause (GivesAll (clause_from names) first_are) s mid
      → ClausesSoFar first_are found mid left → BuildsClauses names found s left
  clauses-end first_are found s mid left e gives far = record {
    mid = mid;
    first_are = first_are;
    one = gives;
    others = list-end clause (more_clauses names) first_are found mid left refl e far;
  }
