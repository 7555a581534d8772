-- Groups and keys are built from their paths and operands.
use Rattle.std.proofs.Common.{◌≡◌, ℕ, Bool, true, false, ◌≤◌, List, [], ◌∷◌, ◌++◌, length, drop, Some, None, refl, ap, ◌∙◌}
use Rattle.std.specs.Prelude.{codes}
use Rattle.tb_token.specs.grammar.Grammar.{Tok, Expression, both, maybe}
use Rattle.tb_token.specs.grammar.Sentences.{Tree, nothing, pair}
use Rattle.tb_token.specs.tokens.Lexemes.{place_in}
use Rattle.tb_token.specs.grammar.Terminals.{keyword, sign, variable, list_of, comma}
use Rattle.tb_token.specs.grammar.Paths.{operand, path}
use Rattle.tb_token.specs.grammar.Queries.{group, key, order}
use Rattle.tb_token.specs.tokens.TerminalNames as terminals
use Rattle.tb_pattern.specs.Value.{bytes_in}
use Rattle.tb_pattern.specs.Building.{next, Next, begins, Builds}
use Rattle.tb_pattern.proofs.BuildingLaws.{one-builds, Both, both-builds, builds-as, put_in-builds, left_out-builds}
use Rattle.tb_query.specs.declared.clause.GroupBy.{GroupBy}
use Rattle.tb_query.specs.declared.clause.Key.{Key}
use Rattle.tb_query.specs.declared.operand.Operand.{Operand}
use Rattle.tb_query.specs.declared.path.Path.{Path}
use Rattle.tb_flwor.specs.Value.{BoundNames, is_keyword, group_of, key_from, more_keys, keys_of}
use Rattle.tb_flwor.specs.Built.{Gives, IsPath, IsOperand, IsGroup, direction, IsTurned, AreKeys}
use Rattle.tb_flwor.proofs.TokenLaws.{has-one}
use Rattle.tb_pattern.proofs.RunLaws.{ListSoFar, list-start, behind-next, behind-end}

-- [ ASCENDING | DESCENDING ]

abbrev direction_terminals : List ℕ
direction_terminals = terminals.ASCENDING ∷ terminals.DESCENDING ∷ []

turned-next : (s : List Tok) → is_keyword (codes "DESCENDING") (next s) ≡ begins (terminals.DESCENDING ∷ []) s
turned-next [] = refl
turned-next (t ∷ u) = has-one terminals.DESCENDING t.terminal

pub turned-there : (s : List Tok) → begins direction_terminals s ≡ true → Builds (maybe direction) (IsTurned (begins (terminals.DESCENDING ∷ []) s)) s (drop 1 s)
turned-there s e =
    put_in-builds direction (IsTurned (begins (terminals.DESCENDING ∷ []) s)) s (drop 1 s) e
    (builds-as direction (Next s) (IsTurned (begins (terminals.DESCENDING ∷ []) s)) s (drop 1 s) (λ v f. ap (is_keyword (codes "DESCENDING")) f ∙ turned-next s)
    (one-builds direction_terminals s))

pub turned-none : (s : List Tok) → begins direction_terminals s ≡ false → Builds (maybe direction) (IsTurned false) s s
turned-none s e = builds-as (maybe direction) (λ v. v ≡ nothing) (IsTurned false) s s (λ v f. ap (is_keyword (codes "DESCENDING")) f) (left_out-builds direction s e)

module _ (names : BoundNames) where
  -- GROUP BY VARIABLE ":=" path
  module _ (s left : List Tok) (path_is : Path) where
    abbrev s1 : List Tok
    s1 = drop 1 s

    abbrev s2 : List Tok
    s2 = drop 1 s1

    abbrev s3 : List Tok
    s3 = drop 1 s2

    abbrev Assigned : Tree → Type 0
    Assigned = Both (Next s3) (IsPath names path_is)

    abbrev Named : Tree → Type 0
    Named = Both (Next s2) Assigned

    abbrev By : Tree → Type 0
    By = Both (Next s1) Named

    abbrev grouped : GroupBy
    grouped = record { var = place_in (bytes_in (next s2)) names; path = path_is }

    group-is : (v : Tree) → Both (Next s) By v → IsGroup names (Some grouped) v
    group-is v b =
        let y = b.two_is in
        let n = y.two_is in
        let a = n.two_is in
        ap (group_of names) (b.pair_is ∙ ap (λ x. pair b.one x) (y.pair_is ∙ ap (λ x. pair y.one x) (n.pair_is ∙ ap (λ x. pair n.one x) a.pair_is))) ∙ rw (n.one_is, a.two_is) refl

    pub group-there : begins (terminals.GROUP ∷ []) s ≡ true → Builds path (IsPath names path_is) (drop 1 s3) left → Builds (maybe group) (IsGroup names (Some grouped)) s left
    group-there e path_builds =
        put_in-builds group (IsGroup names (Some grouped)) s left e
        (builds-as group (Both (Next s) By) (IsGroup names (Some grouped)) s left group-is
        (both-builds (keyword (codes "GROUP")) (both (keyword (codes "BY")) (both variable (both (sign (codes ":=")) path))) (Next s) By s s1 left (one-builds (terminals.GROUP ∷ []) s)
        (both-builds (keyword (codes "BY")) (both variable (both (sign (codes ":=")) path)) (Next s1) Named s1 s2 left (one-builds (terminals.BY ∷ []) s1)
        (both-builds variable (both (sign (codes ":=")) path) (Next s2) Assigned s2 s3 left (one-builds (terminals.VARIABLE ∷ []) s2)
        (both-builds (sign (codes ":=")) path (Next s3) (IsPath names path_is) s3 (drop 1 s3) left (one-builds (terminals.ASSIGN ∷ []) s3) path_builds)))))

  pub group-none : (s : List Tok) → begins (terminals.GROUP ∷ []) s ≡ false → Builds (maybe group) (IsGroup names None) s s
  group-none s e = builds-as (maybe group) (λ v. v ≡ nothing) (IsGroup names None) s s (λ v f. ap (group_of names) f) (left_out-builds group s e)

  -- Keys.

  pub key-builds : (o : Operand) (turned : Bool) (s mid left : List Tok) → Builds operand (IsOperand names o) s mid → Builds (maybe direction) (IsTurned turned) mid left
      → Builds key (Gives (key_from names) (record { operand = o; descending = turned })) s left
  key-builds o turned s mid left operand_is turned_is =
      builds-as key (Both (IsOperand names o) (IsTurned turned)) (Gives (key_from names) (record { operand = o; descending = turned })) s left
      (λ v b behind. ap (λ x. key_from names x behind) b.pair_is ∙ rw (b.one_is, b.two_is) refl)
      (both-builds operand (maybe direction) (IsOperand names o) (IsTurned turned) s mid left operand_is turned_is)

  abbrev other_key : Expression
  other_key = both comma key

  abbrev pub KeysSoFar : List Key → List Key → List Tok → List Tok → Type 0
  KeysSoFar = ListSoFar other_key (more_keys names)

  pub keys-start : (old : List Key) (s : List Tok) → KeysSoFar old old s s
  keys-start old s = list-start other_key (more_keys names) old s

  pub keys-next : (old found : List Key) (is : Key) (s mid left : List Tok) → begins (terminals.COMMA ∷ []) mid ≡ true → KeysSoFar old found s mid
      → Builds key (Gives (key_from names) is) (drop 1 mid) left → length left ≤ length (drop 1 mid) → KeysSoFar old (found ++ is ∷ []) s left
  keys-next old found is s mid left e far gives shorter =
      behind-next key (key_from names) (more_keys names) (terminals.COMMA ∷ []) old found is s mid left (λ a v w. refl) e far gives shorter

  module _ (is : Key) (found : List Key) (s mid left : List Tok) where
    abbrev Listed : Tree → Type 0
    Listed = Both (Gives (key_from names) is) (λ v. is ∷ more_keys names v ≡ found)

    abbrev Ordered : Tree → Type 0
    Ordered = Both (Next (drop 1 s)) Listed

    pub keys-end : begins (terminals.ORDER ∷ []) s ≡ true → begins (terminals.COMMA ∷ []) left ≡ false → Builds key (Gives (key_from names) is) (drop 1 (drop 1 s)) mid
        → KeysSoFar (is ∷ []) found mid left → Builds (maybe order) (AreKeys names found) s left
    keys-end e f gives far =
        put_in-builds order (AreKeys names found) s left e
        (builds-as order (Both (Next s) Ordered) (AreKeys names found) s left
        (λ v b.
        let o = b.two_is in
        let l = o.two_is in
        ap (keys_of names) (b.pair_is ∙ ap (λ x. pair b.one x) (o.pair_is ∙ ap (λ x. pair o.one x) l.pair_is)) ∙ l.one_is (more_keys names l.two) ∙ l.two_is)
        (both-builds (keyword (codes "ORDER")) (both (keyword (codes "BY")) (list_of comma key)) (Next s) Ordered s (drop 1 s) left (one-builds (terminals.ORDER ∷ []) s)
        (both-builds (keyword (codes "BY")) (list_of comma key) (Next (drop 1 s)) Listed (drop 1 s) (drop 1 (drop 1 s)) left (one-builds (terminals.BY ∷ []) (drop 1 s))
        (behind-end key (key_from names) (more_keys names) (terminals.COMMA ∷ []) is found (drop 1 (drop 1 s)) mid left refl f gives far))))

  pub keys-none : (s : List Tok) → begins (terminals.ORDER ∷ []) s ≡ false → Builds (maybe order) (AreKeys names []) s s
  keys-none s e = builds-as (maybe order) (λ v. v ≡ nothing) (AreKeys names []) s s (λ v f. ap (keys_of names) f) (left_out-builds order s e)
