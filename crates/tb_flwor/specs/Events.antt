-- The variables of a query of clauses, in its tree: where they are bound and used, in the order of the
-- text.
use Rattle.std.specs.Prelude.{◌≡◌, ℕ, ◌-◌, if◌then◌else◌, List, [], ◌∷◌, ◌++◌, length, take, Option, Some, None}
use Rattle.tb_token.specs.grammar.Grammar.{Tok}
use Rattle.tb_token.specs.grammar.Sentences.{Tree, leaf, pair, first, second, Derives}
use Rattle.tb_token.specs.grammar.Queries.{rules, query}
use Rattle.tb_flwor.specs.Variables.{is_known, bound, first_repeated, first_unknown}

pub data Event : Type 0 where
  -- a binding
  binds : Tok → Event
  -- a use in the path of the variable that was bound last
  owns : Tok → Event
  -- any other use
  uses : Tok → Event

abbrev pub used : Tree → List Event
used (leaf t) = uses t ∷ []
used _ = []

abbrev pub owned : Tree → List Event
owned (leaf t) = owns t ∷ []
owned _ = []

abbrev pub bound_by : Tree → List Event
bound_by (leaf t) = binds t ∷ []
bound_by _ = []

-- doc step { step } | VARIABLE { step }
abbrev pub in_path : Tree → List Event
in_path (second (pair v steps)) = used v
in_path _ = []

-- the same, and ( doc | VARIABLE ) step { step }, where it is the path of a binding
abbrev pub in_own_path : Tree → List Event
in_own_path (second (pair v steps)) = owned v
in_own_path _ = []

abbrev pub in_longpath : Tree → List Event
in_longpath (pair (second v) steps) = owned v
in_longpath _ = []

-- path | agg "(" path ")"
abbrev pub in_operand : Tree → List Event
in_operand (first p) = in_path p
in_operand (second (pair a (pair opening (pair p closing)))) = in_path p
in_operand _ = []

-- VARIABLE [ ALLOWING EMPTY ] IN longpath
abbrev pub in_bind : Tree → List Event
in_bind (pair v (pair e (pair keyword p))) = bound_by v ++ in_longpath p
in_bind _ = []

-- { "," bind }
abbrev pub in_binds : Tree → List Event
in_binds (pair (pair comma b) rest) = in_bind b ++ in_binds rest
in_binds _ = []

-- FOR bind { "," bind } | LET VARIABLE ":=" longpath
abbrev pub in_clause : Tree → List Event
in_clause (first (pair keyword (pair b rest))) = in_bind b ++ in_binds rest
in_clause (second (pair keyword (pair v (pair sign p)))) = bound_by v ++ in_longpath p
in_clause _ = []

-- { clause }
abbrev pub in_clauses : Tree → List Event
in_clauses (pair c rest) = in_clause c ++ in_clauses rest
in_clauses _ = []

-- operand | literal
abbrev pub in_right : Tree → List Event
in_right (first o) = in_operand o
in_right _ = []

-- operand cmp ( operand | literal )
abbrev pub in_cond : Tree → List Event
in_cond (pair l (pair c r)) = in_operand l ++ in_right r
in_cond _ = []

-- { AND cond }
abbrev pub in_more_conds : Tree → List Event
in_more_conds (pair (pair keyword c) rest) = in_cond c ++ in_more_conds rest
in_more_conds _ = []

-- [ WHERE cond { AND cond } ]
abbrev pub in_conds : Tree → List Event
in_conds (pair keyword (pair c rest)) = in_cond c ++ in_more_conds rest
in_conds _ = []

-- [ GROUP BY VARIABLE ":=" path ]
abbrev pub in_group : Tree → List Event
in_group (pair keyword (pair by (pair v (pair sign p)))) = bound_by v ++ in_own_path p
in_group _ = []

-- operand [ ASCENDING | DESCENDING ]
abbrev pub in_key : Tree → List Event
in_key (pair o d) = in_operand o
in_key _ = []

-- { "," key }
abbrev pub in_more_keys : Tree → List Event
in_more_keys (pair (pair comma k) rest) = in_key k ++ in_more_keys rest
in_more_keys _ = []

-- [ ORDER BY key { "," key } ]
abbrev pub in_keys : Tree → List Event
in_keys (pair keyword (pair by (pair k rest))) = in_key k ++ in_more_keys rest
in_keys _ = []

-- "{" operand "}"
abbrev pub in_braced : Tree → List Event
in_braced (pair opening (pair o closing)) = in_operand o
in_braced _ = []

-- STRING | "{" operand "}"
abbrev pub in_content : Tree → List Event
in_content (second b) = in_braced b
in_content _ = []

-- { NAME "=" ( STRING | "{" operand "}" ) }
abbrev pub in_attrs : Tree → List Event
in_attrs (pair (pair n (pair sign c)) rest) = in_content c ++ in_attrs rest
in_attrs _ = []

abbrev mutual
  -- "<" and the rest of the constructor
  pub in_cons : Tree → List Event
  in_cons (pair opening rest) = in_cons_rest rest
  in_cons _ = []

  -- NAME { attr } ( "/>" | ">" { piece } "</" NAME ">" )
  pub in_cons_rest : Tree → List Event
  in_cons_rest (pair n (pair attrs tail)) = in_attrs attrs ++ in_tail tail
  in_cons_rest _ = []

  pub in_tail : Tree → List Event
  in_tail (second (pair opening (pair pieces closing))) = in_pieces pieces
  in_tail _ = []

  -- { piece }
  pub in_pieces : Tree → List Event
  in_pieces (pair p rest) = in_piece p ++ in_pieces rest
  in_pieces _ = []

  -- cons | STRING | "{" operand "}"
  pub in_piece : Tree → List Event
  in_piece (first c) = in_cons c
  in_piece (second c) = in_content c
  in_piece _ = []

-- path | cons
abbrev pub in_back : Tree → List Event
in_back (first p) = in_path p
in_back (second c) = in_cons c
in_back _ = []

-- clause { clause } [ where ] [ group ] [ order ] RETURN back
abbrev pub in_flwor : Tree → List Event
in_flwor (pair c (pair more (pair w (pair g (pair o (pair keyword b)))))) =
    in_clause c ++ (in_clauses more ++ (in_conds w ++ (in_group g ++ (in_keys o ++ in_back b))))
in_flwor _ = []

-- the names that are bound, in order
abbrev pub names_of : List Event → List (List ℕ)
names_of [] = []
names_of (binds t ∷ es) = t.bytes ∷ names_of es
names_of (owns t ∷ es) = names_of es
names_of (uses t ∷ es) = names_of es

-- without the last one
abbrev pub before_last : List (List ℕ) → List (List ℕ)
before_last names = take (length names - 1) names

-- the first use of a name that is not bound before, where these are; in its own path it is not, either
abbrev pub unknown_after : List (List ℕ) → List Event → Option ℕ
unknown_after known [] = None
unknown_after known (binds t ∷ es) = unknown_after (known ++ t.bytes ∷ []) es
unknown_after known (owns t ∷ es) =
    if is_known (before_last known) t.bytes then unknown_after known es else Some t.number
unknown_after known (uses t ∷ es) =
    if is_known known t.bytes then unknown_after known es else Some t.number

-- the first binding of a name that is bound before, where these are
abbrev pub repeated_after : List (List ℕ) → List Event → Option ℕ
repeated_after known [] = None
repeated_after known (binds t ∷ es) =
    if is_known known t.bytes then Some t.number else repeated_after (known ++ t.bytes ∷ []) es
repeated_after known (owns t ∷ es) = repeated_after known es
repeated_after known (uses t ∷ es) = repeated_after known es

-- what the tokens of a query of clauses say of its variables is so in its tree
pub record VariablesAgree : Type 0 where
  pub names : (s : List Tok) (v : Tree) → Derives rules (query ∷ []) (second v ∷ []) s → bound s ≡ names_of (in_flwor v)
  pub unknown : (s : List Tok) (v : Tree) → Derives rules (query ∷ []) (second v ∷ []) s → first_unknown s ≡ unknown_after [] (in_flwor v)
  pub repeated : (s : List Tok) (v : Tree) → Derives rules (query ∷ []) (second v ∷ []) s → first_repeated s ≡ repeated_after [] (in_flwor v)
