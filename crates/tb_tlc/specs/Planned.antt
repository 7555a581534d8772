-- The plan of a query of clauses: what each part of it adds to the operators, and which columns it gets.
use Rattle.std.specs.Prelude.{ℕ, ◌+◌, ◌==◌, Bool, if◌then◌else◌, List, [], ◌∷◌, ◌++◌, Option, Some, None}
use Rattle.tb_tree.specs.declared.against.Against.{Against}
use Rattle.tb_tree.specs.declared.against.Against.TheVariants as against
use Rattle.tb_number.specs.declared.sort_key.SortKey.{SortKey}
use Rattle.tb_pattern.specs.declared.cond.Literal.{Literal}
use Rattle.tb_pattern.specs.declared.cond.Literal.TheVariants as literal
use Rattle.tb_pattern.specs.declared.pattern.Mark.{Mark}
use Rattle.tb_pattern.specs.declared.pattern.Mark.TheVariants as mark
use Rattle.tb_query.specs.Comparisons.{as_tested}
use Rattle.tb_query.specs.Tuples.{Lets, standing}
use Rattle.tb_query.specs.declared.path.Path.{Path}
use Rattle.tb_query.specs.declared.path.Start.{Start}
use Rattle.tb_query.specs.declared.path.Start.TheVariants as start
use Rattle.tb_query.specs.declared.operand.Operand.{Operand}
use Rattle.tb_query.specs.declared.operand.Operand.TheVariants as operand
use Rattle.tb_query.specs.declared.operand.Right.{Right}
use Rattle.tb_query.specs.declared.operand.Right.TheVariants as right
use Rattle.tb_query.specs.declared.operand.Comparison.{Comparison}
use Rattle.tb_query.specs.declared.clause.Clause.{Clause}
use Rattle.tb_query.specs.declared.clause.Clause.TheVariants.{For, Let}
use Rattle.tb_query.specs.declared.clause.GroupBy.{GroupBy}
use Rattle.tb_query.specs.declared.clause.Key.{Key}
use Rattle.tb_tlc.specs.Ties.{Tie, tie_for}
use Rattle.tb_tlc.specs.declared.plan.ColumnStart.{ColumnStart}
use Rattle.tb_tlc.specs.declared.plan.ColumnStart.TheVariants.{Document, Column}
use Rattle.tb_tlc.specs.declared.plan.Op.{Op}
use Rattle.tb_tlc.specs.declared.plan.Op.TheVariants.{Select, Filter, ValueJoin, Group, Aggregate, Order}

-- variables with their columns, the last one bound first
abbrev pub Columns : Type 0
Columns = List (ℕ × ℕ)

-- the column of a variable; that of one that isn't there is the next one, which isn't there either
abbrev pub column_of : ℕ → ℕ → Columns → ℕ
column_of next var [] = next
column_of next var (c ∷ columns) = if var == c.0 then c.1 else column_of next var columns

-- what variables stand for: a variable of `LET` for a path, any other for a column
pub record Scope : Type 0 where
  pub lets : Lets
  pub columns : Columns

-- where a path that starts at no variable of `LET` starts
abbrev pub column_start : ℕ → Columns → Start → ColumnStart
column_start next columns (start.Document name) = Document name
column_start next columns (start.Var var) = Column (column_of next var columns)

-- a column with the nodes of a path that starts at no variable of `LET`
abbrev pub stand_op : Columns → ℕ → Mark → Path → Op
stand_op columns next mark path = Select (column_start next columns path.start) path.steps mark

-- a column with the nodes of any path
abbrev pub path_op : Scope → ℕ → Mark → Path → Op
path_op s next mark path = stand_op s.columns next mark (standing s.lets path)

-- An operand has a column for its nodes, and an aggregate one more for its value.
abbrev pub operand_ops : Scope → ℕ → Operand → List Op
operand_ops s next (operand.Nodes path) = path_op s next mark.Any path ∷ []
operand_ops s next (operand.Agg kind path) = path_op s next mark.Any path ∷ Aggregate next kind ∷ []

abbrev pub operand_width : Operand → ℕ
operand_width (operand.Nodes path) = 1
operand_width (operand.Agg kind path) = 2

-- the column with the values of an operand
abbrev pub operand_column : ℕ → Operand → ℕ
operand_column next (operand.Nodes path) = next
operand_column next (operand.Agg kind path) = next + 1

-- The left operand of a condition, the right one where there is one, and the filter.
abbrev pub right_ops : Scope → ℕ → Right → List Op
right_ops s next (right.Operand o) = operand_ops s next o
right_ops s next (right.Literal to) = []

abbrev pub right_width : Right → ℕ
right_width (right.Operand o) = operand_width o
right_width (right.Literal to) = 0

abbrev pub literal_against : Literal → Against
literal_against (literal.Number n) = against.Number n
literal_against (literal.Text bytes) = against.Text bytes

abbrev pub right_against : ℕ → Right → Against
right_against next (right.Operand o) = against.Column (operand_column next o)
right_against next (right.Literal to) = literal_against to

abbrev pub cond_ops : Scope → ℕ → Comparison → List Op
cond_ops s next c =
    operand_ops s next c.left
    ++ (right_ops s (next + operand_width c.left) c.right
    ++ Filter (operand_column next c.left) c.op (right_against (next + operand_width c.left) c.right) ∷ [])

abbrev pub cond_width : Comparison → ℕ
cond_width c = operand_width c.left + right_width c.right

abbrev pub conds_ops : Scope → ℕ → List Comparison → List Op
conds_ops s next [] = []
conds_ops s next (c ∷ conds) = cond_ops s next c ++ conds_ops s (next + cond_width c) conds

abbrev pub conds_width : List Comparison → ℕ
conds_width [] = 0
conds_width (c ∷ conds) = cond_width c + conds_width conds

-- what is planned so far: operators, what variables stand for, and the next column
pub record Draft : Type 0 where
  pub ops : List Op
  pub scope : Scope
  pub next : ℕ

abbrev pub for_mark : Bool → Mark
for_mark empty = if empty then mark.Optional else mark.One

-- `FOR` adds a column for its variable. Where a tie leads to the variable, the nodes of the tie's paths have
-- columns too, and the rows in which these have an equal value are kept. The path starts at no variable of `LET`.
abbrev pub with_stood : Draft → ℕ → Mark → Path → Option Tie → Draft
with_stood d var own path None = record {
  ops = d.ops ++ stand_op d.scope.columns d.next own path ∷ [];
  scope = record { lets = d.scope.lets; columns = (var, d.next) ∷ d.scope.columns };
  next = d.next + 1;
}
with_stood d var own path (Some tie) = record {
  ops = d.ops
      ++ stand_op d.scope.columns d.next mark.Any tie.0
      ∷ stand_op d.scope.columns (d.next + 1) own path
      ∷ stand_op ((var, d.next + 1) ∷ d.scope.columns) (d.next + 2) mark.Any tie.1
      ∷ ValueJoin d.next (d.next + 2)
      ∷ [];
  scope = record { lets = d.scope.lets; columns = (var, d.next + 1) ∷ d.scope.columns };
  next = d.next + 3;
}

abbrev pub with_for : Draft → ℕ → Bool → Path → Option Tie → Draft
with_for d var empty path tie = with_stood d var (for_mark empty) (standing d.scope.lets path) tie

-- a clause, with those to come; `LET` adds no column
abbrev pub with_clause : List Tie → List Clause → Draft → Clause → Draft
with_clause all later d (For var empty path) =
    with_for d var empty path (tie_for all d.scope.columns var (standing d.scope.lets path).start later)
with_clause all later d (Let var path) = record {
  ops = d.ops;
  scope = record { lets = (var, standing d.scope.lets path) ∷ d.scope.lets; columns = d.scope.columns };
  next = d.next;
}

-- clauses in written order
abbrev pub with_clauses : List Tie → Draft → List Clause → Draft
with_clauses all d [] = d
with_clauses all d (c ∷ later) = with_clauses all (with_clause all later d c) later

-- nothing is planned yet
abbrev pub first_draft : Draft
first_draft = record { ops = []; scope = record { lets = []; columns = [] }; next = 0 }

-- conditions in the order in which they are tested
abbrev pub with_conds : Draft → List Comparison → Draft
with_conds d conds = record {
  ops = d.ops ++ conds_ops d.scope d.next (as_tested conds);
  scope = d.scope;
  next = d.next + conds_width (as_tested conds);
}

-- `GROUP BY` adds a column for its path and one for its variable
abbrev pub with_group : Draft → Option GroupBy → Draft
with_group d None = d
with_group d (Some by) = record {
  ops = d.ops ++ path_op d.scope d.next mark.Any by.path ∷ Group d.next ∷ [];
  scope = record { lets = d.scope.lets; columns = (by.var, d.next + 1) ∷ d.scope.columns };
  next = d.next + 2;
}

-- the operands of keys, and the order by them
abbrev pub keys_ops : Scope → ℕ → List Key → List Op
keys_ops s next [] = []
keys_ops s next (k ∷ keys) = operand_ops s next k.operand ++ keys_ops s (next + operand_width k.operand) keys

abbrev pub keys_width : List Key → ℕ
keys_width [] = 0
keys_width (k ∷ keys) = operand_width k.operand + keys_width keys

abbrev pub sort_keys : ℕ → List Key → List SortKey
sort_keys next [] = []
sort_keys next (k ∷ keys) =
    record { column = operand_column next k.operand; descending = k.descending }
    ∷ sort_keys (next + operand_width k.operand) keys

abbrev pub order_ops : ℕ → List Key → List Op
order_ops next [] = []
order_ops next (k ∷ keys) = Order (sort_keys next (k ∷ keys)) ∷ []

abbrev pub with_keys : Draft → List Key → Draft
with_keys d keys = record {
  ops = d.ops ++ (keys_ops d.scope d.next keys ++ order_ops d.next keys);
  scope = d.scope;
  next = d.next + keys_width keys;
}
