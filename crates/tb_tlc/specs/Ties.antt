-- Which conditions tie a variable to an earlier one, so that a plan can join by value where `FOR` binds it.
use Rattle.std.specs.Prelude.{ℕ, ◌==◌, Bool, true, false, not, ◌&&◌, ◌||◌, if◌then◌else◌, List, [], ◌∷◌, Option, None, fold, flat_map}
use Rattle.std.specs.List.{find}
use Rattle.tb_number.specs.declared.op.CmpOp.{CmpOp}
use Rattle.tb_number.specs.declared.op.CmpOp.TheVariants.{Eq, Ne, Lt, Le, Gt, Ge}
use Rattle.tb_query.specs.Tuples.{Lets, standing}
use Rattle.tb_query.specs.declared.path.Path.{Path}
use Rattle.tb_query.specs.declared.path.Start.{Start}
use Rattle.tb_query.specs.declared.path.Start.TheVariants.{Document, Var}
use Rattle.tb_query.specs.declared.operand.Operand.{Operand}
use Rattle.tb_query.specs.declared.operand.Operand.TheVariants.{Nodes, Agg}
use Rattle.tb_query.specs.declared.operand.Right.{Right}
use Rattle.tb_query.specs.declared.operand.Right.TheVariants as right
use Rattle.tb_query.specs.declared.operand.Comparison.{Comparison}
use Rattle.tb_query.specs.declared.clause.Clause.{Clause}
use Rattle.tb_query.specs.declared.clause.Clause.TheVariants.{For, Let}

-- two paths that have an equal value wherever a tuple is kept; they start at no variable of `LET`
abbrev pub Tie : Type 0
Tie = Path × Path

abbrev pub is_equality : CmpOp → Bool
is_equality Eq = true
is_equality Ne = false
is_equality Lt = false
is_equality Le = false
is_equality Gt = false
is_equality Ge = false

-- one either way round
abbrev pub both_ways : Bool → Path → Path → List Tie
both_ways b left right = if b then (left, right) ∷ (right, left) ∷ [] else []

-- of an equality of two paths; any other condition ties nothing
abbrev pub ties_of_sides : Lets → CmpOp → Operand → Right → List Tie
ties_of_sides lets op (Nodes left) (right.Operand (Nodes r)) =
    both_ways (is_equality op) (standing lets left) (standing lets r)
ties_of_sides lets op (Nodes left) (right.Operand (Agg kind path)) = []
ties_of_sides lets op (Nodes left) (right.Literal to) = []
ties_of_sides lets op (Agg kind path) r = []

abbrev pub ties_of : Lets → Comparison → List Tie
ties_of lets c = ties_of_sides lets c.op c.left c.right

-- of all conditions, in written order
abbrev pub ties : Lets → List Comparison → List Tie
ties lets conds = flat_map (ties_of lets) conds

-- the paths of the variables of `LET`
abbrev pub with_let : Lets → Clause → Lets
with_let lets (For var empty path) = lets
with_let lets (Let var path) = (var, standing lets path) ∷ lets

abbrev pub lets_after : Lets → List Clause → Lets
lets_after lets clauses = fold with_let lets clauses

-- `FOR` binds the variable
abbrev pub binds : ℕ → Clause → Bool
binds var (For v empty path) = var == v
binds var (Let v path) = false

-- none of the clauses does
abbrev pub is_free : ℕ → List Clause → Bool
is_free var [] = true
is_free var (c ∷ clauses) = not (binds var c) && is_free var clauses

abbrev pub starts_at : ℕ → Start → Bool
starts_at var (Document name) = false
starts_at var (Var v) = var == v

-- the variable has a column
abbrev pub has_column : ℕ → List (ℕ × ℕ) → Bool
has_column var [] = false
has_column var (c ∷ columns) = (var == c.0) || has_column var columns

-- at another variable that has a column already, and that the clauses to come don't bind
abbrev pub starts_before : List (ℕ × ℕ) → ℕ → List Clause → Start → Bool
starts_before columns var later (Document name) = false
starts_before columns var later (Var v) = not (v == var) && (has_column v columns && is_free v later)

-- the tie leads from an earlier variable to this one
abbrev pub leads_to : List (ℕ × ℕ) → ℕ → List Clause → Tie → Bool
leads_to columns var later tie =
    starts_at var tie.1.start && starts_before columns var later tie.0.start

abbrev pub is_document : Start → Bool
is_document (Document name) = true
is_document (Var v) = false

-- The first tie that leads to a variable which `FOR` binds to the nodes of a path from a document, and which
-- the clauses to come don't bind again.
abbrev pub tie_for : List Tie → List (ℕ × ℕ) → ℕ → Start → List Clause → Option Tie
tie_for all columns var start later =
    if is_document start && is_free var later then find (leads_to columns var later) all else None
