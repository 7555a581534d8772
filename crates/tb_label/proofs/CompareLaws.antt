-- A value that is lent, or that prints in one piece, is the node's; and what comparisons say of it.
use Rattle.std.proofs.Common.{◌≡◌, ℕ, Bool, true, false, not, cond, List, Option, Some, None, ℤ, refl, ap, ◌∙◌}
use Rattle.std.specs.Str.{bytes_eq}
use Rattle.std.specs.Option.{option_map}
use Rattle.std.proofs.lemmas.Bool.{false≢true}
use Rattle.tb_tree.specs.Plain.{Plain}
use Rattle.tb_tree.specs.Value.{value_of}
use Rattle.tb_tree.specs.Printed.{escaped}
use Rattle.tb_tree.specs.Steps.{◌>>=◌}
use Rattle.tb_tree.specs.Written.{has_escape}
use Rattle.tb_tree.specs.Pieces.{piece_of, unescaped_piece, lent_of}
use Rattle.tb_tree.proofs.PieceLaws.{piece-value}
use Rattle.tb_number.specs.Comparison.{holds}
use Rattle.tb_number.specs.Reading.{integer_of}
use Rattle.tb_number.specs.Values.{bytes_cmp, number_or_bytes_cmp, stands_to_bytes, stands_to_value}
use Rattle.tb_number.specs.declared.op.CmpOp.{CmpOp}
use Rattle.tb_number.specs.declared.op.CmpOp.TheVariants.{Eq, Ne, Lt, Le, Gt, Ge}
use Rattle.tb_number.specs.KeyParts.{KeyParts}
use Rattle.tb_label.specs.Prepared.{is_equality, equality_holds}
use Rattle.tb_label.specs.PrintedKeys.{printed_parts}
use Rattle.tb_label.proofs.PrintedKeyLaws.{printed-equal, printed-other}

some-same : (a b : List ℕ) → Some a ≡ Some b → a ≡ b
some-same a b e = cc

raw-by : (node : Plain) (raw : List ℕ) (o : Option (List ℕ)) → piece_of node ≡ o → Some raw ≡ option_map escaped o → raw ≡ escaped (value_of node)
raw-by node raw None at e = absurd (let d : ◌≡◌ {A = Option (List ℕ)} (Some raw) None = e in cc)
raw-by node raw (Some value) at e = some-same raw (escaped value) e ∙ ap escaped (piece-value node value at)

pub raw-value : (node : Plain) (raw : List ℕ) → Some raw ≡ option_map escaped (piece_of node) → raw ≡ escaped (value_of node)
raw-value node raw e = raw-by node raw (piece_of node) refl e

plain-by : (value lent : List ℕ) (escapes : Bool) → has_escape value ≡ escapes → Some lent ≡ cond escapes None (Some value) → lent ≡ value
plain-by value lent true is e = absurd (let d : ◌≡◌ {A = Option (List ℕ)} (Some lent) None = e in cc)
plain-by value lent false is e = some-same lent value e

lent-by : (node : Plain) (lent : List ℕ) (o : Option (List ℕ)) → piece_of node ≡ o → Some lent ≡ (o >>= unescaped_piece) → lent ≡ value_of node
lent-by node lent None at e = absurd (let d : ◌≡◌ {A = Option (List ℕ)} (Some lent) None = e in cc)
lent-by node lent (Some value) at e = plain-by value lent (has_escape value) refl e ∙ piece-value node value at

pub lent-value : (node : Plain) (lent : List ℕ) → Some lent ≡ lent_of node → lent ≡ value_of node
lent-value node lent e = lent-by node lent (piece_of node) refl e

-- Whether two values are the same is told by how they print.
pub equality-printed : (op : CmpOp) (v w : List ℕ) (same : Bool) → is_equality op ≡ true → same ≡ bytes_eq (escaped v) (escaped w) → equality_holds op same ≡ stands_to_bytes op v w
equality-printed Eq v w same is e = e ∙ printed-equal v w
equality-printed Ne v w same is e = ap not e ∙ printed-other v w
equality-printed Lt v w same is e = absurd (false≢true is)
equality-printed Le v w same is e = absurd (false≢true is)
equality-printed Gt v w same is e = absurd (false≢true is)
equality-printed Ge v w same is e = absurd (false≢true is)

-- Where the other value is no integer text, bytes decide.
bytes-by : (op : CmpOp) (v w : List ℕ) (m : Option ℤ) → holds op (bytes_cmp v w) ≡ holds op (number_or_bytes_cmp m None v w)
bytes-by op v w None = refl
bytes-by op v w (Some m) = refl

pub value-bytes : (op : CmpOp) (v w : List ℕ) → None ≡ integer_of w → stands_to_bytes op v w ≡ stands_to_value op v w
value-bytes op v w none = bytes-by op v w (integer_of v) ∙ ap (λ n. holds op (number_or_bytes_cmp (integer_of v) n v w)) none

-- the key of a piece
pub key-piece : (o : Option (List ℕ)) (raw : List ℕ) (parts : KeyParts) → Some raw ≡ option_map escaped o → ((value : List ℕ) → raw ≡ escaped value → parts ≡ printed_parts value)
    → Some parts ≡ option_map printed_parts o
key-piece None raw parts e of = absurd (let d : ◌≡◌ {A = Option (List ℕ)} (Some raw) None = e in cc)
key-piece (Some value) raw parts e of = ap (λ p. Some p) (of value (some-same raw (escaped value) e))

pub key-no_piece : (o : Option (List ℕ)) → None ≡ option_map escaped o → None ≡ option_map printed_parts o
key-no_piece None e = refl
key-no_piece (Some value) e = absurd (let d : ◌≡◌ {A = Option (List ℕ)} None (Some (escaped value)) = e in cc)
