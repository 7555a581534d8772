-- The text of a node, lent or made.
use Rattle.std.specs.Prelude.{ℕ, List}
use Rattle.tb_table.specs.declared.text.Text.{Text}
use Rattle.tb_table.specs.declared.text.Text.TheVariants.{Lent, Made}

abbrev pub text_of : Text → List ℕ
text_of (Lent text) = text.now
text_of (Made text) = text
