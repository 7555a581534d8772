-- The first values of a column, one row after the other.
use Rattle.std.proofs.Common.{◌≡◌, ℕ, ◌+◌, ◌<◌, List, [], ◌∷◌, ◌++◌, length, get_or, drop, Option, Some, None, refl, sym, ap, ◌∙◌, add-one, drop-cons, append_assoc}
use Rattle.std.specs.Option.{option_map}
use Rattle.std.proofs.lemmas.List.{map_push}
use Rattle.tb_tree.specs.Documents.{Docs}
use Rattle.tb_tree.specs.Rows as plain
use Rattle.tb_query.specs.Operands.{first_of}
use Rattle.tb_table.specs.declared.cell.Cell.{Cell}
use Rattle.tb_table.specs.declared.text.Text.{Text}
use Rattle.tb_table.specs.Rows.{no_cell}
use Rattle.tb_table.specs.Seen.{cell_seen, first_value}
use Rattle.tb_table.specs.Texts.{text_of}
use Rattle.tb_table.proofs.SeenRows.{cell-seen}
use Rattle.tb_group.specs.Firsts.{texts_of, first_at, firsts}

first-values : (cell : plain.Cell) → first_value cell ≡ first_of (plain.values_of cell)
first-values (plain.nodes []) = refl
first-values (plain.nodes (u ∷ us)) = refl
first-values (plain.value None) = refl
first-values (plain.value (Some v)) = refl

pub first-seen : (docs : Docs) (column : ℕ) (row : List Cell) (cell : Cell) → cell ≡ get_or row column no_cell → first_value (cell_seen docs cell) ≡ first_at docs column row
first-seen docs column row cell is =
    ap (λ c. first_value (cell_seen docs c)) is ∙ first-values (cell_seen docs (get_or row column no_cell)) ∙ ap (λ c. first_of (plain.values_of c)) (sym (cell-seen docs row column))

-- one row more
pub firsts-more : (docs : Docs) (column : ℕ) (rows : List (List Cell)) (i : ℕ) (texts : List (Option Text)) (text : Option Text) → i < length rows → option_map text_of text ≡ first_at docs column (get_or rows i [])
    → texts_of texts ++ firsts docs column (drop i rows) ≡ firsts docs column rows → texts_of (texts ++ text ∷ []) ++ firsts docs column (drop (i + 1) rows) ≡ firsts docs column rows
firsts-more docs column rows i texts text lt is so_far =
    let row : drop i rows ≡ get_or rows i [] ∷ drop (i + 1) rows = rw (add-one, drop-cons rows i []) refl in
    ap (λ l. l ++ firsts docs column (drop (i + 1) rows)) (map_push (option_map text_of) texts text ∙ ap (λ v. texts_of texts ++ v ∷ []) is)
    ∙ append_assoc (texts_of texts) (first_at docs column (get_or rows i []) ∷ []) (firsts docs column (drop (i + 1) rows))
    ∙ ap (λ rs. texts_of texts ++ firsts docs column rs) (sym row)
    ∙ so_far
