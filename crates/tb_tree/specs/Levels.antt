-- How deep a document is.
use Rattle.std.specs.Prelude.{ℕ, ◌+◌, max}
use Rattle.tb_tree.specs.Plain.{elem, attr, text, Plains, no_kids, kid}

-- how many elements are inside each other, at most
abbrev pub levels : Plains → ℕ
levels no_kids = 0
levels (kid (elem name kids) rest) = max (1 + levels kids) (levels rest)
levels (kid (attr name value) rest) = levels rest
levels (kid (text value) rest) = levels rest
