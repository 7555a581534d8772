-- What of a node lies in one piece of its document's lines.
use Rattle.std.specs.Prelude.{ℕ, Bool, false, if◌then◌else◌, List, [], ◌∷◌, ◌++◌, Option, Some, None}
use Rattle.tb_tree.specs.Plain.{Plain, elem, attr, text, Plains, no_kids, kid}
use Rattle.tb_tree.specs.Sound.{is_text}
use Rattle.tb_tree.specs.Steps.{◌>>=◌}
use Rattle.tb_tree.specs.Written.{has_escape}

-- the texts below one by one, in document order: joined they are `texts_below`
abbrev pub texts_listed : Plains → List (List ℕ)
texts_listed no_kids = []
texts_listed (kid (elem name kids) rest) = texts_listed kids ++ texts_listed rest
texts_listed (kid (attr name value) rest) = texts_listed rest
texts_listed (kid (text value) rest) = value ∷ texts_listed rest

-- the only element of a list, d where it has none, and nothing where it has more
abbrev pub only_of : {X : Type 0} → X → List X → Option X
only_of d [] = Some d
only_of d (x ∷ []) = Some x
only_of d (x ∷ y ∷ xs) = None

-- the value where it lies in one piece: of an element that has at most one text below it
abbrev pub piece_of : Plain → Option (List ℕ)
piece_of (elem name kids) = only_of [] (texts_listed kids)
piece_of (attr name value) = Some value
piece_of (text value) = Some value

-- the piece where it prints as it is
abbrev pub unescaped_piece : List ℕ → Option (List ℕ)
unescaped_piece piece = if has_escape piece then None else Some piece

-- the value where it lies in one piece, and no byte of it is escaped
abbrev pub lent_of : Plain → Option (List ℕ)
lent_of node = piece_of node >>= unescaped_piece

-- the nodes but for the attributes
abbrev pub content_of : Plains → Plains
content_of no_kids = no_kids
content_of (kid (elem name kids) rest) = kid (elem name kids) (content_of rest)
content_of (kid (attr name value) rest) = content_of rest
content_of (kid (text value) rest) = kid (text value) (content_of rest)

-- the last of the nodes is a text
abbrev pub ends_with_text : Plains → Bool
ends_with_text no_kids = false
ends_with_text (kid k no_kids) = is_text k
ends_with_text (kid k (kid other rest)) = ends_with_text (kid other rest)
