-- Kids that are put in one after the other. A text goes on where a text stands last, and one without a byte is
-- left out.
use Rattle.std.specs.Prelude.{◌++◌}
use Rattle.tb_tree.specs.Plain.{Plain, elem, attr, text, Plains, no_kids, kid, one}
use Rattle.tb_pattern.specs.WitnessTree.{texts_joined}

-- the last node, and the one that is put behind it
abbrev pub two : Plain → Plain → Plains
two (text value) (text more) = one (text (value ++ more))
two (text value) (elem name kids) = kid (text value) (one (elem name kids))
two (text value) (attr name more) = kid (text value) (one (attr name more))
two (elem name kids) next = kid (elem name kids) (texts_joined (one next))
two (attr name value) next = kid (attr name value) (texts_joined (one next))

-- a node and those behind it, with one more
abbrev pub with_last : Plain → Plains → Plain → Plains
with_last k no_kids next = two k next
with_last k (kid l rest) next = kid k (with_last l rest next)

-- one node more
abbrev pub with_kid : Plains → Plain → Plains
with_kid no_kids next = texts_joined (one next)
with_kid (kid k rest) next = with_last k rest next

-- nodes more, one after the other
abbrev pub with_kids : Plains → Plains → Plains
with_kids made no_kids = made
with_kids made (kid k rest) = with_kids (with_kid made k) rest
