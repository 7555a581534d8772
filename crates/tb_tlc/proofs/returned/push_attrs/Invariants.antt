use Rattle.std.proofs.Common.{◌≡◌, ◌++◌, ◌+◌, drop}
use Rattle.tb_tlc.specs.Returned.{attrs_ops, attrs_width, attrs_shape}
use Rattle.tb_tlc.specs.Scopes.{seen}
use Rattle.tb_tlc.proofs.returned.push_attrs.Given as goal

-- what there is so far, with that of the attributes that are left, makes the whole
abbrev pub invariant-attrs : goal.invariant-attrs
invariant-attrs l =
    (l.ops.items ++ attrs_ops (seen l.scope) l.next (drop l.attr-index l.attrs) ≡ l.initial.ops.items ++ attrs_ops (seen l.scope) l.start l.attrs)
    × (l.shapes.items ++ attrs_shape l.next (drop l.attr-index l.attrs) ≡ attrs_shape l.start l.attrs)
    × (l.next + attrs_width (drop l.attr-index l.attrs) ≡ l.start + attrs_width l.attrs)
