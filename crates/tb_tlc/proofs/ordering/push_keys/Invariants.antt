use Rattle.std.proofs.Common.{◌≡◌, ◌++◌, ◌+◌, drop}
use Rattle.tb_tlc.specs.Planned.{keys_ops, keys_width, sort_keys}
use Rattle.tb_tlc.specs.Scopes.{seen}
use Rattle.tb_tlc.proofs.ordering.push_keys.Given as goal

-- what there is so far, with that of the keys that are left, makes the whole
abbrev pub invariant-keys : goal.invariant-keys
invariant-keys l =
    (l.ops.items ++ keys_ops (seen l.scope) l.next (drop l.key-index l.keys) ≡ l.initial.ops.items ++ keys_ops (seen l.scope) l.start l.keys)
    × (l.sorted.items ++ sort_keys l.next (drop l.key-index l.keys) ≡ l.initial.sorted.items ++ sort_keys l.start l.keys)
    × (l.next + keys_width (drop l.key-index l.keys) ≡ l.start + keys_width l.keys)
