use Rattle.std.proofs.Common.{◌≡◌, ℕ, [], length, take}
use Rattle.tb_label.specs.Lists.{items_at}
use Rattle.tb_label.proofs.lists.Names.new.Given as goal

-- the names so far have their numbers, and empty lists
abbrev pub invariant-names : goal.invariant-names
invariant-names l = record {
  names : l.table ≡ take l.name-index l.names;
  empty : (k : ℕ) → items_at (record { names = l.table; lists = l.lists }) k ≡ [];
  count : length l.lists.items ≡ l.name-index;
}
