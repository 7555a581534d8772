use Rattle.std.proofs.Common.{◌≡◌, [], drop}
use Rattle.std.specs.List.{fold}
use Rattle.std.specs.Str.{bytes_eq}
use Rattle.tb_query.specs.Lists.{with_once}
use Rattle.tb_query.specs.Lent.{lent, IsNoted}
use Rattle.tb_query.proofs.names.each_once.Given as goal

-- the names so far, with those that are left, make the whole
abbrev pub invariant-names : goal.invariant-names
invariant-names l = record {
  noted : IsNoted l.seen.keys l.once.items;
  whole : fold (with_once bytes_eq) l.once.items (lent (drop l.name-index l.names)) ≡ fold (with_once bytes_eq) [] (lent l.names);
}
