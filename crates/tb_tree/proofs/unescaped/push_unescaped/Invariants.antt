use Rattle.std.proofs.Common.{◌≡◌, ◌++◌, length}
use Rattle.std.specs.Option.{option_map}
use Rattle.tb_tree.specs.Escapes.{unescaped}
use Rattle.tb_tree.proofs.unescaped.push_unescaped.Given as goal

abbrev pub decreases-escapes : goal.decreases-escapes
decreases-escapes l = length l.rest

-- what is given so far, with what the rest gives, makes the whole
abbrev pub invariant-escapes : goal.invariant-escapes
invariant-escapes l =
    option_map (λ given. l.out.items ++ given) (unescaped l.rest) ≡ option_map (λ given. l.initial.out.items ++ given) (unescaped l.raw)
